-- The walk so far, and the place of each of its blocks.
use Rattle.std.proofs.Common.{◌≡◌, ◌≤◌, length}
use Rattle.pit_model.specs.Cycle.{IsWalk}
use Rattle.csr.specs.View.{pairs_in}
use Rattle.csr.specs.Left.{left_over}
use Rattle.mine_graph.proofs.Walking.{ArePlaces}
use Rattle.mine_graph.proofs.cycle.walk_round.Given as goal

abbrev pub invariant-loop-count : goal.invariant-loop-count
invariant-loop-count l = record {
  walk : IsWalk (pairs_in l.rows) (left_over l.left) l.path l.count;
  at : ArePlaces l.path l.count l.places;
  path_size : length l.path ≡ length l.left;
  places_size : length l.places ≡ length l.left;
  room : l.count ≤ length l.path;
}
