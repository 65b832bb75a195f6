-- The pairs of the row so far are added.
use Rattle.std.proofs.Common.{◌≡◌, length, map}
use Rattle.pit_model.specs.Mine.{members}
use Rattle.mine_graph.specs.Renumbered.{placed_pair}
use Rattle.mine_graph.proofs.Renumbering.{inside_so_far}
use Rattle.mine_graph.proofs.part.add_row.Given as goal

abbrev pub invariant-loop-k : goal.invariant-loop-k
invariant-loop-k l = record {
  row : l.needs.blocks ≡ l.initial.needs.blocks;
  added : l.needs.pairs ≡ map (placed_pair l.graph.pairs l.chosen.places.now) (members (length l.graph.pairs) (inside_so_far l.graph.pairs l.chosen.labels.now l.chosen.label l.block l.k));
}
