-- The rows of the blocks so far are added.
use Rattle.std.proofs.Common.{◌≡◌, ◌≤◌, length, map}
use Rattle.pit_model.specs.Mine.{members}
use Rattle.mine_graph.specs.Renumbered.{has_label, placed_pair, is_inside_before}
use Rattle.pit_model.proofs.Members.{bound_of}
use Rattle.mine_graph.proofs.part.pairs_within.Given as goal

abbrev pub invariant-loop-i : goal.invariant-loop-i
invariant-loop-i l = record {
  row : l.needs.blocks ≤ l.i;
  added : l.needs.pairs ≡ map (placed_pair l.graph.pairs l.chosen.places.now) (members (length l.graph.pairs)
      (is_inside_before l.graph.pairs l.chosen.labels.now l.chosen.label (bound_of l.graph.blocks (has_label l.chosen.labels.now l.chosen.label) l.i)));
}
