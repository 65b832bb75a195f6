use Rattle.std.proofs.Common.{◌≡◌}
use Rattle.std.specs.Prelude.{unsigned_abs}
use Rattle.pit_model.specs.Rank.{rank}
use Rattle.merging.proofs.closing.merge_all.Given as goal

abbrev pub decreases-mergers : goal.decreases-mergers
decreases-mergers l = unsigned_abs (rank l.tree.mine l.tree.tree)

abbrev pub invariant-mergers : goal.invariant-mergers
invariant-mergers l = l.tree.mine ≡ l.initial.tree.mine
