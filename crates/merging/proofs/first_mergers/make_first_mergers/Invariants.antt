use Rattle.std.proofs.Common.{◌≡◌}
use Rattle.pit_model.specs.FirstRun.{first_run}
use Rattle.merging.proofs.first_mergers.make_first_mergers.Given as goal

abbrev pub invariant-mergers : goal.invariant-mergers
invariant-mergers l = (l.tree.mine ≡ l.initial.tree.mine) × (l.tree.tree ≡ first_run l.initial.tree.mine l._made)
