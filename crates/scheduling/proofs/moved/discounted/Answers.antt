-- What is moved is small.
use Rattle.std.proofs.Common.{◌∙◌, sym, subst, arith}
use Rattle.std.specs.Int.{w128}
use Rattle.std.proofs.lemmas.Int.{to_z-of_z}
use mir.Val.{SFits}
use Rattle.scheduling.specs.Limits.{IsWithinDistance}
use Rattle.scheduling.proofs.MovedAmounts.{most_moved, moved_within}
use Rattle.scheduling.proofs.moved.discounted.Goals as goal

pub scaled-requires-clause-moved : goal.scaled-requires-clause-moved
scaled-requires-clause-moved c =
    let problem = c.args.problem.now in
    let fits : SFits w128 c.moved.result = record { sfits = c.moved.type_inv } in
    subst (IsWithinDistance most_moved) (sym (to_z-of_z w128 c.moved.result fits ∙ c.moved.ensures))
    (moved_within problem c.args.shares.now c.law.ensures c.requires.shares c.args.period c.args.term.destination c.args.term.column problem.blocks (omega arith) c.requires.period c.requires.term.destination c.requires.term.column)
