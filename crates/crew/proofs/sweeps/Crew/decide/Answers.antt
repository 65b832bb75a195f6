-- The workers met the holder as it was handed in.
use Rattle.std.proofs.Common.{true, false, subst}
use Rattle.tree_lock.specs.HolderState.{HolderState}
use Rattle.crew.specs.Solved.{RoundEnds}
use Rattle.crew.proofs.sweeps.Crew.decide.Goals as goal

pub returns-then-branch-clause-ended : goal.returns-then-branch-clause-ended
returns-then-branch-clause-ended g c =
    subst (λ (h : HolderState). RoundEnds h c.is_ended.new.holder true) c.synchronise.ensures.same
    (subst (RoundEnds c.synchronise.new.holder c.is_ended.new.holder) c.if-branch.true c.in_ok-is_ended.ensures.ended)

pub returns-clause-ended : goal.returns-clause-ended
returns-clause-ended g c =
    subst (λ (h : HolderState). RoundEnds h c.is_ended.new.holder false) c.synchronise.ensures.same
    (subst (RoundEnds c.synchronise.new.holder c.is_ended.new.holder) c.if-branch.false c.in_ok-is_ended.ensures.ended)
