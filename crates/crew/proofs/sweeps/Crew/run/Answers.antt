-- The last round says that the solve has ended.
use Rattle.std.proofs.Common.{subst}
use Rattle.crew.specs.Solved.{RoundEnds}
use Rattle.crew.proofs.sweeps.Crew.run.Goals as goal

pub returns-then-is_ended-clause-ended : goal.returns-then-is_ended-clause-ended
returns-then-is_ended-clause-ended g c =
    let end = c.in_ok-after.ensures.ended in
    (subst (RoundEnds end.0 c.in_ok-after.after) c.if-is_ended.true end.1).0
