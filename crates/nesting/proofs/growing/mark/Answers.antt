-- At the end all are marked.
use Rattle.nesting.proofs.growing.mark.Goals as goal

pub returns-clause-keeps : goal.returns-clause-keeps
returns-clause-keeps c = c.loop-i.invariant.keeps
