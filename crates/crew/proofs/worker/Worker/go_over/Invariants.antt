-- So far the worker asked for some of the arcs that it went over.
use Rattle.std.proofs.Common.{take}
use Rattle.crew.specs.Working.{WorksOn}
use Rattle.crew.proofs.worker.Worker.go_over.Given as goal

abbrev pub invariant-loop-arc : goal.invariant-loop-arc
invariant-loop-arc g l = WorksOn (take l.arc-index l.arcs) l.fn.self.seats l.self.seats l.goes_on
