-- So far the worker asked for arcs of the chunks that it drew, and no reply ended its part.
use Rattle.std.proofs.Common.{◌≡◌, ◌++◌, true, List, ℕ}
use Rattle.crew.specs.Working.{WorksOn, arcs_of_chunks}
use Rattle.crew.proofs.worker.Worker.sweep.Given as goal

abbrev pub invariant-loop-drawn : goal.invariant-loop-drawn
invariant-loop-drawn g l = (drawn : List ℕ) × (l.draw_seat.drawn ≡ l.fn.draw_seat.drawn ++ drawn) × WorksOn (arcs_of_chunks l.sweep.work.now drawn) l.fn.self.seats l.self.seats true
