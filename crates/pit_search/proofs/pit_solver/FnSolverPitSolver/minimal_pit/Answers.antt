-- What the closure returned, it may return.
use Rattle.std.proofs.Common.{refl}
use Rattle.std.specs.Fn.{FnReturnsAt}
use Rattle.pit_search.proofs.Solvers.{some_found}
use Rattle.pit_search.proofs.pit_solver.FnSolverPitSolver.minimal_pit.Goals as goal

pub returns-clause-within : goal.returns-clause-within
returns-clause-within g c =
    some_found (FnReturnsAt g.F.Fn c.args.self.now.solve c.args.instance.now) c.solve.result (record { shown = c.args.instance; shows = refl; says = record { met = c.solve.ensures } })
