-- A solver without a budget is refused for want of memory alone.
use Rattle.std.proofs.lemmas.Result.{err_from_is_err_and}
use Rattle.pit_model.specs.Pit.{no_blocks_fixed}
use Rattle.nesting.proofs.Refusing.{find_lacks_memory}
use Rattle.nesting.proofs.outermost.outermost_shell.Goals as goal

pub returns-in_err-found-clause-refused : goal.returns-in_err-found-clause-refused
returns-in_err-found-clause-refused g c =
    let p = err_from_is_err_and c.from_residual-in_err-found.result c.from_residual-in_err-found.ensures.1 in
    let e = c.in_err-found.field-0.0 in
    rw (p.1, p.2) (find_lacks_memory (g.S.PitSolver.Refuses c.args.solver.now) c.args.plan.now.direction c.in_ok-mine.mine no_blocks_fixed e c.requires.unlimited c.in_err-found.ensures.refused)
