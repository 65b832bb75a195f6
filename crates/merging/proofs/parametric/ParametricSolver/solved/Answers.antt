-- The strong blocks of the tree with no merger arc left are the pit of the mine.
use Rattle.std.proofs.Common.{◌≡◌, rules}
use Rattle.std.proofs.lemmas.Result.{err_from_is_err_and}
use Rattle.merging.proofs.Shown.{strong_blocks_show}
use Rattle.merging.proofs.parametric.ParametricSolver.solved.Goals as goal

pub returns-clause-shown : goal.returns-clause-shown
returns-clause-shown c =
    let solved = c.in_ok-solved.solved in
    let same : solved.mine ≡ c.args.self = search rules in
    strong_blocks_show solved c.args.self c.in_ok-pit.pit.items same c.law.ensures.instance c.law.ensures.normalised c.in_ok-solved.ensures.none_left c.in_ok-pit.ensures.strong

pub returns-in_err-pit-clause-refused : goal.returns-in_err-pit-clause-refused
returns-in_err-pit-clause-refused c =
    let p = err_from_is_err_and c.from_residual-in_err-pit.result c.from_residual-in_err-pit.ensures.1 in
    rw (p.1, p.2) c.in_err-pit.ensures.no_memory
