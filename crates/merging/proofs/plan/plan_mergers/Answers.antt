use Rattle.std.proofs.lemmas.Result.{err_from_is_err_and}
use Rattle.merging.proofs.plan.plan_mergers.Goals as goal

pub returns-in_err-order : goal.returns-in_err-order
returns-in_err-order c =
    let p = err_from_is_err_and c.from_residual-in_err-order.result c.from_residual-in_err-order.ensures.1 in
    rw (p.1, p.2) c.in_err-order.ensures
