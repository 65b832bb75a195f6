use Rattle.std.proofs.Common.{arith, ◌+◌, ◌≤◌, subst}
use Rattle.std.proofs.lemmas.Result.{err_from_is_err_and}
use Rattle.tree_lock.specs.Served.{ServesOne}
use Rattle.tree_lock.proofs.Passes.{begins, skips, adds, count_within}
use Rattle.tree_lock.proofs.holder.Holder.serve.Goals as goal

pub loop-worker-init : goal.loop-worker-init
loop-worker-init g c = record { upto = omega arith; pass = begins c.args.self.now }

pub overflow_add-count : goal.overflow_add-count
overflow_add-count g c = let h = count_within c.loop-worker.worker c.loop-worker.count c.args.self.now c.loop-worker.self c.loop-worker.invariant.pass in let t = c.loop-worker-test.true in let r = c.workers-workers.type_inv in omega arith

pub loop-worker-preserved-then-branch : goal.loop-worker-preserved-then-branch
loop-worker-preserved-then-branch g c = record {
  upto = omega arith;
  pass = adds c.loop-worker.worker c.loop-worker.count c.args.self.now c.loop-worker.self c.serve_one.new.self c.loop-worker.invariant.pass (subst (ServesOne (c.loop-worker.worker + 1) c.loop-worker.self c.serve_one.new.self) c.if-branch.true c.in_ok-serve_one.ensures.served);
}

pub loop-worker-preserved : goal.loop-worker-preserved
loop-worker-preserved g c = record {
  upto = omega arith;
  pass = skips c.loop-worker.worker c.loop-worker.count c.args.self.now c.loop-worker.self c.serve_one.new.self c.loop-worker.invariant.pass (subst (ServesOne (c.loop-worker.worker + 1) c.loop-worker.self c.serve_one.new.self) c.if-branch.false c.in_ok-serve_one.ensures.served);
}

-- the worker at which memory was refused was looked at too
pub returns-in_err-serve_one-clause-stopped : goal.returns-in_err-serve_one-clause-stopped
returns-in_err-serve_one-clause-stopped g c =
    let p = err_from_is_err_and c.from_residual.result c.from_residual.ensures.1 in
    let come = skips c.loop-worker.worker c.loop-worker.count c.args.self.now c.loop-worker.self c.serve_one.new.self c.loop-worker.invariant.pass c.in_err-serve_one.ensures.refused.1 in
    let within : c.loop-worker.worker + 1 ≤ g.S.LockId.workers = omega (arith, c.self.invariant.0.wide, c.workers-workers.ensures, c.loop-worker-test.true) in
    rw p.1 (c.loop-worker.worker + 1, omega arith, within, come.looked)
