use Rattle.std.proofs.Common.{◌-◌, ◌≤◌}
use Rattle.tree_lock.proofs.Passes.{HasCome}
use Rattle.tree_lock.proofs.holder.Holder.serve.Given as goal

abbrev pub invariant-loop-worker : goal.invariant-loop-worker
invariant-loop-worker g l = record { upto : l.worker ≤ l.workers; pass : HasCome l.worker l.count l.fn.self l.self }

abbrev pub decreases-loop-worker : goal.decreases-loop-worker
decreases-loop-worker g l = l.workers - l.worker
