-- The pairs so far are in order.
use Rattle.std.proofs.Common.{ℕ, ◌<◌, ◌≤◌, get_or}
use Rattle.pit_model.specs.Graph.{first_of, second_of}
use Rattle.scheduling.proofs.order.out_of_order.Given as goal

abbrev pub invariant-loop-k : goal.invariant-loop-k
invariant-loop-k l = (k : ℕ) → k < l.k → get_or l.by_now (first_of l.problem.pairs k) 0 ≤ get_or l.by_now (second_of l.problem.pairs k) 0
