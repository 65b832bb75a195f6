-- Nothing is left of what the block needs so far.
use Rattle.std.proofs.Common.{◌≡◌, ℕ, ◌<◌, ◌≤◌, get_or}
use Rattle.pit_model.specs.Graph.{second_of}
use Rattle.csr.specs.View.{pairs_in}
use Rattle.mine_graph.proofs.cycle.least_needed.Given as goal

abbrev pub invariant-loop-k : goal.invariant-loop-k
invariant-loop-k l = (x : ℕ) → get_or l.rows.offsets.now l.at 0 ≤ x → x < l.k → get_or l.left (second_of (pairs_in l.rows) x) 0 ≡ 0
