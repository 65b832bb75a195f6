use Rattle.std.proofs.Common.{◌≡◌, ℕ, ◌<◌, get_or}
use Rattle.std.specs.Prelude.{pos}
use Rattle.optimality.proofs.Adding.{excess_so_far}
use Rattle.optimality.proofs.excess.add_flow.Given as goal

abbrev pub invariant-loop-k : goal.invariant-loop-k
invariant-loop-k l = (u : ℕ) → u < l.mine.blocks → get_or l.excesses u (pos 0) ≡ excess_so_far l.mine l.flow l.k u
