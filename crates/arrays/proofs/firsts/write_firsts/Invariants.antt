-- First no block has a number, and then those of the pits so far.
use Rattle.std.proofs.Common.{◌≡◌, ℕ, ◌<◌, length, get_or}
use Rattle.arrays.specs.Firsts.{AreFirsts}
use Rattle.arrays.proofs.firsts.write_firsts.Given as goal

abbrev pub invariant-loop-first : goal.invariant-loop-first
invariant-loop-first l = (u : ℕ) → u < l.first-index → get_or l.firsts u 0 ≡ length l.shells

abbrev pub invariant-loop-k : goal.invariant-loop-k
invariant-loop-k l = AreFirsts l.shells (length l.initial.firsts) l.firsts l.k
