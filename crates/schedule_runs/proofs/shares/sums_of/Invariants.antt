-- The sums of the shares so far, each of which stays whole.
use Rattle.std.proofs.Common.{ℕ, ◌<◌}
use Rattle.schedule_runs.specs.Refusals.{StaysWhole}
use Rattle.schedule_runs.specs.SharesRead.{AreSums}
use Rattle.schedule_runs.proofs.shares.sums_of.Given as goal

abbrev pub invariant-loop-j : goal.invariant-loop-j
invariant-loop-j l = record {
  sums : AreSums l.problem l.listed l.j l.shares.items;
  whole : (i : ℕ) → i < l.j → StaysWhole l.problem l.listed i;
}
