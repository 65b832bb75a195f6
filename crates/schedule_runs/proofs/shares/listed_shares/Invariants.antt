-- The shares so far.
use Rattle.std.proofs.Common.{◌≡◌, ℕ, ◌<◌, length}
use Rattle.schedule_runs.specs.SharesRead.{IsListedShare, IsShareOf, share_in}
use Rattle.schedule_runs.proofs.shares.listed_shares.Given as goal

abbrev pub invariant-loop-j : goal.invariant-loop-j
invariant-loop-j l = record {
  count : length l.listed.items ≡ l.j;
  each : (i : ℕ) → i < l.j → IsListedShare l.numbers i (share_in l.listed.items i);
  lawful : (i : ℕ) → i < l.j → IsShareOf l.problem (share_in l.listed.items i);
}
