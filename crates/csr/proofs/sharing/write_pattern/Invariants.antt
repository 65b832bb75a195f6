-- The differences so far are written, and the targets that are still to be read are kept.
use Rattle.std.proofs.Common.{◌≡◌, ℕ, ◌<◌, ◌≤◌, get_or}
use Rattle.csr.specs.Shared.{LeadTo}
use Rattle.csr.proofs.sharing.write_pattern.Given as goal

abbrev pub invariant-loop-k : goal.invariant-loop-k
invariant-loop-k l = record {
  leads : LeadTo l.numbers l.pattern l.row.block l.initial.numbers l.row.begin l.k;
  before : (j : ℕ) → j < l.pattern → get_or l.numbers j 0 ≡ get_or l.initial.numbers j 0;
  ahead : (j : ℕ) → l.k ≤ j → get_or l.numbers j 0 ≡ get_or l.initial.numbers j 0;
}
