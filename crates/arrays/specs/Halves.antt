-- Amounts of more than 64 bits, by two parts each.
use Rattle.std.specs.Prelude.{◌≡◌, ℕ, ◌<◌, ◌^◌, ℤ, pos, ◌+ℤ◌, ◌*ℤ◌, List, length, get_or}
use Rattle.faults.specs.declared.refusal.Refusal.{Refusal}
use Rattle.faults.specs.declared.refusal.Refusal.TheVariants.{NoMemory, CountsDiffer}

-- each amount is 2^64 times its high part plus its low part
pub record AreHalves (amounts high : List ℤ) (low : List ℕ) : Type 0 where
  pub highs : length high ≡ length amounts
  pub lows : length low ≡ length amounts
  pub each : (k : ℕ) → k < length amounts → get_or amounts k (pos 0) ≡ pos (2 ^ 64) *ℤ get_or high k (pos 0) +ℤ pos (get_or low k 0)

-- no memory; or there are not two parts for each of so many amounts; neither has a place
abbrev pub RefusesHalves : ℕ → List ℤ → List ℕ → Refusal → ℕ → Type 0
RefusesHalves count high low NoMemory place = place ≡ 0
RefusesHalves count high low CountsDiffer place = ((length high ≡ count) × (length low ≡ count) → ⊥) × (place ≡ 0)
RefusesHalves count high low _ place = ⊥
