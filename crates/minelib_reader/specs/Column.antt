-- One column of a table: the attribute with one number, of each block.
use Rattle.std.specs.Prelude.{◌≡◌, ℕ, ◌<◌, ◌≤◌, ◌^◌, ℤ, pos, ◌≤ℤ◌, ◌<ℤ◌, List, length, get_or}
use Rattle.std.specs.List.{All}
use Rattle.faults.specs.declared.fault.Fault.{Fault}
use Rattle.faults.specs.declared.refusal.Refusal.{Refusal}
use Rattle.faults.specs.declared.refusal.Refusal.TheVariants.{NoMemory, NegativeColumn, NoSuchColumn}
use Rattle.faults.specs.declared.source.Source.TheVariants.{Blocks}
use Rattle.minelib_reader.specs.Number.{IsBounded}
use Rattle.faults.specs.Refused.{at_line, no_memory}
use Rattle.minelib_reader.specs.Table.{Table, attribute_in}

-- column k of the blocks before n is not negative
abbrev pub IsLawfulBelow : Table → ℕ → ℕ → Type 0
IsLawfulBelow t k n = (u : ℕ) → u < n → pos 0 ≤ℤ attribute_in t u k

-- the table has column k, which is nowhere negative, and these are its numbers
pub record IsColumn (t : Table) (k : ℕ) (values : List ℤ) : Type 0 where
  pub known : k < t.width
  pub count : length values ≡ length t.places
  pub each : (u : ℕ) → u < length t.places → get_or values u (pos 0) ≡ attribute_in t u k
  pub lawful : IsLawfulBelow t k (length t.places)
  pub small : All (IsBounded (10 ^ 18)) values

-- block u is the least that has a negative number in column k
pub record IsLeastNegative (t : Table) (k u : ℕ) : Type 0 where
  pub known : k < t.width
  pub block : u < length t.places
  pub negative : attribute_in t u k <ℤ pos 0
  pub least : IsLawfulBelow t k u

-- why there is no column k
abbrev pub RefusesColumn : Table → ℕ → Refusal → Fault → Type 0
RefusesColumn t k NoMemory fault = fault ≡ no_memory
RefusesColumn t k (NoSuchColumn j) fault = (t.width ≤ k) × (fault ≡ at_line Blocks (NoSuchColumn k) 0)
RefusesColumn t k (NegativeColumn u) fault = IsLeastNegative t k u × (fault ≡ at_line Blocks (NegativeColumn u) 0)
RefusesColumn t k _ fault = ⊥
