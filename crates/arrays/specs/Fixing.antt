-- Blocks forced in and blocks barred, by a number for each block.
use Rattle.std.specs.Prelude.{◌≡◌, ◌⊎◌, ℕ, ◌==◌, Bool, true, false, List, length, get_or}
use Rattle.faults.specs.declared.refusal.Refusal.{Refusal}
use Rattle.faults.specs.declared.refusal.Refusal.TheVariants.{NoMemory, FixedClash}
use Rattle.pit_model.specs.declared.direction.Direction.{Direction}
use Rattle.pit_model.specs.declared.direction.Direction.TheVariants.{Least, Greatest}
use Rattle.pit_model.specs.Pit.{Fixed}
use Rattle.pit_model.specs.Fixed.{IsClash}

-- 1 for a block forced in, 2 for one that is barred; nothing is fixed where there are no numbers
abbrev pub fixed_by : List ℕ → Fixed
fixed_by numbers = record { forced = λ u. get_or numbers u 0 == 1; barred = λ u. get_or numbers u 0 == 2 }

-- a number for each block, or none at all
abbrev pub AreForBlocks : ℕ → List ℕ → Type 0
AreForBlocks blocks numbers = (length numbers ≡ 0) ⊎ (length numbers ≡ blocks)

-- which of the sets of greatest worth is asked for
abbrev pub toward : Bool → Direction
toward false = Least
toward true = Greatest

-- no memory; or the least barred block that must be dug
abbrev pub RefusesFixing : List (ℕ × ℕ) → List ℕ → Refusal → ℕ → Type 0
RefusesFixing pairs numbers NoMemory place = place ≡ 0
RefusesFixing pairs numbers (FixedClash block) place = (place ≡ block) × IsClash pairs (fixed_by numbers) block
RefusesFixing pairs numbers _ place = ⊥
