-- How the solves of shells end, by mode.
use Rattle.std.specs.Prelude.{◌≡◌, ◌<◌, ℕ, List, length, None}
use Rattle.faults.specs.declared.fault.Fault.{Fault}
use Rattle.faults.specs.declared.refusal.Refusal.{Refusal}
use Rattle.faults.specs.declared.refusal.Refusal.TheVariants.{NoMemory}
use Rattle.faults.specs.Refused.{no_memory}
use Rattle.pit_model.specs.declared.direction.Direction.{Direction}
use Rattle.pit_model.specs.Pit.{no_blocks_fixed}
use Rattle.pit_model.specs.Mine.{Instance}
use Rattle.pit_model.specs.Deposit.{Deposit}
use Rattle.pit_model.specs.Shells.{IsRest}
use Rattle.pit_search.specs.Searched.{OfSearched}
use Rattle.solver.specs.declared.mode.Mode.{Mode}
use Rattle.solver.specs.declared.mode.Mode.TheVariants.{Single, Parts}
use Rattle.solver.specs.Modes.{EndsWithin}
use Rattle.solver.specs.Searched.{RefusesSearch}

-- the budget does not end the solve of the rest of the factor with number k. One thread without a budget, and the parts, may
-- solve a factor on less than its rest, and nothing is said of them
abbrev pub RestEndsWithin : Mode → Direction → Deposit → List ℕ → ℕ → Type 0
RestEndsWithin (Single None) direction deposit factors k = Unit {0}
RestEndsWithin Parts direction deposit factors k = Unit {0}
RestEndsWithin mode direction deposit factors k = (rest : Instance) × IsRest direction deposit factors k rest × OfSearched direction rest no_blocks_fixed (EndsWithin mode)

-- nor that of any factor
abbrev pub EachEndsWithin : Mode → Direction → Deposit → List ℕ → Type 0
EachEndsWithin mode direction deposit factors = (k : ℕ) → k < length factors → RestEndsWithin mode direction deposit factors k

-- why there are no shells: no memory; or the search on some factor's rest was refused
abbrev pub RefusesShells : Mode → Direction → Deposit → List ℕ → Refusal → Fault → Type 0
RefusesShells mode direction deposit factors NoMemory fault = fault ≡ no_memory
RefusesShells mode direction deposit factors refusal fault =
    (k : ℕ) × (k < length factors) × ((rest : Instance) × IsRest direction deposit factors k rest × RefusesSearch mode direction rest no_blocks_fixed refusal fault)

-- no budget ends a solve in this mode, and it is refused for want of memory alone
abbrev pub IsFree : Mode → Type 0
IsFree (Single None) = Unit {0}
IsFree Parts = Unit {0}
IsFree _ = ⊥
