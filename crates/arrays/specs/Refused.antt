-- Why arrays encode no mine, or none within the limits.
use Rattle.std.specs.Prelude.{◌≡◌, ◌⊎◌, ℕ, ◌<◌, ◌≤◌, ◌^◌, ℤ, pos, ◌<ℤ◌, ◌≤ℤ◌, List, length, get_or, map, Some}
use Rattle.pit_model.specs.Size.{most_blocks, most_pairs}
use Rattle.faults.specs.Words.{number_of}
use Rattle.faults.specs.declared.fault.Fault.{Fault}
use Rattle.faults.specs.declared.refusal.Refusal.{Refusal}
use Rattle.faults.specs.declared.refusal.Refusal.TheVariants.{NoMemory, OverLimit, IdOutOfPlace, PredecessorOutOfRange, NeedsItself, PredecessorTwice, Cycle, CountsDiffer, WrongHeader, FixedClash, NegativeColumn}
use Rattle.pit_model.specs.Deposit.{IsAmount}
use Rattle.pit_model.specs.Graph.{AreSamePairs}
use Rattle.pit_model.specs.Cycle.{IsCycleList}
use Rattle.nesting.specs.FactorList.{IsFirstItemFault}
use Rattle.arrays.specs.Halves.{RefusesHalves}
use Rattle.arrays.specs.Fixing.{AreForBlocks, RefusesFixing}
use Rattle.csr.specs.Rows.{IsCsr}
use Rattle.arrays.specs.Encoded.{IsInRow, PricedRows, EncodesPairs}

-- this is so of a place, and of no place before it
abbrev pub IsFirstPlace : (ℕ → Type 0) → ℕ → Type 0
IsFirstPlace Is place = Is place × ((k : ℕ) → k < place → Is k → ⊥)

-- too many blocks, or too many pairs
abbrev pub AreTooMany : ℕ → List ℕ → Type 0
AreTooMany blocks needs = (most_blocks < blocks) ⊎ (most_pairs < length needs)

-- the row of a block names at this place a block that it names before
pub record IsNamedTwice (starts needs : List ℕ) (place : ℕ) : Type 0 where
  pub block : ℕ
  pub before : ℕ
  pub sooner : before < place
  pub here : IsInRow starts block place
  pub there : IsInRow starts block before
  pub same : get_or needs before 0 ≡ get_or needs place 0

-- no memory; or the cycle of the pairs; neither has a place
abbrev pub RefusesNeedArrays : List (ℕ × ℕ) → ℕ → Refusal → ℕ → Type 0
RefusesNeedArrays pairs blocks NoMemory place = place ≡ 0
RefusesNeedArrays pairs blocks (Cycle list) place = IsCycleList pairs blocks list.items × (place ≡ 0)
RefusesNeedArrays pairs blocks _ place = ⊥

-- no memory; or a fault of the arrays, with the first place of `needs` where it lies, and 0 for one that lies at no place
abbrev pub RefusesRows : ℕ → List ℕ → List ℕ → Refusal → ℕ → Type 0
RefusesRows blocks starts needs NoMemory place = place ≡ 0
RefusesRows blocks starts needs OverLimit place = AreTooMany blocks needs × (place ≡ 0)
RefusesRows blocks starts needs IdOutOfPlace place = (IsCsr blocks (length needs) starts → ⊥) × (place ≡ 0)
RefusesRows blocks starts needs PredecessorOutOfRange place = (place < length needs) × IsFirstPlace (λ k. blocks ≤ get_or needs k 0) place
RefusesRows blocks starts needs NeedsItself place = IsFirstPlace (λ k. IsInRow starts (get_or needs k 0) k) place
RefusesRows blocks starts needs PredecessorTwice place = IsFirstPlace (IsNamedTwice starts needs) place
RefusesRows blocks starts needs (Cycle list) place = (pairs : List (ℕ × ℕ)) × EncodesPairs starts needs pairs × IsCycleList pairs blocks list.items × (place ≡ 0)
RefusesRows blocks starts needs _ place = ⊥

-- or there is not a mark for each block, or neither a number for each block nor none; or the first number that says nothing; or a
-- barred block must be dug, by the pairs in whatever order
abbrev pub RefusesPitArrays : ℕ → List ℕ → List ℕ → List ℕ → List ℕ → Refusal → ℕ → Type 0
RefusesPitArrays blocks starts needs numbers marks CountsDiffer place = ((length marks ≡ blocks) × AreForBlocks blocks numbers → ⊥) × (place ≡ 0)
RefusesPitArrays blocks starts needs numbers marks WrongHeader place = (place < length numbers) × IsFirstPlace (λ k. 2 < get_or numbers k 0) place
RefusesPitArrays blocks starts needs numbers marks (FixedClash block) place =
    (encoded pairs : List (ℕ × ℕ)) × EncodesPairs starts needs encoded × AreSamePairs encoded pairs × RefusesFixing pairs numbers (FixedClash block) place
RefusesPitArrays blocks starts needs numbers marks refusal place = RefusesRows blocks starts needs refusal place

-- the number of why no pit is marked
abbrev pub IsRefusedBy : ℕ → List ℕ → List ℕ → List ℕ → List ℕ → ℕ → ℕ → Type 0
IsRefusedBy blocks starts needs numbers marks number place =
    (refusal : Refusal) × (number ≡ number_of refusal) × RefusesPitArrays blocks starts needs numbers marks refusal place

-- of an amount of a block: it is negative, or above 10^18
abbrev pub RefusesAmount : ℕ → ℤ → Refusal → Type 0
RefusesAmount block amount (NegativeColumn least) = (least ≡ block) × (amount <ℤ pos 0)
RefusesAmount block amount OverLimit = pos (10 ^ 18) <ℤ amount
RefusesAmount block amount _ = ⊥

-- the amounts of the blocks before one are not negative and at most 10^18
pub record AreAmountsBefore (amounts : List ℤ) (block : ℕ) : Type 0 where
  pub least : (u : ℕ) → u < block → pos 0 ≤ℤ get_or amounts u (pos 0)
  pub most : (u : ℕ) → u < block → get_or amounts u (pos 0) ≤ℤ pos (10 ^ 18)

-- no memory; or the first block that has such an amount
abbrev pub RefusesAmounts : List ℤ → Refusal → ℕ → Type 0
RefusesAmounts amounts NoMemory block = block ≡ 0
RefusesAmounts amounts refusal block = (block < length amounts) × RefusesAmount block (get_or amounts block (pos 0)) refusal × AreAmountsBefore amounts block

-- no memory; or the first factor of a list that breaks a check is refused by it
abbrev pub RefusesFactors : List ℕ → Refusal → Type 0
RefusesFactors factors NoMemory = Unit {0}
RefusesFactors factors refusal = (fault : Fault) × (fault.refusal ≡ refusal) × IsFirstItemFault (map (λ factor. Some factor) factors) fault

-- why nested pits are not marked: there is not a cost and a number for each revenue; or rows, amounts or factors are refused
pub data RefusesShellArrays (rows : PricedRows) (factors firsts : List ℕ) (refusal : Refusal) (place : ℕ) : Type 0 where
  by_counts : refusal ≡ CountsDiffer → place ≡ 0 → ((length firsts ≡ length rows.revenues) × (length rows.costs ≡ length rows.revenues) → ⊥) → RefusesShellArrays rows factors firsts refusal place
  by_rows : RefusesRows (length rows.revenues) rows.starts rows.needs refusal place → RefusesShellArrays rows factors firsts refusal place
  by_revenues : RefusesAmounts rows.revenues refusal place → RefusesShellArrays rows factors firsts refusal place
  by_costs : IsAmount (length rows.revenues) rows.revenues → RefusesAmounts rows.costs refusal place → RefusesShellArrays rows factors firsts refusal place
  by_factors : RefusesFactors factors refusal → place ≡ 0 → RefusesShellArrays rows factors firsts refusal place

-- the number of why nested pits are not marked
abbrev pub IsRefusedShells : PricedRows → List ℕ → List ℕ → List ℤ → List ℕ → ℕ → ℕ → Type 0
IsRefusedShells rows factors firsts high low number place =
    (refusal : Refusal) × (number ≡ number_of refusal) × (RefusesShellArrays rows factors firsts refusal place ⊎ RefusesHalves (length factors) high low refusal place)
