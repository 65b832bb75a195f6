-- A list of factors, some of which may be no whole number. Each item is checked in turn: whether it is a whole number, whether it
-- is within the limit, and whether it rises.
use Rattle.std.specs.Prelude.{ℕ, zero, suc, ◌<◌, nat_lt, nat_le, Bool, true, if◌then◌else◌, List, length, get_or, Option, Some, None}
use Rattle.faults.specs.declared.fault.Fault.{Fault}
use Rattle.faults.specs.declared.refusal.Refusal.{Refusal}
use Rattle.faults.specs.declared.refusal.Refusal.TheVariants.{OverLimit, NotWhole, FactorsNotRising}
use Rattle.faults.specs.declared.source.Source.TheVariants.{Factors}
use Rattle.faults.specs.FirstFault.{IsFirstFault}
use Rattle.faults.specs.Refused.{at_line}

-- the most that a factor may be, in per mille, and the most factors of a list
abbrev pub most_factor : ℕ
most_factor = 100000

abbrev pub most_factors : ℕ
most_factors = 1000

-- the fault of an item, counted from 1
abbrev pub at_item : Refusal → ℕ → Fault
at_item refusal item = at_line Factors refusal item

abbrev pub is_above : Option ℕ → ℕ → Bool
is_above None x = true
is_above (Some before) x = nat_lt before x

-- what is wrong with the number of an item behind another number
abbrev pub number_fault : ℕ → Option ℕ → Option ℕ → Option Fault
number_fault item before None = Some (at_item NotWhole item)
number_fault item before (Some x) =
    if nat_lt most_factor x then Some (at_item OverLimit item)
    else (if is_above before x then None else Some (at_item FactorsNotRising item))

-- what is wrong with the item behind k others: too many, whatever it holds, or its number
unfoldable pub item_fault_after : ℕ → Option ℕ → Option ℕ → Option Fault
item_fault_after k before number = if nat_le most_factors k then Some (at_item OverLimit (suc k)) else number_fault (suc k) before number

abbrev pub number_before : List (Option ℕ) → ℕ → Option ℕ
number_before numbers zero = None
number_before numbers (suc k) = get_or numbers k None

-- of the item with index k of a list
abbrev pub item_fault : List (Option ℕ) → ℕ → Option Fault
item_fault numbers k = item_fault_after k (number_before numbers k) (get_or numbers k None)

-- the fault of the first item that breaks a check
pub record IsFirstItemFault (numbers : List (Option ℕ)) (fault : Fault) : Type 0 where
  pub first : IsFirstFault (item_fault numbers) fault
  pub inside : first.place < length numbers
