-- What two columns of a table of blocks say: the revenue and the cost of each block.
use Rattle.std.specs.Prelude.{◌⊎◌, ℕ, ℤ, List}
use Rattle.faults.specs.declared.fault.Fault.{Fault}
use Rattle.minelib_reader.specs.Table.{Table}
use Rattle.minelib_reader.specs.Column.{IsColumn, RefusesColumn}
use Rattle.nesting.specs.Prices.{Prices}

-- the two columns of a table
pub record AreColumns (table : Table) (revenue cost : ℕ) (prices : Prices) : Type 0 where
  pub revenues_are : IsColumn table revenue prices.revenues
  pub costs_are : IsColumn table cost prices.costs

-- why a table has no such columns: the revenue is tested first
abbrev pub RefusesColumns : Table → ℕ → ℕ → Fault → Type 0
RefusesColumns table revenue cost fault =
    RefusesColumn table revenue fault.refusal fault
    ⊎ (((values : List ℤ) × IsColumn table revenue values) × RefusesColumn table cost fault.refusal fault)
