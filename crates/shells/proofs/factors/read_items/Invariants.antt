-- The items so far have no fault, and those of the rest stand behind them.
use Rattle.std.proofs.Common.{◌≡◌, ◌<◌, ◌++◌, ℕ, suc, map, length, None}
use Rattle.std.specs.Option.{option_map, option_map_or}
use Rattle.minelib_reader.specs.Number.{whole_of}
use Rattle.nesting.specs.FactorList.{item_fault, number_before}
use Rattle.nesting.proofs.ItemChecks.{numbers}
use Rattle.shells.specs.FactorText.{item_numbers, items_behind}
use Rattle.shells.proofs.factors.read_items.Given as goal

abbrev pub invariant-loop-rest : goal.invariant-loop-rest
invariant-loop-rest l = record {
  items : item_numbers l.text ≡ numbers l.list.items ++ map whole_of (items_behind (option_map (λ r. r.now) l.rest));
  before : l.before ≡ number_before (item_numbers l.text) (length l.list.items);
  none : (j : ℕ) → j < length l.list.items → item_fault (item_numbers l.text) j ≡ None;
}

abbrev pub decreases-loop-rest : goal.decreases-loop-rest
decreases-loop-rest l = option_map_or (λ r. suc (length r.now)) l.rest 0
