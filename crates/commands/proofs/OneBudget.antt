-- On one thread a budget is enough or used up: the instance that is searched for the pit of one mine ends one way.
use Rattle.std.proofs.Common.{◌≡◌, ℕ, sym, ap, subst, Option, Some, None}
use Rattle.pit_model.specs.Direction.{IsSearched}
use Rattle.pit_model.specs.FirstRun.{HasMerger, first_run}
use Rattle.pit_model.proofs.OneEnd.{budget_ends_one_way}
use Rattle.commands.specs.Solve.{Files, FixedInstance, fixed_in}
use Rattle.commands.specs.Uniqueness.{SpendsOneWay}
use Rattle.commands.proofs.Uniqueness.{mine_in_order}

abbrev number_in : Option ℕ → ℕ
number_in None = 0
number_in (Some n) = n

pub spends_one_way : (files other : Files) → SpendsOneWay files other
spends_one_way files other direction budget count same within spent =
    let mine = mine_in_order files other same within.0 spent.0 within.1.gave spent.1.gave in
    let searched = subst (λ (x : FixedInstance). IsSearched direction x.mine (fixed_in x) within.2.0) mine within.2.1 in
    let counted : budget ≡ count = ap number_in spent.2.2.0 in
    let merger = subst (λ b. HasMerger spent.2.0 (first_run spent.2.0 b)) (sym counted) spent.2.2.1 in
    budget_ends_one_way.of_mine direction spent.0.mine (fixed_in spent.0) spent.2.0 within.2.0 budget spent.2.1 searched merger within.2.2
