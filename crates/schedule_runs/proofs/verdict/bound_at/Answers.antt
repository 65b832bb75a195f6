-- The law over all schedules holds of the bound that is shown.
use Rattle.std.proofs.Common.{◌≡◌, to_z, of_z, sym, subst, rules}
use Rattle.std.specs.Prelude.{ℤ}
use Rattle.std.specs.Int.{w128}
use Rattle.std.proofs.lemmas.Int.{to_z-of_z}
use mir.Val.{SFits}
use Rattle.schedule_model.specs.Bound.{IsLagrangianBound, IsRoundedUp}
use Rattle.scheduling.specs.Limits.{ArePriceNumbers}
use Rattle.schedule_runs.specs.Verdicts.{IsBoundAt}
use Rattle.schedule_runs.proofs.Bounding.{none_is_worth_more}
use Rattle.schedule_runs.proofs.verdict.bound_at.Goals as goal

pub returns-clause-bound : goal.returns-clause-bound
returns-clause-bound c =
    let problem = c.args.problem.now in
    let prices = c.args.prices.now in
    let exact = c.in_ok-exact.exact in
    let shown = c.rounded_up.result in
    let e : to_z w128 (of_z w128 shown) ≡ shown = to_z-of_z w128 shown (record { sfits = c.rounded_up.type_inv }) in
    let bound : IsLagrangianBound problem prices exact = c.in_ok-exact.ensures.bound in
    let up : IsRoundedUp exact shown = search rules in
    let are : ArePriceNumbers problem prices = c.in_ok-exact.ensures.prices in
    subst (IsBoundAt problem prices) (sym e)
    (record { prices_are = are; nodes = c.in_ok-exact.ensures.nodes; exact = exact; is = bound; rounded = up; none_is_worth_more = none_is_worth_more problem prices exact shown c.schedule_is_bounded.ensures c.law.ensures are bound up })
