-- No schedule is worth more than the bound that is shown.
use Rattle.std.proofs.Common.{◌≡◌, ℕ, ◌+◌, ◌*◌, ◌<◌, List, length, get_or, sym, ap, subst, arith}
use Rattle.std.specs.Prelude.{ℤ, pos, ◌*ℤ◌, ◌≤ℤ◌}
use Rattle.std.proofs.lemmas.Bool.{lt-ltb}
use Rattle.std.proofs.lemmas.Int.{ints}
use Rattle.pit_model.specs.Sum.{when}
use Rattle.schedule_model.specs.Bound.{AreLimitPrices, IsLagrangianBound, IsRoundedUp, ScheduleIsBounded, price, unit}
use Rattle.schedule_model.specs.Problem.{Problem}
use Rattle.schedule_model.specs.Schedule.{schedule_value}
use Rattle.schedule_model.proofs.Sums.{times_le}
use Rattle.schedule_model.proofs.Bounded.{node_below}
use Rattle.scheduling.specs.Limits.{ArePriceNumbers, IsBoundedProblem}
use Rattle.schedule_runs.specs.Verdicts.{NoneIsWorthMore}

price_is : (problem : Problem) (prices : List ℤ) (r s : ℕ) → s < problem.periods → price problem prices r s ≡ get_or prices (r * problem.periods + s) (pos 0)
price_is problem prices r s h = ap (λ b. when b (get_or prices (r * problem.periods + s) (pos 0))) (lt-ltb s problem.periods h)

pub are_limit_prices : (problem : Problem) (prices : List ℤ) → ArePriceNumbers problem prices → AreLimitPrices problem prices
are_limit_prices problem prices are r s hr hs =
    let inside = node_below problem.periods problem.limits s r hs hr in
    subst (λ (x : ℤ). pos 0 ≤ℤ x) (sym (price_is problem prices r s hs)) (are.least (r * problem.periods + s) (omega (arith, are.count, inside)))

scaled : (whole : ℕ) (value exact rounded : ℤ) → value ≤ℤ (pos whole *ℤ exact) → exact ≤ℤ (pos unit *ℤ rounded) → value ≤ℤ (pos whole *ℤ (pos unit *ℤ rounded))
scaled whole value exact rounded a b =
    let more = times_le (pos whole) exact (pos unit *ℤ rounded) (omega (arith, ints)) b in
    omega (arith, ints)

pub none_is_worth_more : (problem : Problem) (prices : List ℤ) (exact rounded : ℤ) → ScheduleIsBounded → IsBoundedProblem problem → ArePriceNumbers problem prices → IsLagrangianBound problem prices exact → IsRoundedUp exact rounded
    → NoneIsWorthMore problem rounded
none_is_worth_more problem prices exact rounded law limits are bound up whole shares is =
    scaled whole (schedule_value problem shares) exact rounded (law problem prices exact whole shares limits.graph.in_range (are_limit_prices problem prices are) bound is) up.least
