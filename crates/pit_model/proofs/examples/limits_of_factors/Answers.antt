use Rattle.std.proofs.Common.{arith, ℕ, zero, suc, List, [], ◌∷◌, length, get_or, subst, ◌≡◌, ◌<◌, ◌≤◌, ◌+◌}
use Rattle.std.specs.List.{range_with_len}
use Rattle.std.proofs.lemmas.List.FromFn.{get_or-range_with_len, length-range_with_len}
use Rattle.pit_model.proofs.examples.limits_of_factors.Goals as goal

abbrev two : List ℕ
two = 0 ∷ 100000 ∷ []

two_rise : (k : ℕ) → k + 1 < 2 → get_or two k 0 < get_or two (k + 1) 0
two_rise zero l = omega arith
two_rise (suc k) l = absurd (omega (arith, l))

two_small : (k d : ℕ) → k < 2 → get_or two k d ≤ 100000
two_small zero d l = omega arith
two_small (suc zero) d l = omega arith
two_small (suc (suc k)) d l = absurd (omega (arith, l))

-- the number at a place of a row of numbers is that place
at : (k d : ℕ) → k < length (range_with_len 0 1000) → get_or (range_with_len 0 1000) k d ≡ 0 + k
at k d l = get_or-range_with_len 0 1000 k d (subst (λ n. k < n) (length-range_with_len 0 1000) l)

pub returns : goal.returns
returns c = record {
  none = record { rising = λ k l. absurd (omega (arith, l)); small = λ k d l. absurd (omega (arith, l)); few = omega arith };
  ends = record { rising = two_rise; small = two_small; few = omega arith };
  a_thousand = record {
    rising = λ k l. omega (arith, l, at k 0 (omega (arith, l)), at (k + 1) 0 l);
    small = λ k d l. omega (arith, l, at k d l, length-range_with_len 0 1000);
    few = omega (arith, length-range_with_len 0 1000);
  };
  no_greater = λ are. omega (arith, are.small 0 0 (omega arith));
  no_equal = λ are. omega (arith, are.rising 0 (omega arith));
  no_falling = λ are. omega (arith, are.rising 0 (omega arith));
  no_more = λ factors many are. omega (arith, are.few, many);
}
