-- The priced gain of a block at a destination is the sum of its weighted amounts there.
use Rattle.std.proofs.Common.{◌≡◌, ℕ, ◌+◌, ◌*◌, ◌<◌, Bool, true, false, List, length, get_or, eqb, refl, sym, ap, ◌∙◌, arith, ltb}
use Rattle.std.specs.Prelude.{ℤ, pos, neg_ℤ, ◌-ℤ◌, ◌*ℤ◌, ◌==◌}
use Rattle.std.proofs.lemmas.Int.{ints}
use Rattle.std.proofs.lemmas.Bool.{ltb-false, ltb-true}
use borrow.Author.Differences.{down, neg_is, up}
use Rattle.pit_model.specs.Sum.{total, when}
use Rattle.pit_model.proofs.Sums.{total-same, total-sub, total-swap, total-zero, total-pick, total-pick_none, when-total}
use Rattle.schedule_model.specs.declared.term.Effect.{Effect}
use Rattle.schedule_model.specs.declared.term.Effect.TheVariants.{Value, Use}
use Rattle.schedule_model.specs.Problem.{Problem, amount_in, gain, term_at, use_of, yield_of}
use Rattle.schedule_model.specs.Bound.{over_limits, price, priced_gain}
use Rattle.schedule_model.proofs.Sums.{times_comm, total-times}
use Rattle.scheduling.specs.Limits.{IsBoundedProblem, UsesALimit}
use Rattle.scheduling.specs.Weights.{AreWeights, part_of_gain, weight, weighted}

pub times_when : (c x : ℤ) (b : Bool) → c *ℤ when b x ≡ when b (c *ℤ x)
times_when c x true = refl
times_when c x false = omega (arith, ints)

times_neg : (a w : ℤ) → a *ℤ neg_ℤ w ≡ pos 0 -ℤ w *ℤ a
times_neg a w =
    let n = neg_is w in
    let p = ap (λ v. up a * v) n.0 in
    let q = ap (λ v. up a * v) n.1 in
    let r = ap (λ v. down a * v) n.0 in
    let s = ap (λ v. down a * v) n.1 in
    omega (arith, ints)

module _ (problem : Problem) (prices : List ℤ) where
  abbrev at_price : (ℕ → ℕ → ℤ) → ℤ
  at_price f = over_limits problem (λ r s. price problem prices r s *ℤ f r s)

  nothing_used : at_price (λ r s. pos 0) ≡ pos 0
  nothing_used =
      total-zero problem.limits (λ r. total problem.periods (λ s. price problem prices r s *ℤ pos 0)) (λ r h.
      total-zero problem.periods (λ s. price problem prices r s *ℤ pos 0) (λ s k. omega (arith, ints)))

  -- after the last period a price is 0
  in_period_by : (q u : ℕ) (x : ℤ) (early : Bool) → ltb u problem.periods ≡ early → total problem.periods (λ s. when (eqb u s) (price problem prices q s *ℤ x)) ≡ price problem prices q u *ℤ x
  in_period_by q u x true e = total-pick problem.periods u (λ s. price problem prices q s *ℤ x) (ltb-true u problem.periods e)
  in_period_by q u x false e =
      let none = total-pick_none problem.periods u (λ s. price problem prices q s *ℤ x) (ltb-false u problem.periods e) in
      let zero_price : price problem prices q u ≡ pos 0 = ap (λ b. when b (get_or prices (q * problem.periods + u) (pos 0))) e in
      let product : price problem prices q u *ℤ x ≡ pos 0 *ℤ x = ap (λ y. y *ℤ x) zero_price in
      let nothing = times_comm (pos 0) x in
      omega (arith, ints)

  in_period : (q u : ℕ) (x : ℤ) → total problem.periods (λ s. when (eqb u s) (price problem prices q s *ℤ x)) ≡ price problem prices q u *ℤ x
  in_period q u x = in_period_by q u x (ltb u problem.periods) refl

  one_used : (q u : ℕ) (x : ℤ) → q < problem.limits → at_price (λ r s. when (eqb q r) (when (eqb u s) x)) ≡ price problem prices q u *ℤ x
  one_used q u x below =
      total-same problem.limits (λ r. total problem.periods (λ s. price problem prices r s *ℤ when (eqb q r) (when (eqb u s) x))) (λ r. when (eqb q r) (total problem.periods (λ s. when (eqb u s) (price problem prices r s *ℤ x)))) (λ r h.
      total-same problem.periods (λ s. price problem prices r s *ℤ when (eqb q r) (when (eqb u s) x)) (λ s. when (eqb q r) (when (eqb u s) (price problem prices r s *ℤ x))) (λ s k.
      times_when (price problem prices r s) (when (eqb u s) x) (eqb q r) ∙ ap (when (eqb q r)) (times_when (price problem prices r s) x (eqb u s)))
      ∙ sym (when-total (eqb q r) problem.periods (λ s. when (eqb u s) (price problem prices r s *ℤ x))))
      ∙ total-pick problem.limits q (λ r. total problem.periods (λ s. when (eqb u s) (price problem prices r s *ℤ x))) below
      ∙ in_period q u x

  -- one term
  term_priced : (b t column lag : ℕ) (effect : Effect) → UsesALimit problem.limits effect
      → yield_of problem b t column effect lag -ℤ at_price (λ r s. use_of problem b t column effect lag r s) ≡ amount_in problem b column *ℤ weight problem prices t effect lag
  term_priced b t column lag Value is = let e = nothing_used in omega (arith, ints)
  term_priced b t column lag (Use q) is =
      let e = one_used q (t + lag) (amount_in problem b column) is in
      let f = times_neg (amount_in problem b column) (price problem prices q (t + lag)) in
      omega (arith, ints)

  term_at_destination : (here : Bool) (b t column lag : ℕ) (effect : Effect) → UsesALimit problem.limits effect
      → when here (yield_of problem b t column effect lag) -ℤ at_price (λ r s. when here (use_of problem b t column effect lag r s)) ≡ when here (amount_in problem b column *ℤ weight problem prices t effect lag)
  term_at_destination true b t column lag effect is = term_priced b t column lag effect is
  term_at_destination false b t column lag effect is = let e = nothing_used in omega (arith, ints)

  at_price-total : (n : ℕ) (f : ℕ → ℕ → ℕ → ℤ) → at_price (λ r s. total n (λ k. f k r s)) ≡ total n (λ k. at_price (λ r s. f k r s))
  at_price-total n f =
      total-same problem.limits (λ r. total problem.periods (λ s. price problem prices r s *ℤ total n (λ k. f k r s))) (λ r. total n (λ k. total problem.periods (λ s. price problem prices r s *ℤ f k r s))) (λ r h.
      total-same problem.periods (λ s. price problem prices r s *ℤ total n (λ k. f k r s)) (λ s. total n (λ k. price problem prices r s *ℤ f k r s)) (λ s i. sym (total-times n (price problem prices r s) (λ k. f k r s)))
      ∙ total-swap problem.periods n (λ s k. price problem prices r s *ℤ f k r s))
      ∙ total-swap problem.limits n (λ r k. total problem.periods (λ s. price problem prices r s *ℤ f k r s))

  pub weighted_is_priced : (weights : List ℤ) (b t d : ℕ) → IsBoundedProblem problem → AreWeights problem prices t weights → weighted problem weights b d ≡ priced_gain problem prices b t d
  weighted_is_priced weights b t d limits are =
      sym
      (ap (λ v. gain problem b t d -ℤ v) (at_price-total (length problem.terms) (λ k r s. when ((term_at problem k).destination == d) (use_of problem b t (term_at problem k).column (term_at problem k).effect (term_at problem k).lag r s)))
      ∙ sym (total-sub (length problem.terms) (λ k. when ((term_at problem k).destination == d) (yield_of problem b t (term_at problem k).column (term_at problem k).effect (term_at problem k).lag)) (λ k. at_price (λ r s. when ((term_at problem k).destination == d) (use_of problem b t (term_at problem k).column (term_at problem k).effect (term_at problem k).lag r s))))
      ∙ total-same (length problem.terms)
      (λ k. when ((term_at problem k).destination == d) (yield_of problem b t (term_at problem k).column (term_at problem k).effect (term_at problem k).lag) -ℤ at_price (λ r s. when ((term_at problem k).destination == d) (use_of problem b t (term_at problem k).column (term_at problem k).effect (term_at problem k).lag r s)))
      (part_of_gain problem weights b d)
      (λ k h.
      term_at_destination ((term_at problem k).destination == d) b t (term_at problem k).column (term_at problem k).lag (term_at problem k).effect (limits.terms k h).effect
      ∙ ap (λ w. when ((term_at problem k).destination == d) (amount_in problem b (term_at problem k).column *ℤ w)) (sym (are.each k h))))
