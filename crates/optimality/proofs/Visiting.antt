-- Visiting block after block: one that lies inside or not, and one place more.
use Rattle.std.proofs.Common.{◌≡◌, ℕ, ◌+◌, ◌≤◌, Bool, true, false, refl, sym, ap, ◌∙◌, arith, inl, inr, ⊎_elim, List}
use Rattle.std.proofs.lemmas.Bool.{cases_eq, false≢true}
use Rattle.mine_graph.specs.BreadthFirst.{IsTrail, VisitsExactly}
use Rattle.mine_graph.specs.declared.breadth_first.BreadthFirst.{BreadthFirst}
use Rattle.mine_graph.proofs.Spreading.{takes_as, takes_both, takes_nothing}
use Rattle.optimality.specs.Check.{has}
use Rattle.optimality.specs.Reaching.{IsVisited}

-- a block that lies inside is taken in
pub visited : (inside : List Bool) (block : ℕ) (a b : BreadthFirst) → has inside block ≡ true → VisitsExactly (λ u. block ≡ u) a b → VisitsExactly (IsVisited inside (λ x. true) (λ x. block) 0 1) a b
visited inside block a b within = takes_as (λ u. block ≡ u) (IsVisited inside (λ x. true) (λ x. block) 0 1) a b
    (λ u e. (0, omega arith, omega arith, refl, e, ap (has inside) (sym e) ∙ within)) (λ u w. w.4)

-- and of another nothing is
pub passed_by : (inside : List Bool) (block : ℕ) (a : BreadthFirst) → has inside block ≡ false → IsTrail a → VisitsExactly (IsVisited inside (λ x. true) (λ x. block) 0 1) a a
passed_by inside block a without trail = takes_nothing (IsVisited inside (λ x. true) (λ x. block) 0 1) a trail
    (λ u w. absurd (false≢true (sym without ∙ ap (has inside) w.4 ∙ w.5)))

module _ (inside : List Bool) (test : ℕ → Bool) (block : ℕ → ℕ) (begin k : ℕ) (from : begin ≤ k) (a b : BreadthFirst) (was : VisitsExactly (IsVisited inside test block begin k) a b) where
  longer : (u : ℕ) → IsVisited inside test block begin k u → IsVisited inside test block begin (k + 1) u
  longer u w = (w.0, w.1, omega (arith, w.2), w.3, w.4, w.5)

  -- a place that does not pass the test
  pub visited_skip : test k ≡ false → VisitsExactly (IsVisited inside test block begin (k + 1)) a b
  visited_skip off = takes_as (IsVisited inside test block begin k) (IsVisited inside test block begin (k + 1)) a b longer
      (λ u w. ⊎_elim
      (λ (e : w.0 ≡ k). absurd (false≢true (sym off ∙ ap test (sym e) ∙ w.3)))
      (λ (ne : w.0 ≡ k → ⊥). (w.0, w.1, omega (arith, w.2), w.3, w.4, w.5))
      (cases_eq w.0 k))
      was

  -- and one that does
  pub visited_more : (c : BreadthFirst) → test k ≡ true → VisitsExactly (IsVisited inside (λ x. true) (λ x. block k) 0 1) b c → VisitsExactly (IsVisited inside test block begin (k + 1)) a c
  visited_more c on one = takes_both (IsVisited inside test block begin k) (IsVisited inside (λ x. true) (λ x. block k) 0 1) (IsVisited inside test block begin (k + 1)) a b c was one
      (λ u w. ⊎_elim
      (λ (e : w.0 ≡ k). inr (0, omega arith, omega arith, refl, ap block (sym e) ∙ w.4, w.5))
      (λ (ne : w.0 ≡ k → ⊥). inl (w.0, w.1, omega (arith, w.2), w.3, w.4, w.5))
      (cases_eq w.0 k))
      longer
      (λ u w. (k, from, omega arith, on, w.4, w.5))
