-- Visiting the users of a block from which flow comes, one after another; and that a pair stands at one place alone.
use Rattle.std.proofs.Common.{◌≡◌, ℕ, ◌+◌, ◌<◌, ◌≤◌, Bool, true, refl, sym, ap, subst, ◌∙◌, arith, inl, inr, ⊎_elim, List, get_or, length}
use Rattle.std.specs.Prelude.{ℤ, ◌↔◌}
use Rattle.std.proofs.lemmas.Bool.{cases_eq, cases_lt}
use Rattle.pit_model.specs.Direction.{IsReversed}
use Rattle.pit_model.specs.Graph.{Graph, first_of, second_of, AreRising, IsBefore}
use Rattle.pit_model.proofs.Fixed.{transposed_at, transposed_count}
use Rattle.mine_graph.specs.BreadthFirst.{IsTrail, VisitsExactly}
use Rattle.mine_graph.specs.declared.breadth_first.BreadthFirst.{BreadthFirst}
use Rattle.mine_graph.proofs.Spreading.{takes_as, takes_both, takes_nothing}
use Rattle.optimality.specs.Check.{has}
use Rattle.optimality.specs.Reaching.{IsVisited, Sends}

before_apart : (x y : ℕ × ℕ) → IsBefore x y → x.0 ≡ y.0 → x.1 ≡ y.1 → ⊥
before_apart x y before same same2 = ⊎_elim (λ (less : x.0 < y.0). absurd (omega arith)) (λ (b : (x.0 ≡ y.0) × (x.1 < y.1)). let l = b.1 in absurd (omega arith)) before

-- a pair stands at one place alone
pub one_place : (pairs : List (ℕ × ℕ)) → AreRising pairs → (k l : ℕ) → k < length pairs → l < length pairs → first_of pairs k ≡ first_of pairs l → second_of pairs k ≡ second_of pairs l → k ≡ l
one_place pairs rising k l inside there first second =
    ⊎_elim (λ (e : k ≡ l). e)
    (λ ne. ⊎_elim
    (λ (less : k < l). absurd (before_apart (get_or pairs k (0, 0)) (get_or pairs l (0, 0)) (rising k l less there) first second))
    (λ (least : l ≤ k). absurd (before_apart (get_or pairs l (0, 0)) (get_or pairs k (0, 0)) (rising l k (omega arith) inside) (sym first) (sym second)))
    (cases_lt k l))
    (cases_eq k l)

-- u stands at one of the places from `begin` up to `end`, flow comes from it, and it lies inside
abbrev pub SentBetween : List (ℕ × ℕ) → List ℤ → List Bool → (ℕ → ℕ) → ℕ → ℕ → ℕ → ℕ → Type 0
SentBetween pairs flow inside user block begin end u = (x : ℕ) × (begin ≤ x) × (x < end) × (user x ≡ u) × Sends pairs flow u block × (has inside u ≡ true)

module _ (pairs : List (ℕ × ℕ)) (flow : List ℤ) (inside : List Bool) (user : ℕ → ℕ) (block begin : ℕ) where
  pub sent_none : (a : BreadthFirst) → IsTrail a → VisitsExactly (SentBetween pairs flow inside user block begin begin) a a
  sent_none a trail = takes_nothing (SentBetween pairs flow inside user block begin begin) a trail (λ u w. absurd (omega (arith, w.1, w.2)))

  module _ (i : ℕ) (from : begin ≤ i) (a b : BreadthFirst) (was : VisitsExactly (SentBetween pairs flow inside user block begin i) a b) where
    longer : (u : ℕ) → SentBetween pairs flow inside user block begin i u → SentBetween pairs flow inside user block begin (i + 1) u
    longer u w = (w.0, w.1, omega (arith, w.2), w.3, w.4, w.5)

    pub sent_skip : (Sends pairs flow (user i) block → ⊥) → VisitsExactly (SentBetween pairs flow inside user block begin (i + 1)) a b
    sent_skip none = takes_as (SentBetween pairs flow inside user block begin i) (SentBetween pairs flow inside user block begin (i + 1)) a b longer
        (λ u w. ⊎_elim
        (λ (e : w.0 ≡ i). absurd (none (subst (λ v. Sends pairs flow v block) (sym w.3 ∙ ap user e) w.4)))
        (λ (ne : w.0 ≡ i → ⊥). (w.0, w.1, omega (arith, w.2), w.3, w.4, w.5))
        (cases_eq w.0 i))
        was

    pub sent_more : (c : BreadthFirst) → Sends pairs flow (user i) block → VisitsExactly (IsVisited inside (λ x. true) (λ x. user i) 0 1) b c → VisitsExactly (SentBetween pairs flow inside user block begin (i + 1)) a c
    sent_more c sends one = takes_both (SentBetween pairs flow inside user block begin i) (IsVisited inside (λ x. true) (λ x. user i) 0 1) (SentBetween pairs flow inside user block begin (i + 1)) a b c was one
        (λ u w. ⊎_elim
        (λ (e : w.0 ≡ i). inr (0, omega arith, omega arith, refl, ap user (sym e) ∙ w.3, w.5))
        (λ (ne : w.0 ≡ i → ⊥). inl (w.0, w.1, omega (arith, w.2), w.3, w.4, w.5))
        (cases_eq w.0 i))
        longer
        (λ u w. (i, from, omega arith, w.4, subst (λ v. Sends pairs flow v block) w.4 sends, w.5))

-- the row of a block in the transposed graph has all from which a pair leads to the block
pub sent_all : (graph users : Graph) (flow : List ℤ) (inside : List Bool) (block begin end : ℕ) (a b : BreadthFirst) → IsReversed graph users
    → ((k : ℕ) → k < length users.pairs → (first_of users.pairs k ≡ block) ↔ ((begin ≤ k) × (k < end)))
    → VisitsExactly (SentBetween graph.pairs flow inside (second_of users.pairs) block begin end) a b
    → VisitsExactly (λ u. Sends graph.pairs flow u block × (has inside u ≡ true)) a b
sent_all graph users flow inside block begin end a b reversed own =
    takes_as (SentBetween graph.pairs flow inside (second_of users.pairs) block begin end) (λ u. Sends graph.pairs flow u block × (has inside u ≡ true)) a b
    (λ u w. (w.4, w.5))
    (λ u w.
    let k : ℕ = w.0.0 in
    let inside : k < length graph.pairs = w.0.1 in
    let size = transposed_count graph.pairs in
    let there = reversed.pairs_are.forth k (omega arith) in
    let at = there.2 ∙ transposed_at graph.pairs k inside in
    let row = (own there.0 there.1).0 (ap (λ (q : ℕ × ℕ). q.0) at ∙ w.0.3) in
    (there.0, row.0, row.1, ap (λ (q : ℕ × ℕ). q.1) at ∙ w.0.2, w.0, w.1))
