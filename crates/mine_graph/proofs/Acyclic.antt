-- Counting down tells whether there is a cycle. The place in the queue is a height, since each block stands after all
-- that it needs. What is left over is needy, since an arc to it was never handled; and it is the largest needy set, since
-- no block of such a set is ever queued: the first of them to be queued would need one that was queued sooner.
use Rattle.std.proofs.Common.{◌≡◌, ℕ, zero, suc, ◌-◌, ◌<◌, ◌≤◌, Bool, true, false, cond, eqb, refl, sym, ap, ◌∙◌, arith, ⊎_elim, List, get_or, length}
use Rattle.std.specs.Prelude.{not}
use Rattle.std.proofs.lemmas.Bool.{cases_eq, cases_lt, true≢false, eq-eqb, ne_eqb, and_parts, eqb-true, lt-ltb, ltb-true, not-true}
use Rattle.std.proofs.lemmas.List.{get_or_past}
use Rattle.pit_model.specs.Graph.{first_of, second_of, AreInRange, IsAcyclic}
use Rattle.pit_model.specs.Cycle.{HasPredecessorInside, IsLargestWithPredecessorInside, AcyclicIsWellFounded}
use Rattle.csr.specs.Queue.{is_unhandled, IsProcessed}
use Rattle.csr.specs.Left.{left_over}
use Rattle.csr.proofs.Count.{count-some}

-- each list has the transposed pairs of the other
pub record AreTurned (pairs arcs : List (ℕ × ℕ)) : Type 0 where
  pub forth : (k : ℕ) → k < length pairs → (l : ℕ) × (l < length arcs) × (first_of arcs l ≡ second_of pairs k) × (second_of arcs l ≡ first_of pairs k)
  pub back : (l : ℕ) → l < length arcs → (k : ℕ) × (k < length pairs) × (second_of pairs k ≡ first_of arcs l) × (first_of pairs k ≡ second_of arcs l)

-- the last of the first places that holds u
place : List ℕ → ℕ → ℕ → ℕ
place order zero u = 0
place order (suc t) u = cond (eqb (get_or order t 0) u) t (place order t u)

place-here : (order : List ℕ) (t u : ℕ) → get_or order t 0 ≡ u → place order (suc t) u ≡ t
unfolding place
place-here order t u e = rw (eq-eqb (get_or order t 0) u e) refl

place-off : (order : List ℕ) (t u : ℕ) → (get_or order t 0 ≡ u → ⊥) → place order (suc t) u ≡ place order t u
unfolding place
place-off order t u ne = rw (ne_eqb (get_or order t 0) u ne) refl

place-is : (order : List ℕ) (t i u : ℕ) → ((i j : ℕ) → i < j → j < t → get_or order i 0 ≡ get_or order j 0 → ⊥) → i < t → get_or order i 0 ≡ u → place order t u ≡ i
place-is order zero i u apart l e = absurd (omega arith)
place-is order (suc t) i u apart l e = ⊎_elim
    (λ (s : i ≡ t). place-here order t u (ap (λ k. get_or order k 0) (sym s) ∙ e) ∙ sym s)
    (λ (ne : i ≡ t → ⊥). place-off order t u (λ s. apart i t (omega arith) (omega arith) (e ∙ sym s)) ∙ place-is order t i u (λ i j h m. apart i j h (omega arith)) (omega arith) e)
    (cases_eq i t)

-- the other way round it is a height as well, less what stands behind
pub acyclic_along : (arcs : List (ℕ × ℕ)) (left order : List ℕ) (tail : ℕ) → AreInRange arcs (length left) → IsProcessed arcs left order tail tail
    → ((u : ℕ) → u < length left → get_or left u 0 ≡ 0) → IsAcyclic arcs
acyclic_along arcs left order tail range end none = (
  λ u. tail - place order tail u,
  λ k l.
      let p : ℕ = second_of arcs k in
      let w = end.counted.queue.waits p (range k l).1 (none p (range k l).1) in
      let s = end.counted.sooner w.0 k w.1 l (sym w.2) in
      let apart = end.counted.queue.apart in
      let x = place-is order tail w.0 p apart w.1 w.2 in
      let y = place-is order tail s.0 (first_of arcs k) apart (let i = w.1 in let j = s.1 in omega arith) s.2 in
      let i = w.1 in
      let j = s.1 in
      omega arith,
)

module _ (pairs arcs : List (ℕ × ℕ)) (left order : List ℕ) (tail : ℕ)
    (turn : AreTurned pairs arcs) (range : AreInRange pairs (length left)) (end : IsProcessed arcs left order tail tail) where
  -- where nothing is left, the place in the queue is a height
  pub acyclic : ((u : ℕ) → u < length left → get_or left u 0 ≡ 0) → IsAcyclic pairs
  acyclic none = (
    place order tail,
    λ k l.
        let u : ℕ = first_of pairs k in
        let w = end.counted.queue.waits u (range k l).0 (none u (range k l).0) in
        let a = turn.forth k l in
        let s = end.counted.sooner w.0 a.0 w.1 a.1 (a.3 ∙ sym w.2) in
        let apart = end.counted.queue.apart in
        let x = place-is order tail w.0 u apart w.1 w.2 in
        let y = place-is order tail s.0 (second_of pairs k) apart (let i = w.1 in let j = s.1 in omega arith) (s.2 ∙ a.2) in
        let j = s.1 in omega arith,
  )

  pub over-true : (u : ℕ) → (get_or left u 0 ≡ 0 → ⊥) → left_over left u ≡ true
  over-true u some = lt-ltb 0 (get_or left u 0) (omega arith)

  pub over-some : (u : ℕ) → left_over left u ≡ true → get_or left u 0 ≡ 0 → ⊥
  over-some u h e = let p = ltb-true 0 (get_or left u 0) h in omega arith

  past : (u : ℕ) → left_over left u ≡ true → u < length left
  past u h = ⊎_elim (λ (l : u < length left). l) (λ (l : length left ≤ u). absurd (over-some u h (get_or_past left u 0 l))) (cases_lt u (length left))

  -- what is left over is needy
  over-needy : HasPredecessorInside pairs (length left) (left_over left)
  over-needy u h =
      let below = past u h in
      let some = over-some u h in
      let o = count-some (length arcs) (is_unhandled arcs end.handled u) (λ e. some (end.counted.counts u below ∙ e)) in
      let parts = and_parts (eqb (second_of arcs o.0) u) (not (end.handled o.0)) o.2 in
      let off : end.handled o.0 ≡ false = not-true (end.handled o.0) parts.1 in
      let b = turn.back o.0 o.1 in (
        below,
        (
          b.0,
          b.1,
          b.3 ∙ eqb-true (second_of arcs o.0) u parts.0,
          over-true (second_of pairs b.0)
              (λ z.
              let w = end.counted.queue.waits (second_of pairs b.0) (range b.0 b.1).1 z in
              true≢false (sym (end.all o.0 w.0 o.1 w.1 (w.2 ∙ b.2)) ∙ off)),
        ),
      )

  -- no queued block lies in a needy set
  none_queued : (other : ℕ → Bool) → HasPredecessorInside pairs (length left) other → (t i : ℕ) → i < t → t ≤ tail → other (get_or order i 0) ≡ true → ⊥
  none_queued other needy zero i h l e = absurd (omega arith)
  none_queued other needy (suc t) i h l e =
      let r = needy (get_or order i 0) e in
      let k = r.1.0 in
      let a = turn.forth k r.1.1 in
      let s = end.counted.sooner i a.0 (omega arith) a.1 (a.3 ∙ r.1.2) in
      none_queued other needy t s.0 (let j = s.1 in omega arith) (omega arith) (ap other (s.2 ∙ a.2) ∙ r.1.3)

  pub over-largest : IsLargestWithPredecessorInside pairs (length left) (left_over left)
  over-largest = record {
    needy = over-needy;
    largest = λ other needy u h. over-true u (λ z.
        let w = end.counted.queue.waits u (needy u h).0 z in
        none_queued other needy tail w.0 w.1 (omega arith) (ap other w.2 ∙ h));
  }

-- a height excludes a needy set
by_height : (pairs : List (ℕ × ℕ)) (n : ℕ) (set : ℕ → Bool) (height : ℕ → ℕ) → ((k : ℕ) → k < length pairs → height (second_of pairs k) < height (first_of pairs k))
    → HasPredecessorInside pairs n set → (t u : ℕ) → height u < t → set u ≡ true → ⊥
by_height pairs n set height falls needy zero u h e = absurd (omega arith)
by_height pairs n set height falls needy (suc t) u h e =
    let r = needy u e in
    let f = falls r.1.0 r.1.1 in
    let s = ap height r.1.2 in
    by_height pairs n set height falls needy t (second_of pairs r.1.0) (omega arith) r.1.3

pub acyclic_is_well_founded : AcyclicIsWellFounded
acyclic_is_well_founded pairs n set acyclic needy u h = by_height pairs n set acyclic.0 acyclic.1 needy (suc (acyclic.0 u)) u (omega arith) h
