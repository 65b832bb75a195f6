-- Gains that are added block by block and period by period.
use Rattle.std.proofs.Common.{◌≡◌, ℕ, ◌+◌, ◌-◌, ◌*◌, ◌<◌, ◌≤◌, Bool, true, false, ltb, List, [], ◌∷◌, ◌++◌, length, get_or, refl, sym, ap, ◌∙◌, subst, arith, below_more, ⊎_elim, inl, inr}
use Rattle.std.proofs.Math.ListN.{get_or-append}
use Rattle.std.proofs.Math.Seq.{get_or-append_seam}
use Rattle.std.specs.Prelude.{ℤ, pos, ◌≤ℤ◌, ◌⊎◌}
use Rattle.std.proofs.lemmas.Bool.{cases_eq, ltb-false, ltb-true}
use Rattle.schedule_model.specs.Problem.{Problem}
use Rattle.schedule_model.specs.Bound.{IsBest, node}
use Rattle.schedule_model.proofs.Bounded.{node_below}
use Rattle.scheduling.specs.Limits.{AreWithinDistance, IsWithinDistance, IsBoundedProblem}
use Rattle.scheduling.specs.Weights.{AreSmallWeights, AreWeights}
use Rattle.scheduling.specs.Gains.{AddsGains, IsGreatest, most_gain}
use Rattle.scheduling.proofs.Weighing.{sum_within}
use Rattle.scheduling.proofs.Exchanged.{weighted_is_priced}

pub kept_pushed : (old xs ys : List ℤ) (x : ℤ) → ys ≡ xs ++ x ∷ [] → length old ≤ length xs → ((i : ℕ) → i < length old → get_or xs i (pos 0) ≡ get_or old i (pos 0)) → (i : ℕ) → i < length old → get_or ys i (pos 0) ≡ get_or old i (pos 0)
kept_pushed old xs ys x are long kept i h = ap (λ (zs : List ℤ). get_or zs i (pos 0)) are ∙ get_or-append xs (x ∷ []) (pos 0) i (omega arith) ∙ kept i h

pub added_pushed : (P : ℕ → ℤ → Type 0) (begin block : ℕ) (xs ys : List ℤ) (x : ℤ) → ys ≡ xs ++ x ∷ [] → length xs ≡ begin + block → ((b : ℕ) → b < block → P b (get_or xs (begin + b) (pos 0))) → P block x → (b : ℕ) → b < block + 1 → P b (get_or ys (begin + b) (pos 0))
added_pushed P begin block xs ys x are count each last =
    subst (λ (zs : List ℤ). (b : ℕ) → b < block + 1 → P b (get_or zs (begin + b) (pos 0))) (sym are)
    (below_more (λ b. P b (get_or (xs ++ x ∷ []) (begin + b) (pos 0))) block
    (λ b h. subst (P b) (sym (get_or-append xs (x ∷ []) (pos 0) (begin + b) (omega arith))) (each b h))
    (subst (P block) (sym (ap (λ m. get_or (xs ++ x ∷ []) m (pos 0)) (sym count) ∙ get_or-append_seam xs x [] (pos 0))) last))

module _ (problem : Problem) (prices weights : List ℤ) (limits : IsBoundedProblem problem) (t : ℕ) (are : AreWeights problem prices t weights) where
  greatest_is_best : (b : ℕ) (x : ℤ) → IsGreatest problem weights b problem.destinations x → IsBest problem prices b t x
  greatest_is_best b x g = record {
    reached = (g.reached.0, g.reached.1, sym (weighted_is_priced problem prices weights b t g.reached.0 limits are) ∙ g.reached.2);
    greatest = λ d h. subst (λ y. y ≤ℤ x) (weighted_is_priced problem prices weights b t d limits are) (g.most d h);
  }

  pub best_more : (xs ys : List ℤ) → AddsGains problem weights xs ys → length xs ≡ t * problem.blocks
      → ((b s : ℕ) → b < problem.blocks → s < t → IsBest problem prices b s (get_or xs (node problem b s) (pos 0)))
      → (b s : ℕ) → b < problem.blocks → s < t + 1 → IsBest problem prices b s (get_or ys (node problem b s) (pos 0))
  best_more xs ys adds count so_far b s hb hs =
      ⊎_elim
      (λ (e : s ≡ t).
      subst (λ u. IsBest problem prices b u (get_or ys (u * problem.blocks + b) (pos 0))) (sym e)
      (subst (λ m. IsBest problem prices b t (get_or ys (m + b) (pos 0))) count (greatest_is_best b (get_or ys (length xs + b) (pos 0)) (adds.added b hb))))
      (λ ne.
      let early : s < t = omega arith in
      let below = node_below problem.blocks t b s hb early in
      subst (IsBest problem prices b s) (sym (adds.kept (node problem b s) (omega arith))) (so_far b s hb early))
      (cases_eq s t)

before_or_not_by : (i n : ℕ) (b : Bool) → ltb i n ≡ b → (i < n) ⊎ (n ≤ i)
before_or_not_by i n true e = inl (ltb-true i n e)
before_or_not_by i n false e = inr (ltb-false i n e)

pub before_or_not : (i n : ℕ) → (i < n) ⊎ (n ≤ i)
before_or_not i n = before_or_not_by i n (ltb i n) refl

pub small_more : (problem : Problem) (weights : List ℤ) → IsBoundedProblem problem → AreSmallWeights problem weights → (xs ys : List ℤ) → AddsGains problem weights xs ys → AreWithinDistance most_gain xs → AreWithinDistance most_gain ys
small_more problem weights limits small xs ys adds so_far i h =
    ⊎_elim
    (λ (l : i < length xs). subst (IsWithinDistance most_gain) (sym (adds.kept i l)) (so_far i l))
    (λ (l : length xs ≤ i).
    let b = i - length xs in
    let count = adds.count in
    let below : b < problem.blocks = omega arith in
    let at : length xs + b ≡ i = omega arith in
    let g = adds.added b below in
    subst (λ j. IsWithinDistance most_gain (get_or ys j (pos 0))) at
    (subst (IsWithinDistance most_gain) g.reached.2 (sum_within problem weights limits small b g.reached.0 (length problem.terms) below (omega arith))))
    (before_or_not i (length xs))
