-- Looking for a pair among those of its block, by halves: those before the place found are less, the others are not.
use Rattle.std.proofs.Common.{◌≡◌, ℕ, ◌+◌, ◌-◌, ◌<◌, ◌≤◌, ap, ◌∙◌, arith, ⊎_elim, List, get_or, length}
use Rattle.std.specs.Prelude.{◌⊎◌, ◌↔◌}
use Rattle.std.proofs.lemmas.Bool.{cases_eq, cases_order}
use Rattle.pit_model.specs.Graph.{first_of, second_of, AreRising}
use Rattle.csr.specs.Shared.{target_after}

-- the differences from block u to the targets of its pairs, which begin at `start`
module _ (pairs : List (ℕ × ℕ)) (row : List ℕ) (u start : ℕ) (rising : AreRising pairs) (inside : start + length row ≤ length pairs)
    (own : (k : ℕ) → k < length pairs → (first_of pairs k ≡ u) ↔ ((start ≤ k) × (k < start + length row)))
    (targets : (i : ℕ) → i < length row → target_after u (get_or row i 0) ≡ second_of pairs (start + i)) where
  -- the targets of one block do not fall
  pub row_rises : (i j : ℕ) → i ≤ j → j < length row → target_after u (get_or row i 0) ≤ target_after u (get_or row j 0)
  row_rises i j h l = ⊎_elim
      (λ (e : i ≡ j). let same = ap (λ k. target_after u (get_or row k 0)) e in omega arith)
      (λ (ne : i ≡ j → ⊥).
      let low = targets i (omega arith) in
      let high = targets j l in
      let x = (own (start + i) (omega arith)).1 (omega arith, omega arith) in
      let y = (own (start + j) (omega arith)).1 (omega arith, omega arith) in
      ⊎_elim
      (λ (r : first_of pairs (start + i) < first_of pairs (start + j)). absurd (omega arith))
      (λ (r : (first_of pairs (start + i) ≡ first_of pairs (start + j)) × (second_of pairs (start + i) < second_of pairs (start + j))). let z = r.1 in let w : target_after u (get_or row i 0) ≤ target_after u (get_or row j 0) = omega arith in w)
      (rising (start + i) (start + j) (omega arith) (omega arith)))
      (cases_eq i j)

  -- a pair of the block stands at the place
  pub found_at : (p place k : ℕ)
      → ((i : ℕ) → i < place → target_after u (get_or row i 0) < p) → ((i : ℕ) → place ≤ i → i < length row → p ≤ target_after u (get_or row i 0))
      → k < length pairs → first_of pairs k ≡ u → second_of pairs k ≡ p
      → (place < length row) × (target_after u (get_or row place 0) ≡ p)
  found_at p place k before after l e s =
      let f = (own k l).0 e in
      let from = f.0 in
      let to = f.1 in
      let j : ℕ = k - start in
      let back : start + j ≡ k = omega arith in
      let here : target_after u (get_or row j 0) ≡ p = targets j (omega arith) ∙ ap (second_of pairs) back ∙ s in
      ⊎_elim
      (λ (same : place ≡ j). (omega arith, ap (λ i. target_after u (get_or row i 0)) same ∙ here))
      (λ (apart : (place < j) ⊎ (j < place)). absurd (⊎_elim
      (λ (less : place < j).
      let at = after place (omega arith) (omega arith) in
      let there = targets place (omega arith) in
      let x = (own (start + place) (omega arith)).1 (omega arith, omega arith) in
      ⊎_elim
      (λ (r : first_of pairs (start + place) < first_of pairs k). let z : ⊥ = omega arith in z)
      (λ (r : (first_of pairs (start + place) ≡ first_of pairs k) × (second_of pairs (start + place) < second_of pairs k)). let y = r.1 in let z : ⊥ = omega arith in z)
      (rising (start + place) k (omega arith) l))
      (λ (more : j < place). let at = before j more in let z : ⊥ = omega arith in z)
      apart))
      (cases_order place j)
