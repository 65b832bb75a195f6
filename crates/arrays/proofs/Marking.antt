-- Blocks of a list are marked one by one in bytes.
use Rattle.std.proofs.Common.{◌≡◌, ◌⊎◌, ℕ, ◌<◌, ◌≤◌, Bool, true, false, List, length, get_or, sym, ap, subst, ◌∙◌, ⊎_elim}
use Rattle.std.specs.Prelude.{if◌then◌else◌}
use Rattle.std.specs.List.{All}
use Rattle.std.proofs.lemmas.Bool.{cases_Bool, true≢false}
use Rattle.pit_model.specs.Mine.{members}
use Rattle.pit_model.proofs.Members.{members_below, members_each, members_few, members_place}
use Rattle.arrays.specs.Solved.{AreMarks}

-- of n blocks exactly the first `count` of the list are marked
pub record AreMarked (n : ℕ) (blocks marks : List ℕ) (count : ℕ) : Type 0 where
  pub size : length marks ≡ n
  pub each : (v : ℕ) → v < n → ((get_or marks v 0 ≡ 1) × ((i : ℕ) × (i < count) × (get_or blocks i 0 ≡ v))) ⊎ ((get_or marks v 0 ≡ 0) × ((i : ℕ) → i < count → get_or blocks i 0 ≡ v → ⊥))

pub marks_of_set : (n : ℕ) (blocks marks : List ℕ) (set : ℕ → Bool) → AreMarked n blocks marks (length blocks) → blocks ≡ members n set → AreMarks n set marks
marks_of_set n blocks marks set is listed = record {
  count = is.size;
  each = λ u l. ⊎_elim
      (λ (on : set u ≡ true).
      let place = members_place n set u l on in
      let inside : place.0 < length blocks = subst (λ (xs : List ℕ). place.0 < length xs) (sym listed) place.1 in
      let here : get_or blocks place.0 0 ≡ u = ap (λ (xs : List ℕ). get_or xs place.0 0) listed ∙ place.2 in
      ⊎_elim
      (λ (m : (get_or marks u 0 ≡ 1) × ((i : ℕ) × (i < length blocks) × (get_or blocks i 0 ≡ u))). m.0 ∙ sym (ap (λ b. if b then 1 else 0) on))
      (λ (m : (get_or marks u 0 ≡ 0) × ((i : ℕ) → i < length blocks → get_or blocks i 0 ≡ u → ⊥)). absurd (m.1 place.0 inside here))
      (is.each u l))
      (λ (off : set u ≡ false). ⊎_elim
      (λ (m : (get_or marks u 0 ≡ 1) × ((i : ℕ) × (i < length blocks) × (get_or blocks i 0 ≡ u))).
      let each = members_each n set m.1.0 (subst (λ (xs : List ℕ). m.1.0 < length xs) listed m.1.1) in
      let same : get_or (members n set) m.1.0 0 ≡ u = ap (λ (xs : List ℕ). get_or xs m.1.0 0) (sym listed) ∙ m.1.2 in
      absurd (true≢false (sym each.1 ∙ ap set same ∙ off)))
      (λ (m : (get_or marks u 0 ≡ 0) × ((i : ℕ) → i < length blocks → get_or blocks i 0 ≡ u → ⊥)). m.0 ∙ sym (ap (λ b. if b then 1 else 0) off))
      (is.each u l))
      (cases_Bool (set u));
}

-- the blocks of a set lie below its bound, and there are no more of them
pub listed_below : (n : ℕ) (pit : List ℕ) (set : ℕ → Bool) → pit ≡ members n set → All (λ u. u < n) pit
listed_below n pit set listed = subst (λ xs. All (λ u. u < n) xs) (sym listed) (members_below n set)

pub listed_few : (n : ℕ) (pit : List ℕ) (set : ℕ → Bool) → pit ≡ members n set → length pit ≤ n
listed_few n pit set listed = subst (λ xs. length xs ≤ n) (sym listed) (members_few n set)
