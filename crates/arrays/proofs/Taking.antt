-- One pit more: its blocks that no pit before holds have its number.
use Rattle.std.proofs.Common.{◌≡◌, ◌⊎◌, inl, inr, ℕ, ◌+◌, ◌<◌, List, length, get_or, set, sym, ap, subst, ◌∙◌, arith, ⊎_elim}
use Rattle.std.proofs.lemmas.Bool.{cases_eq}
use Rattle.std.proofs.lemmas.List.{get_or_default, get_or-set_other, get_or-set_same, length-set}
use Rattle.pit_model.specs.declared.shell.Shell.{Shell}
use Rattle.arrays.specs.Firsts.{AreFirsts, AreTaken, Holds, IsAmongFirst}

-- which shell is meant where there is none does not matter where there is one
pub holds_by : (shells : List Shell) (k u : ℕ) (d : Shell) → k < length shells → IsAmongFirst (get_or shells k d).pit.items (length (get_or shells k d).pit.items) u → Holds shells k u
holds_by shells k u d l listed e = subst (λ (shell : Shell). IsAmongFirst shell.pit.items (length shell.pit.items) u) (get_or_default shells k d e l) listed

-- one block more is listed
wider : (pit : List ℕ) (count u : ℕ) → IsAmongFirst pit count u → IsAmongFirst pit (count + 1) u
wider pit count u (i, l, is) = (i, omega arith, is)

-- a block that is listed among one more is that one, or is listed before
narrower : (pit : List ℕ) (count u : ℕ) → IsAmongFirst pit (count + 1) u → (get_or pit count 0 ≡ u) ⊎ IsAmongFirst pit count u
narrower pit count u (i, l, is) = ⊎_elim
    (λ (e : i ≡ count). inl (sym (ap (λ j. get_or pit j 0) e) ∙ is))
    (λ (ne : i ≡ count → ⊥). inr (i, omega arith, is))
    (cases_eq i count)

-- the next block of a pit has a number already
pub passed_over : (pit : List ℕ) (number none count : ℕ) (before now : List ℕ) → (get_or now (get_or pit count 0) 0 ≡ none → ⊥) → AreTaken pit number none count before now → AreTaken pit number none (count + 1) before now
passed_over pit number none count before now other is = record {
  size = is.size;
  each = λ u l. ⊎_elim
      (λ (new : (get_or now u 0 ≡ number) × (get_or before u 0 ≡ none) × IsAmongFirst pit count u). inl (new.0, new.1, wider pit count u new.2))
      (λ (kept : (get_or now u 0 ≡ get_or before u 0) × (get_or before u 0 ≡ none → IsAmongFirst pit count u → ⊥)).
      inr (
        kept.0,
        λ free listed. ⊎_elim
            (λ (e : get_or pit count 0 ≡ u). other (ap (λ v. get_or now v 0) e ∙ kept.0 ∙ free))
            (λ (sooner : IsAmongFirst pit count u). kept.1 free sooner)
            (narrower pit count u listed),
      ))
      (is.each u l);
}

-- the next block of a pit has no number yet, and is given this one
pub taken_in : (pit : List ℕ) (number none count : ℕ) (before now : List ℕ) → get_or pit count 0 < length before → (number ≡ none → ⊥) → get_or now (get_or pit count 0) 0 ≡ none
    → AreTaken pit number none count before now → AreTaken pit number none (count + 1) before (set now (get_or pit count 0) number)
taken_in pit number none count before now below another free is =
    let size : length now ≡ length before = is.size in
    record {
      size = length-set now (get_or pit count 0) number ∙ is.size;
      each = λ u l. ⊎_elim
          (λ (e : get_or pit count 0 ≡ u).
          let here : get_or (set now (get_or pit count 0) number) u 0 ≡ number = sym (ap (λ v. get_or (set now (get_or pit count 0) number) v 0) e) ∙ get_or-set_same now (get_or pit count 0) number 0 (omega arith) in
          let was : get_or now u 0 ≡ none = sym (ap (λ v. get_or now v 0) e) ∙ free in
          ⊎_elim
          (λ (new : (get_or now u 0 ≡ number) × (get_or before u 0 ≡ none) × IsAmongFirst pit count u). absurd (another (sym new.0 ∙ was)))
          (λ (kept : (get_or now u 0 ≡ get_or before u 0) × (get_or before u 0 ≡ none → IsAmongFirst pit count u → ⊥)).
          inl (here, sym kept.0 ∙ was, (count, omega arith, e)))
          (is.each u l))
          (λ (ne : get_or pit count 0 ≡ u → ⊥).
          let there : get_or (set now (get_or pit count 0) number) u 0 ≡ get_or now u 0 = get_or-set_other now (get_or pit count 0) u number 0 (λ (e : u ≡ get_or pit count 0). ne (sym e)) in
          ⊎_elim
          (λ (new : (get_or now u 0 ≡ number) × (get_or before u 0 ≡ none) × IsAmongFirst pit count u). inl (there ∙ new.0, new.1, wider pit count u new.2))
          (λ (kept : (get_or now u 0 ≡ get_or before u 0) × (get_or before u 0 ≡ none → IsAmongFirst pit count u → ⊥)).
          inr (
            there ∙ kept.0,
            λ none_yet listed. ⊎_elim
                (λ (e : get_or pit count 0 ≡ u). ne e)
                (λ (sooner : IsAmongFirst pit count u). kept.1 none_yet sooner)
                (narrower pit count u listed),
          ))
          (is.each u l))
          (cases_eq (get_or pit count 0) u);
    }

-- one pit more
pub one_more : (shells : List Shell) (n k : ℕ) (d : Shell) (before after : List ℕ) → k < length shells → AreFirsts shells n before k
    → AreTaken (get_or shells k d).pit.items k (length shells) (length (get_or shells k d).pit.items) before after → AreFirsts shells n after (k + 1)
one_more shells n k d before after l firsts taken =
    let size : length before ≡ n = firsts.size in
    record {
      size = taken.size ∙ firsts.size;
      each = λ u m. ⊎_elim
          (λ (new : (get_or after u 0 ≡ k) × (get_or before u 0 ≡ length shells) × IsAmongFirst (get_or shells k d).pit.items (length (get_or shells k d).pit.items) u).
          ⊎_elim
          (λ (old : (get_or before u 0 < k) × Holds shells (get_or before u 0) u × ((j : ℕ) → j < get_or before u 0 → Holds shells j u → ⊥)).
          let below = old.0 in
          let none = new.1 in
          absurd (omega arith))
          (λ (old : (get_or before u 0 ≡ length shells) × ((j : ℕ) → j < k → Holds shells j u → ⊥)).
          let is = new.0 in
          inl (
            omega arith,
            subst (λ j. Holds shells j u) (sym is) (holds_by shells k u d l new.2),
            λ j less. old.1 j (omega arith),
          ))
          (firsts.each u m))
          (λ (kept : (get_or after u 0 ≡ get_or before u 0) × (get_or before u 0 ≡ length shells → IsAmongFirst (get_or shells k d).pit.items (length (get_or shells k d).pit.items) u → ⊥)).
          let is = kept.0 in
          ⊎_elim
          (λ (old : (get_or before u 0 < k) × Holds shells (get_or before u 0) u × ((j : ℕ) → j < get_or before u 0 → Holds shells j u → ⊥)).
          let below = old.0 in
          inl (omega arith, subst (λ j. Holds shells j u) (sym is) old.1, λ j less. old.2 j (omega arith)))
          (λ (old : (get_or before u 0 ≡ length shells) × ((j : ℕ) → j < k → Holds shells j u → ⊥)).
          inr (
            is ∙ old.0,
            λ j less holds. ⊎_elim
                (λ (e : j ≡ k). kept.1 old.0 (subst (λ i. Holds shells i u) e holds d))
                (λ (ne : j ≡ k → ⊥). old.1 j (omega arith) holds)
                (cases_eq j k),
          ))
          (firsts.each u m))
          (taken.each u (omega arith));
    }
