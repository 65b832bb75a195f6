-- The blocks of a list are marked one by one; without a mark are the others.
use Rattle.std.proofs.Common.{◌≡◌, ℕ, ◌+◌, ◌<◌, Bool, true, false, not, sym, ap, subst, ◌∙◌, arith, ⊎_elim, List, get_or, length, set}
use Rattle.std.specs.Prelude.{◌↔◌}
use Rattle.std.proofs.lemmas.Bool.{cases_Bool, cases_eq, true≢false}
use Rattle.std.proofs.lemmas.List.{get_or-set_same, get_or-set_other, length-set}
use Rattle.pit_model.specs.Mine.{members}
use Rattle.pit_model.proofs.Members.{members_each, members_ext, members_place}
use Rattle.optimality.specs.Check.{has}

-- of n blocks exactly the first k of the list are marked
pub record IsMarking (n : ℕ) (found : List ℕ) (marks : List Bool) (k : ℕ) : Type 0 where
  pub size : length marks ≡ n
  pub marked : (v : ℕ) → (has marks v ≡ true) ↔ ((i : ℕ) × (i < k) × (get_or found i 0 ≡ v))

pub one_more : (n : ℕ) (found : List ℕ) (marks : List Bool) (k : ℕ) → get_or found k 0 < n → IsMarking n found marks k → IsMarking n found (set marks (get_or found k 0) true) (k + 1)
one_more n found marks k below is =
    let u : ℕ = get_or found k 0 in
    let size = is.size in
    let here : has (set marks u true) u ≡ true = get_or-set_same marks u true false (omega arith) in
    record {
      size = length-set marks u true ∙ is.size;
      marked = λ v. ⊎_elim
          (λ (e : v ≡ u). (λ h. (k, omega arith, sym e), λ w. subst (λ x. has (set marks u true) x ≡ true) (sym e) here))
          (λ (ne : v ≡ u → ⊥).
          let same = get_or-set_other marks u v true false ne in (
            λ h. let f = (is.marked v).0 (sym same ∙ h) in let l = f.1 in (f.0, omega arith, f.2),
            λ w. ⊎_elim
                (λ (e : w.0 ≡ k). absurd (ne (sym w.2 ∙ ap (λ i. get_or found i 0) e)))
                (λ (other : w.0 ≡ k → ⊥). let l = w.1 in same ∙ (is.marked v).1 (w.0, omega arith, w.2))
                (cases_eq w.0 k),
          ))
          (cases_eq v u);
    }

-- a block is marked where it is a member
pub marks_members : (n : ℕ) (found : List ℕ) (marks : List Bool) (set : ℕ → Bool) → IsMarking n found marks (length found) → found ≡ members n set → (u : ℕ) → u < n → has marks u ≡ set u
marks_members n found marks set is listed u l = ⊎_elim
    (λ (on : set u ≡ true).
    let place = members_place n set u l on in
    (is.marked u).1 (place.0, subst (λ (xs : List ℕ). place.0 < length xs) (sym listed) place.1, ap (λ (xs : List ℕ). get_or xs place.0 0) listed ∙ place.2) ∙ sym on)
    (λ (off : set u ≡ false). ⊎_elim
    (λ (on : has marks u ≡ true).
    let place = (is.marked u).0 on in
    let each = members_each n set place.0 (subst (λ (xs : List ℕ). place.0 < length xs) listed place.1) in
    let same : get_or (members n set) place.0 0 ≡ u = ap (λ (xs : List ℕ). get_or xs place.0 0) (sym listed) ∙ place.2 in
    absurd (true≢false (sym each.1 ∙ ap set same ∙ off)))
    (λ (none : has marks u ≡ false). none ∙ sym off)
    (cases_Bool (has marks u)))
    (cases_Bool (set u))

pub unmarked_members : (n : ℕ) (found : List ℕ) (marks : List Bool) (set : ℕ → Bool) → IsMarking n found marks (length found) → found ≡ members n set
    → members (length marks) (λ u. not (has marks u)) ≡ members n (λ u. not (set u))
unmarked_members n found marks set is listed =
    ap (λ k. members k (λ u. not (has marks u))) is.size
    ∙ members_ext n (λ u. not (has marks u)) (λ u. not (set u)) (λ u l. ap not (marks_members n found marks set is listed u l))
