-- A list whose items have no fault is one of factors, and the first item with a fault is the list's.
use Rattle.std.proofs.Common.{◌≡◌, ℕ, suc, ◌+◌, ◌<◌, ◌≤◌, Bool, true, false, cond, ltb, leb, refl, sym, ap, subst, ◌∙◌, arith, ⊎_elim, List, length, get_or, map, Option, Some, None}
use Rattle.std.proofs.lemmas.Bool.{cases_eq, cases_lt, leb-false, ltb-true, ltb-false}
use Rattle.std.proofs.lemmas.Option.{none-some}
use Rattle.std.proofs.lemmas.List.{get_or-map}
use Rattle.std.proofs.lemmas.List.Elements.{All-from_get_or}
use Rattle.faults.specs.declared.fault.Fault.{Fault}
use Rattle.pit_model.specs.Shells.{AreFactors}
use Rattle.nesting.specs.FactorList.{item_fault_after, is_above, item_fault, number_before, IsFirstItemFault}

none_by : {X : Type 0} (many over above : Bool) (f g h : X) → cond many (Some f) (cond over (Some g) (cond above None (Some h))) ≡ None → (many ≡ false) × (over ≡ false) × (above ≡ true)
none_by true over above f g h e = absurd (none-some f (sym e))
none_by false true above f g h e = absurd (none-some g (sym e))
none_by false false false f g h e = absurd (none-some h (sym e))
none_by false false true f g h e = (refl, refl, refl)

-- what a number without fault is
passes : (k : ℕ) (before : Option ℕ) (x : ℕ) → item_fault_after k before (Some x) ≡ None → (k < 1000) × (x ≤ 100000) × (is_above before x ≡ true)
unfolding item_fault_after
passes k before x none =
    let h = none_by (leb 1000 k) (ltb 100000 x) (is_above before x) _ _ _ none in
    let few = leb-false 1000 k h.0 in
    let small = ltb-false 100000 x h.1 in
    (omega arith, omega arith, h.2)

-- the numbers of a list of factors
abbrev pub numbers : List ℕ → List (Option ℕ)
numbers list = map (λ factor. Some factor) list

pub number_at : (list : List ℕ) (k : ℕ) → k < length list → get_or (numbers list) k None ≡ Some (get_or list k 0)
number_at list k l = get_or-map (λ factor. Some factor) list k 0 None l

pub no_fault_are_factors : (list : List ℕ) → ((k : ℕ) → k < length list → item_fault (numbers list) k ≡ None) → AreFactors list
no_fault_are_factors list none =
    let at : (k : ℕ) → k < length list → (k < 1000) × (get_or list k 0 ≤ 100000) × (is_above (number_before (numbers list) k) (get_or list k 0) ≡ true) =
    λ k l. passes k (number_before (numbers list) k) (get_or list k 0) (ap (item_fault_after k (number_before (numbers list) k)) (sym (number_at list k l)) ∙ none k l) in
    record {
      rising = λ k l.
          let next : k + 1 ≡ suc k = omega arith in
          let inside : suc k < length list = omega arith in
          let here : k < length list = omega arith in
          let above = (at (suc k) inside).2 in
          let less = ltb-true (get_or list k 0) (get_or list (suc k) 0) (ap (λ o. is_above o (get_or list (suc k) 0)) (sym (number_at list k here)) ∙ above) in
          subst (λ i. get_or list k 0 < get_or list i 0) (sym next) less;
      small = All-from_get_or (λ factor. factor ≤ 100000) list 0 (λ k l. (at k l).1);
      few = ⊎_elim
          (λ (l : 1000 < length list). absurd (let h = (at 1000 l).0 in omega arith))
          (λ (l : length list ≤ 1000). l)
          (cases_lt 1000 (length list));
    }

-- the items so far have no fault, and the one at hand has
pub first_item_fault : (ns : List (Option ℕ)) (k : ℕ) (fault : Fault) → k < length ns → ((j : ℕ) → j < k → item_fault ns j ≡ None) → item_fault ns k ≡ Some fault → IsFirstItemFault ns fault
first_item_fault ns k fault inside none here = record { first = record { place = k; none_before = none; here = here }; inside = inside }

-- one item more without a fault
pub one_more : (ns : List (Option ℕ)) (k : ℕ) → ((j : ℕ) → j < k → item_fault ns j ≡ None) → item_fault ns k ≡ None → (j : ℕ) → j < k + 1 → item_fault ns j ≡ None
one_more ns k none here j l = ⊎_elim
    (λ (e : j ≡ k). ap (item_fault ns) e ∙ here)
    (λ (ne : j ≡ k → ⊥). none j (omega arith))
    (cases_eq j k)

pub before_next : (ns : List (Option ℕ)) (k : ℕ) → number_before ns (k + 1) ≡ get_or ns k None
before_next ns k = let e : k + 1 ≡ suc k = omega arith in ap (number_before ns) e

-- the checks of an item depend on the number before it and its own
pub fault_here : (ns : List (Option ℕ)) (k : ℕ) (before number : Option ℕ) → before ≡ number_before ns k → number ≡ get_or ns k None → item_fault ns k ≡ item_fault_after k before number
fault_here ns k before number e f = sym (ap (λ o. item_fault_after k o number) e ∙ ap (item_fault_after k (number_before ns k)) f)
