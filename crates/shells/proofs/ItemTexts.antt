-- How items come off the front of a text, and that what one is refused by lies in the text.
use Rattle.std.proofs.Common.{◌≡◌, ℕ, suc, ◌<◌, Bool, true, false, cond, ltb, leb, refl, ap, subst, ◌∙◌, arith, List, [], ◌∷◌, ◌++◌, length, get_or, map, Option, Some, None, not}
use Rattle.std.specs.List.{slice_split, position_or_len}
use Rattle.std.proofs.lemmas.List.{append-nil, get_or_at, length-append, length-map}
use Rattle.std.proofs.lemmas.List.Splits.{slice_split_first}
use Rattle.std.proofs.lemmas.List.Sums.{prefix_len-le-length}
use Rattle.faults.specs.declared.fault.Fault.{Fault}
use Rattle.faults.specs.declared.refusal.Refusal.TheVariants.{OverLimit, FactorsNotRising}
use Rattle.minelib_reader.specs.Answer.{FailsAt}
use Rattle.minelib_reader.specs.Number.{cut_at, whole_of}
use Rattle.minelib_reader.proofs.TextLemmas.{whole}
use Rattle.minelib_reader.proofs.LineLemmas.{cut_none_by, cut_some_by}
use Rattle.nesting.specs.FactorList.{at_item, item_fault_after, is_above, number_fault, IsFirstItemFault}
use Rattle.nesting.proofs.ItemChecks.{numbers}
use Rattle.shells.specs.FactorText.{is_comma, items_behind}

pub items_end : (text : List ℕ) → cut_at 44 text ≡ None → slice_split is_comma text ≡ text ∷ []
unfolding cut_at
items_end text none =
    let most = cut_none_by 44 text (ltb (position_or_len is_comma text) (length text)) refl none in
    let least = prefix_len-le-length (λ x. not (is_comma x)) text in
    whole is_comma text (omega (arith, most, least))

pub items_go_on : (text : List ℕ) (p : List ℕ × List ℕ) → cut_at 44 text ≡ Some p → slice_split is_comma text ≡ p.0 ∷ slice_split is_comma p.1
unfolding cut_at
items_go_on text p some =
    let h = cut_some_by 44 text p (ltb (position_or_len is_comma text) (length text)) refl some in
    slice_split_first is_comma text 0 h.0 ∙ ap (λ (q : List ℕ × List ℕ). q.0 ∷ slice_split is_comma q.1) h.1

-- the item at hand, and those behind it
pub item_here : (ns : List (Option ℕ)) (list : List ℕ) (rest behind : Option (List ℕ)) (left item : List ℕ) → ns ≡ numbers list ++ map whole_of (items_behind rest) → rest ≡ Some left
    → slice_split is_comma left ≡ item ∷ items_behind behind → (get_or ns (length list) None ≡ whole_of item) × (length list < length ns)
item_here ns list rest behind left item all some cut =
    let size = length-map list (λ (factor : ℕ). Some factor) in
    let is : ns ≡ numbers list ++ whole_of item ∷ map whole_of (items_behind behind) =
    all ∙ ap (λ (o : Option (List ℕ)). numbers list ++ map whole_of (items_behind o)) some ∙ ap (λ (xs : List (List ℕ)). numbers list ++ map whole_of xs) cut in
    let long = ap (λ (xs : List (Option ℕ)). length xs) is ∙ length-append (numbers list) (whole_of item ∷ map whole_of (items_behind behind)) in
    (ap (λ (xs : List (Option ℕ)). get_or xs (length list) None) is ∙ get_or_at (numbers list) (whole_of item) (map whole_of (items_behind behind)) None (length list) size, omega arith)

-- where no text is left, the list has all
pub all_items : (ns : List (Option ℕ)) (list : List ℕ) (rest : Option (List ℕ)) → ns ≡ numbers list ++ map whole_of (items_behind rest) → rest ≡ None → ns ≡ numbers list
all_items ns list rest all none = all ∙ ap (λ (o : Option (List ℕ)). numbers list ++ map whole_of (items_behind o)) none ∙ append-nil (numbers list)

-- what an item is refused by lies in the text: no memory was wanted
abbrev FailsSo : List (Option ℕ) → Option Fault → Type 0
FailsSo ns None = Unit {0}
FailsSo ns (Some e) = IsFirstItemFault ns e → FailsAt e.refusal e (IsFirstItemFault ns)

so_by : (ns : List (Option ℕ)) (b : Bool) (x y : Option Fault) → FailsSo ns x → FailsSo ns y → FailsSo ns (cond b x y)
so_by ns true x y p q = p
so_by ns false x y p q = q

number_so : (ns : List (Option ℕ)) (item : ℕ) (before number : Option ℕ) → FailsSo ns (number_fault item before number)
number_so ns item before None = λ h. h
number_so ns item before (Some x) =
    so_by ns (ltb 100000 x) (Some (at_item OverLimit item)) (cond (is_above before x) None (Some (at_item FactorsNotRising item))) (λ h. h)
    (so_by ns (is_above before x) None (Some (at_item FactorsNotRising item)) tt (λ h. h))

behind_so : (ns : List (Option ℕ)) (k : ℕ) (before number : Option ℕ) → FailsSo ns (item_fault_after k before number)
unfolding item_fault_after
behind_so ns k before number = so_by ns (leb 1000 k) (Some (at_item OverLimit (suc k))) (number_fault (suc k) before number) (λ h. h) (number_so ns (suc k) before number)

pub item_refused : (ns : List (Option ℕ)) (k : ℕ) (before number : Option ℕ) (e : Fault) → item_fault_after k before number ≡ Some e → IsFirstItemFault ns e → FailsAt e.refusal e (IsFirstItemFault ns)
item_refused ns k before number e is = subst (FailsSo ns) is (behind_so ns k before number)
