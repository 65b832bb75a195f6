-- What the lowest-label order writes stays in range.
use Rattle.std.proofs.Common.{◌≡◌, ℕ, ◌+◌, ◌<◌, ap, ◌∙◌, arith, ⊎_elim, List, set, length, get_or}
use Rattle.std.proofs.lemmas.Bool.{cases_eq}
use Rattle.std.proofs.lemmas.List.{get_or-set_same, get_or-set_other, length-set}
use Rattle.std.proofs.lemmas.List.FromFn.{get_or-range_with_len, length-range_with_len}
use Rattle.std.specs.List.{range_with_len}
use Rattle.merging.specs.Order.{AreBelow}

pub below_set : (xs : List ℕ) (bound i x : ℕ) → AreBelow xs bound → x < bound → AreBelow (set xs i x) bound
below_set xs bound i x below new j l =
    let s = length-set xs i x in
    ⊎_elim
    (λ (e : j ≡ i). let at : get_or (set xs i x) j 0 ≡ x = ap (λ k. get_or (set xs i x) k 0) e ∙ get_or-set_same xs i x 0 (omega arith) in omega arith)
    (λ (ne : j ≡ i → ⊥). let at = get_or-set_other xs i j x 0 ne in let old = below j (omega arith) in omega arith)
    (cases_eq j i)

-- the numbers below n
pub numbers_below : (xs : List ℕ) (n : ℕ) → xs ≡ range_with_len 0 n → AreBelow xs n
numbers_below xs n is i l =
    let count : length xs ≡ n = ap (λ (ys : List ℕ). length ys) is ∙ length-range_with_len 0 n in
    let own : get_or xs i 0 ≡ 0 + i = ap (λ ys. get_or ys i 0) is ∙ get_or-range_with_len 0 n i 0 (omega (arith, count, l)) in
    omega (arith, own, count, l)
