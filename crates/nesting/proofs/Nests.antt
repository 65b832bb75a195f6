-- The shells of rising factors lie within one another: each is the pit at its factor.
use Rattle.std.proofs.Common.{◌≡◌, ℕ, ◌+◌, ◌<◌, ◌≤◌, Bool, true, sym, ap, subst, ◌∙◌, arith, ⊎_elim, List, [], ◌∷◌, ◌++◌, get_or, length, map, take}
use Rattle.std.specs.List.{All, AllPairs, Contains}
use Rattle.std.specs.List.Sorted.{IsStrictlyIncreasing}
use Rattle.std.proofs.lemmas.Bool.{cases_eq}
use Rattle.std.proofs.lemmas.List.{get_or_default, get_or-map, length-map, map_push, take_all, take_more}
use Rattle.std.proofs.lemmas.List.Kept.{AllPairs-from_increasing}
use Rattle.pit_model.specs.declared.direction.Direction.{Direction}
use Rattle.pit_model.specs.Mine.{members}
use Rattle.pit_model.specs.Deposit.{Deposit, IsPriced}
use Rattle.pit_model.specs.Shells.{AreFactors, AreShells, IsShell, IsWithin}
use Rattle.pit_model.specs.declared.shell.Shell.{Shell}
use Rattle.pit_model.proofs.Members.{members_each, members_place}
use Rattle.pit_model.proofs.Shells.{shells_nest}

-- to be listed is to be a member
listed_member : (n : ℕ) (set : ℕ → Bool) (u : ℕ) → Contains (members n set) u → (u < n) × (set u ≡ true)
listed_member n set u (k, l, is) =
    let at : get_or (members n set) k 0 ≡ u = sym (get_or_default (members n set) k u 0 l) ∙ is in
    let each = members_each n set k l in
    let below = each.0 in
    (omega arith, ap set (sym at) ∙ each.1)

member_listed : (n : ℕ) (set : ℕ → Bool) (u : ℕ) → u < n → set u ≡ true → Contains (members n set) u
member_listed n set u l h =
    let place = members_place n set u l h in
    (place.0, place.1, get_or_default (members n set) place.0 u 0 place.1 ∙ place.2)

within : (direction : Direction) (deposit : Deposit) (inner outer : Shell) → IsPriced deposit → inner.factor ≤ outer.factor → IsShell direction deposit inner → IsShell direction deposit outer → IsWithin inner outer
within direction deposit inner outer priced le a b u held =
    let at = listed_member deposit.blocks a.set u (subst (λ (xs : List ℕ). Contains xs u) a.listed held) in
    let there = shells_nest direction deposit inner.factor outer.factor a.set b.set priced le a.is_pit b.is_pit u at.0 at.1 in
    subst (λ (xs : List ℕ). Contains xs u) (sym b.listed) (member_listed deposit.blocks b.set u at.0 there)

pub nests : (direction : Direction) (deposit : Deposit) (factors : List ℕ) (shells : List Shell) → IsPriced deposit → IsStrictlyIncreasing factors → map (λ shell. shell.factor) shells ≡ factors
    → All (IsShell direction deposit) shells → AllPairs IsWithin shells
nests direction deposit factors shells priced rising named each i j d low inside =
    let factor : (k : ℕ) → k < length shells → (get_or shells k d).factor ≡ get_or factors k 0 =
    λ k l. sym (get_or-map (λ (shell : Shell). shell.factor) shells k d 0 l) ∙ ap (λ (xs : List ℕ). get_or xs k 0) named in
    let size = length-map shells (λ (shell : Shell). shell.factor) in
    let same = ap (λ (xs : List ℕ). length xs) named in
    let less = AllPairs-from_increasing factors rising i j 0 low (omega arith) in
    let first = factor i (omega arith) in
    let second = factor j inside in
    within direction deposit (get_or shells i d) (get_or shells j d) priced (omega arith) (each i d (omega arith)) (each j d inside)

pub are_shells : (direction : Direction) (deposit : Deposit) (factors : List ℕ) (shells : List Shell) (k : ℕ) → IsPriced deposit → AreFactors factors → length factors ≤ k
    → map (λ shell. shell.factor) shells ≡ take k factors → All (IsShell direction deposit) shells → AreShells direction deposit factors shells
are_shells direction deposit factors shells k priced are all named each =
    let whole = named ∙ take_all k factors all in
    record {
      factors_are = whole;
      each = each;
      nested = nests direction deposit factors shells priced are.rising whole each;
    }

-- one shell more
pub one_more_named : (factors : List ℕ) (shells : List Shell) (shell : Shell) (k : ℕ) → k < length factors → map (λ s. s.factor) shells ≡ take k factors
    → shell.factor ≡ get_or factors k 0 → map (λ s. s.factor) (shells ++ shell ∷ []) ≡ take (k + 1) factors
one_more_named factors shells shell k l named factor =
    map_push (λ (s : Shell). s.factor) shells shell ∙ ap (λ xs. xs ++ shell.factor ∷ []) named ∙ ap (λ f. take k factors ++ f ∷ []) factor ∙ sym (take_more factors k 0 l)

pub each_below : (P : ℕ → Type 0) (k : ℕ) → ((j : ℕ) → j < k → P j) → P k → (j : ℕ) → j < k + 1 → P j
each_below P k below here j l = ⊎_elim
    (λ (e : j ≡ k). subst P (sym e) here)
    (λ (ne : j ≡ k → ⊥). below j (omega arith))
    (cases_eq j k)
