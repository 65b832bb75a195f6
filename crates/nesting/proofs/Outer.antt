-- The outermost shell is what is found on the whole; and the shells of its part, lifted, are those of the whole.
use Rattle.std.proofs.Common.{◌≡◌, ℕ, ◌-◌, ◌<◌, ◌≤◌, not, Bool, true, false, refl, sym, ap, subst, ◌∙◌, arith, ⊎_elim, List, [], ◌∷◌, get_or, length, map}
use Rattle.std.specs.List.{All}
use Rattle.std.proofs.lemmas.Bool.{cases_eq}
use Rattle.std.proofs.lemmas.List.{ext_get_or, get_or-map, length-map, take_all}
use Rattle.std.proofs.lemmas.List.Kept.{AllPairs-from_increasing}
use Rattle.pit_model.specs.Graph.{Graph, AreInRange}
use Rattle.pit_model.specs.Mine.{members}
use Rattle.pit_model.specs.Part.{IsPart}
use Rattle.pit_model.specs.Deposit.{IsPriced, mine_at}
use Rattle.pit_model.specs.declared.direction.Direction.{Direction}
use Rattle.pit_model.specs.Pit.{ListsPit, no_blocks_fixed}
use Rattle.pit_model.specs.Shells.{AreFactors, AreShells, IsShell}
use Rattle.pit_model.specs.declared.shell.Shell.{Shell}
use Rattle.pit_model.proofs.Members.{members_each}
use Rattle.mine_graph.proofs.Renumbering.{part_ext}
use Rattle.nesting.specs.Prices.{Prices, deposit_of}
use Rattle.nesting.specs.Grown.{marked}
use Rattle.nesting.specs.Outermost.{amounts_of, AreLifted, IsOutermost, IsPlacedIn}
use Rattle.nesting.proofs.Lifting.{lifted_is_shell}
use Rattle.nesting.proofs.Nests.{are_shells}

twice_not : (b : Bool) → not (not b) ≡ b
twice_not true = refl
twice_not false = refl

pub is_outermost : (direction : Direction) (prices inner : Prices) (graph part other : Graph) (factor : ℕ) (marks ms : List Bool) (found blocks : List ℕ)
    → AreInRange graph.pairs graph.blocks → ListsPit direction (mine_at (deposit_of prices graph) factor) no_blocks_fixed found
    → ((set : ℕ → Bool) → found ≡ members graph.blocks set → (u : ℕ) → u < graph.blocks → marked marks u ≡ set u)
    → ms ≡ map not marks → length marks ≡ graph.blocks → IsPart graph (λ u. not (get_or ms u false)) blocks part → other ≡ part
    → inner.revenues ≡ amounts_of prices.revenues blocks → inner.costs ≡ amounts_of prices.costs blocks
    → IsOutermost direction prices graph factor blocks inner other
is_outermost direction prices inner graph part other factor marks ms found blocks range shown marked_as mapped size is same revenues costs =
    let unmarked : (u : ℕ) → u < graph.blocks → not (get_or ms u false) ≡ shown.set u = λ u l.
    ap (λ (xs : List Bool). not (get_or xs u false)) mapped ∙ ap not (get_or-map not marks u false false (omega arith)) ∙ twice_not (marked marks u) ∙ marked_as shown.set shown.listed u l in
    record {
      set = shown.set;
      is_pit = shown.is_pit;
      is_part = subst (λ (h : Graph). IsPart graph shown.set blocks h) (sym same) (part_ext graph part (λ u. not (get_or ms u false)) shown.set blocks range unmarked is);
      revenues = revenues;
      costs = costs;
    }

pub outer_blocks : (direction : Direction) (prices inner : Prices) (graph part : Graph) (factor : ℕ) (blocks : List ℕ) → IsOutermost direction prices graph factor blocks inner part → (i : ℕ) → i < length blocks → get_or blocks i 0 < graph.blocks
outer_blocks direction prices inner graph part factor blocks outer i l =
    let listed = outer.is_part.blocks_are in
    let at = members_each graph.blocks outer.set i (subst (λ (xs : List ℕ). i < length xs) listed l) in
    let here : get_or blocks i 0 ≡ get_or (members graph.blocks outer.set) i 0 = ap (λ (xs : List ℕ). get_or xs i 0) listed in
    let below = at.0 in
    omega arith

pub pits_placed : (direction : Direction) (prices inner : Prices) (graph part : Graph) (factor : ℕ) (blocks : List ℕ) (shells : List Shell) → IsOutermost direction prices graph factor blocks inner part → All (IsShell direction (deposit_of inner part)) shells → All (IsPlacedIn blocks) shells
pits_placed direction prices inner graph part factor blocks shells outer each k d l j m =
    let is = each k d l in
    let at = members_each part.blocks is.set j (subst (λ (xs : List ℕ). j < length xs) is.listed m) in
    let here : get_or (get_or shells k d).pit.items j 0 ≡ get_or (members part.blocks is.set) j 0 = ap (λ (xs : List ℕ). get_or xs j 0) is.listed in
    let below = at.0 in
    let count = outer.is_part.count in
    omega arith

abbrev factors_in : List Shell → List ℕ
factors_in shells = map (λ (shell : Shell). shell.factor) shells

named_same : (n : ℕ) (blocks : List ℕ) (inner outer : List Shell) → AreLifted n blocks inner outer (length inner) → factors_in outer ≡ factors_in inner
named_same n blocks [] [] by = refl
named_same n blocks (y ∷ ys) [] by = absurd (let size = by.size in omega arith)
named_same n blocks inner (x ∷ xs) by =
    let size = by.size in
    let one = length-map (x ∷ xs) (λ (shell : Shell). shell.factor) in
    let two = length-map inner (λ (shell : Shell). shell.factor) in
    ext_get_or 0 (factors_in (x ∷ xs)) (factors_in inner) (one ∙ size ∙ sym two) (λ i l.
    let here : i < length (x ∷ xs) = omega arith in
    let there : i < length inner = omega arith in
    get_or-map (λ (shell : Shell). shell.factor) (x ∷ xs) i x 0 here ∙ (by.each i x there).factor ∙ sym (get_or-map (λ (shell : Shell). shell.factor) inner i x 0 there))

-- no factor is above the last
pub last_is_most : (factors : List ℕ) (k : ℕ) → AreFactors factors → k < length factors → get_or factors k 0 ≤ get_or factors (length factors - 1) 0
last_is_most factors k are l = ⊎_elim
    (λ (e : k ≡ length factors - 1). let same = ap (λ i. get_or factors i 0) e in omega arith)
    (λ (ne : k ≡ length factors - 1 → ⊥). let less = AllPairs-from_increasing factors are.rising k (length factors - 1) 0 (omega arith) (omega arith) in omega arith)
    (cases_eq k (length factors - 1))

pub lifted_are_shells : (direction : Direction) (prices inner : Prices) (graph part : Graph) (greatest : ℕ) (blocks factors : List ℕ) (shells lifted : List Shell) → IsPriced (deposit_of prices graph) → AreFactors factors
    → IsOutermost direction prices graph greatest blocks inner part → AreInRange part.pairs part.blocks → greatest ≡ get_or factors (length factors - 1) 0
    → AreShells direction (deposit_of inner part) factors shells → AreLifted graph.blocks blocks shells lifted (length shells) → AreShells direction (deposit_of prices graph) factors lifted
lifted_are_shells direction prices inner graph part greatest blocks factors shells lifted priced are outer range last found by =
    let named : factors_in lifted ≡ factors = named_same graph.blocks blocks shells lifted by ∙ found.factors_are in
    let size = by.size in
    let count : length shells ≡ length factors = sym (length-map shells (λ (shell : Shell). shell.factor)) ∙ ap (λ (xs : List ℕ). length xs) found.factors_are in
    are_shells direction (deposit_of prices graph) factors lifted (length factors) priced are (omega arith) (named ∙ sym (take_all (length factors) factors (omega arith)))
    (λ i d l.
    let there : i < length shells = omega arith in
    let factor : (get_or shells i d).factor ≡ get_or factors i 0 = sym (get_or-map (λ (shell : Shell). shell.factor) shells i d 0 there) ∙ ap (λ (xs : List ℕ). get_or xs i 0) found.factors_are in
    let most = last_is_most factors i are (omega arith) in
    lifted_is_shell direction prices inner graph part (get_or shells i d).factor greatest blocks priced (omega arith) outer range (get_or shells i d) (get_or lifted i d) (found.each i d there) refl (by.each i d there))
