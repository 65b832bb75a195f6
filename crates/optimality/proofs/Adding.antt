-- One pass that takes the flow off the blocks that it leaves and adds it where it arrives: the excess as far as the first
-- arcs go, which never leaves a signed number of 128 bits.
use Rattle.std.proofs.Common.{◌≡◌, ℕ, zero, suc, ◌+◌, ◌*◌, ◌^◌, ◌<◌, ◌≤◌, Bool, true, false, eqb, sym, ap, ◌∙◌, arith, ⊎_elim, List, set, get_or, length}
use Rattle.std.specs.Prelude.{ℤ, int_lt, pos, neg_ℤ, ◌+ℤ◌, ◌-ℤ◌, ◌≤ℤ◌}
use Rattle.std.proofs.lemmas.Int.{ints}
use Rattle.std.proofs.lemmas.Bool.{cases_eq}
use Rattle.std.proofs.lemmas.List.{get_or-set_same, get_or-set_other}
use Rattle.pit_model.specs.Sum.{total, when}
use Rattle.pit_model.specs.Mine.{Instance, source, target, value}
use Rattle.pit_model.specs.Limits.{Between}
use Rattle.pit_model.proofs.Sums.{when-here, when-other, when-zero}
use Rattle.optimality.specs.Check.{amount}

-- a place that was written holds less or more by what was taken off or added
pub set-sub : (xs : List ℤ) (j u : ℕ) (y : ℤ) → j < length xs → get_or (set xs j (get_or xs j (pos 0) -ℤ y)) u (pos 0) ≡ get_or xs u (pos 0) -ℤ when (eqb j u) y
set-sub xs j u y l = ⊎_elim
    (λ (e : j ≡ u).
    let a = get_or-set_same xs j (get_or xs j (pos 0) -ℤ y) (pos 0) l in
    let b = ap (λ k. get_or (set xs j (get_or xs j (pos 0) -ℤ y)) k (pos 0)) e in
    let c = ap (λ k. get_or xs k (pos 0)) e in
    omega (arith, ints, when-here j u y e))
    (λ (ne : j ≡ u → ⊥). omega (arith, ints, get_or-set_other xs j u (get_or xs j (pos 0) -ℤ y) (pos 0) (λ e. ne (sym e)), when-other j u y ne))
    (cases_eq j u)

pub set-add : (xs : List ℤ) (j u : ℕ) (y : ℤ) → j < length xs → get_or (set xs j (get_or xs j (pos 0) +ℤ y)) u (pos 0) ≡ get_or xs u (pos 0) +ℤ when (eqb j u) y
set-add xs j u y l = ⊎_elim
    (λ (e : j ≡ u).
    let a = get_or-set_same xs j (get_or xs j (pos 0) +ℤ y) (pos 0) l in
    let b = ap (λ k. get_or (set xs j (get_or xs j (pos 0) +ℤ y)) k (pos 0)) e in
    let c = ap (λ k. get_or xs k (pos 0)) e in
    omega (arith, ints, when-here j u y e))
    (λ (ne : j ≡ u → ⊥). omega (arith, ints, get_or-set_other xs j u (get_or xs j (pos 0) +ℤ y) (pos 0) (λ e. ne (sym e)), when-other j u y ne))
    (cases_eq j u)

-- a sum of amounts up to 10^30
pub when-between : (b : Bool) (x : ℤ) → Between (pos 0) x (pos (10 ^ 30)) → Between (pos 0) (when b x) (pos (10 ^ 30))
when-between true x h = h
when-between false x h = (omega (arith, ints), omega (arith, ints))

total-between : (m : ℕ) (test : ℕ → Bool) (f : ℕ → ℤ) → ((k : ℕ) → k < m → Between (pos 0) (f k) (pos (10 ^ 30)))
    → Between (pos 0) (total m (λ k. when (test k) (f k))) (pos (m * 10 ^ 30))
total-between zero test f small = (omega (arith, ints), omega (arith, ints))
total-between (suc m) test f small =
    let rest = total-between m test f (λ k h. small k (omega arith)) in
    let last = when-between (test m) (f m) (small m (omega arith)) in
    let a = rest.0 in let b = rest.1 in let c = last.0 in let d = last.1 in
    (omega (arith, ints), omega (arith, ints))

-- the excess as far as the first m arcs go
abbrev pub excess_so_far : Instance → List ℤ → ℕ → ℕ → ℤ
excess_so_far mine flow m u =
    value mine u +ℤ total m (λ k. when (eqb (target mine k) u) (amount flow k)) -ℤ total m (λ k. when (eqb (source mine k) u) (amount flow k))

pub so_far-none : (mine : Instance) (flow : List ℤ) (u : ℕ) → value mine u ≡ excess_so_far mine flow 0 u
so_far-none mine flow u = omega (arith, ints)

pub so_far-more : (mine : Instance) (flow : List ℤ) (m u : ℕ) (x : ℤ) → x ≡ excess_so_far mine flow m u
    → x -ℤ when (eqb (source mine m) u) (amount flow m) +ℤ when (eqb (target mine m) u) (amount flow m) ≡ excess_so_far mine flow (m + 1) u
so_far-more mine flow m u x e =
    let p : suc m ≡ m + 1 = omega arith in
    let q : x -ℤ when (eqb (source mine m) u) (amount flow m) +ℤ when (eqb (target mine m) u) (amount flow m) ≡ excess_so_far mine flow (suc m) u = omega (arith, ints) in
    q ∙ ap (λ k. excess_so_far mine flow k u) p

-- an amount that is not negative, and not above 0
pub no_flow : (x : ℤ) → (pos 0 ≤ℤ x) → int_lt (pos 0) x ≡ false → x ≡ pos 0
no_flow x low none = omega (arith, ints)

-- an arc without flow changes no excess
pub so_far-skip : (mine : Instance) (flow : List ℤ) (m u : ℕ) (x : ℤ) → amount flow m ≡ pos 0 → x ≡ excess_so_far mine flow m u → x ≡ excess_so_far mine flow (m + 1) u
so_far-skip mine flow m u x none e =
    let from = ap (when (eqb (source mine m) u)) none ∙ when-zero (eqb (source mine m) u) in
    let to = ap (when (eqb (target mine m) u)) none ∙ when-zero (eqb (target mine m) u) in
    let more = so_far-more mine flow m u x e in
    omega (arith, ints)

-- it lies within 10^23 + 2^26 * 10^30 of 0
pub so_far-bound : (mine : Instance) (flow : List ℤ) (m u : ℕ) → m ≤ 2 ^ 26
    → ((k : ℕ) → k < m → Between (pos 0) (amount flow k) (pos (10 ^ 30)))
    → (neg_ℤ (pos (10 ^ 23)) ≤ℤ value mine u) → (value mine u ≤ℤ pos (10 ^ 23))
    → Between (neg_ℤ (pos (10 ^ 38))) (excess_so_far mine flow m u) (pos (10 ^ 38))
so_far-bound mine flow m u few small low high =
    let a = total-between m (λ k. eqb (target mine k) u) (amount flow) small in
    let b = total-between m (λ k. eqb (source mine k) u) (amount flow) small in
    let c = a.0 in let d = a.1 in let e = b.0 in let f = b.1 in
    (omega (arith, ints), omega (arith, ints))
