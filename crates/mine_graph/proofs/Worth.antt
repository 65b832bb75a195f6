-- The values of a list of blocks, summed: small, and for the members of a set the worth of the set.
use Rattle.std.proofs.Common.{ℕ, zero, suc, ◌*◌, ◌^◌, ◌<◌, ◌≤◌, arith, List, get_or, length}
use Rattle.std.specs.Prelude.{ℤ, pos, neg_ℤ, ◌+ℤ◌, ◌≤ℤ◌}
use Rattle.std.specs.List.{All}
use Rattle.std.proofs.lemmas.Int.{ints}
use Rattle.std.proofs.lemmas.List.Elements.{All-get_or}
use mir.Val.{SFits}
use mir.Syntax.{w128}
use Rattle.pit_model.specs.Sum.{total}
use Rattle.pit_model.specs.Size.{most_blocks}
use Rattle.mine_graph.specs.Invariant.{AreWithinLimits}

-- a sum of numbers within 10^23 of 0
pub total-small : (n : ℕ) (f : ℕ → ℤ) → ((i : ℕ) → i < n → (neg_ℤ (pos (10 ^ 23)) ≤ℤ f i) × (f i ≤ℤ pos (10 ^ 23)))
    → (pos 0 ≤ℤ (total n f +ℤ pos (n * 10 ^ 23))) × (total n f ≤ℤ pos (n * 10 ^ 23))
total-small zero f small = (omega (arith, ints), omega (arith, ints))
total-small (suc n) f small =
    let rest = total-small n f (λ i l. small i (omega arith)) in
    let above = rest.0 in
    let below = rest.1 in
    let last = small n (omega arith) in
    let low = last.0 in
    let high = last.1 in
    (omega (arith, ints), omega (arith, ints))

-- one block more, where the sums so far and the value are within the limits
pub summed_fits : (values : List ℤ) (xs : List ℕ) (i : ℕ) → AreWithinLimits (length values) values → length xs ≤ most_blocks → All (λ u. u < length values) xs → i < length xs
    → (SFits w128 (get_or values (get_or xs i 0) (pos 0))) × (SFits w128 (total i (λ k. get_or values (get_or xs k 0) (pos 0)) +ℤ get_or values (get_or xs i 0) (pos 0)))
summed_fits values xs i limits few below l =
    let at : (k : ℕ) → k < length xs → get_or xs k 0 < length values = λ k h. All-get_or (λ u. u < length values) xs k 0 h below in
    let rest = total-small i (λ k. get_or values (get_or xs k 0) (pos 0)) (λ k h. (limits.low (get_or xs k 0) (at k (omega arith)), limits.high (get_or xs k 0) (at k (omega arith)))) in
    let lower = rest.0 in
    let upper = rest.1 in
    let low = limits.low (get_or xs i 0) (at i l) in
    let high = limits.high (get_or xs i 0) (at i l) in
    (omega (arith, ints), omega (arith, ints))
