-- Rows that end at the place or before are before its own, and all others are not.
use Rattle.std.proofs.Common.{◌≡◌, ℕ, ◌+◌, ◌-◌, ◌<◌, leb, List, drop, take, length, get_or, ap, ◌∙◌, arith, rules, ⊎_elim}
use Rattle.std.specs.Prelude.{◌⊎◌}
use Rattle.std.proofs.lemmas.Bool.{cases_order, leb-true, leb-false}
use Rattle.std.proofs.lemmas.List.{get_or-drop, get_or-take, length-drop, length-take-le}
use Rattle.std.proofs.lemmas.List.Sorted.{IsNonDecreasingBy-from_default, IsPartitionPoint-from_clause, IsPartitionedBy-leb}
use Rattle.mine_graph.proofs.row_samples.row_between.Goals as goal

pub returns : goal.returns
returns c v low high from to =
    let starts = c.args.starts.now in
    let first : ℕ = c.args.least + 1 in
    let count : ℕ = c.args.most + 1 - (c.args.least + 1) in
    let ends : List ℕ = take count (drop first starts) in
    let order = c.requires.order in
    let inside = c.requires.inside in
    let size : length ends ≡ count = length-take-le count (drop first starts) (omega (arith, length-drop first starts)) in
    let at : (i : ℕ) → i < count → get_or ends i 0 ≡ get_or starts (first + i) 0 = λ i l. get_or-take count (drop first starts) i 0 l ∙ get_or-drop first starts i 0 in
    let rising = IsNonDecreasingBy-from_default (λ (x : ℕ). x) ends 0
    (λ i j less within. let a = at i (omega arith) in let b = at j (omega arith) in let r = c.requires.rise (first + i) (first + j) (omega arith) (omega arith) in omega arith) in
    let parted = IsPartitionedBy-leb (λ (x : ℕ). x) ends c.args.place rising in
    let point = IsPartitionPoint-from_clause (λ (x : ℕ). leb x c.args.place) _ _ c.partition_point.ensures.partitioned parted (λ a r q k. search rules) in
    let p : ℕ = c.partition_point.result in
    let is : p ≡ v - c.args.least = ⊎_elim
    (λ (e : p ≡ v - c.args.least). e)
    (λ (apart : (p < v - c.args.least) ⊎ (v - c.args.least < p)). absurd (⊎_elim
    (λ (less : p < v - c.args.least).
    let i : ℕ = v - c.args.least - 1 in
    let after = leb-false (get_or ends i 0) c.args.place (point.1 i 0 (omega arith) (omega arith)) in
    let here = at i (omega arith) in
    let e : first + i ≡ v = omega arith in
    let same = ap (λ k. get_or starts k 0) e in
    let z : ⊥ = omega arith in z)
    (λ (more : v - c.args.least < p).
    let before = leb-true (get_or ends (v - c.args.least) 0) c.args.place (point.0 (v - c.args.least) 0 (omega (arith, c.partition_point.ensures.bound)) more) in
    let here = at (v - c.args.least) (omega (arith, c.partition_point.ensures.bound)) in
    let e : first + (v - c.args.least) ≡ v + 1 = omega arith in
    let same = ap (λ k. get_or starts k 0) e in
    let z : ⊥ = omega arith in z)
    apart))
    (cases_order p (v - c.args.least)) in
    omega arith
