-- The values of all blocks, in their order, are within the limits.
use Rattle.std.proofs.Common.{◌≡◌, ◌<◌, ◌∙◌, ℕ, List, ap, subst, sym, length, map, arith, rules}
use Rattle.std.specs.List.{All, range_with_len}
use Rattle.std.proofs.lemmas.List.{length-map}
use Rattle.std.proofs.lemmas.List.Elements.{All-get_or}
use Rattle.std.proofs.lemmas.List.FromFn.{length-range_with_len}
use Rattle.nesting.specs.Prices.{price_of}
use Rattle.nesting.proofs.Joining.{values_small}
use Rattle.nesting.proofs.Parametric.{range_below}
use Rattle.nesting.proofs.whole.mine_at.Goals as goal

pub values-requires-clause-blocks : goal.values-requires-clause-blocks
values-requires-clause-blocks c =
    let n = c.n.result in
    let rows : n ≡ length c.args.columns.now.revenues = search rules in
    subst (λ (xs : List ℕ). All (λ u. u < length c.args.columns.now.revenues) xs) (sym (c.deref-2.ensures.value ∙ c.in_ok-blocks.ensures))
    (subst (λ k. All (λ u. u < k) (range_with_len 0 n)) rows (range_below n))

pub with_counters-requires-clause-count : goal.with_counters-requires-clause-count
with_counters-requires-clause-count c =
    let n = c.n.result in
    let values : c.in_ok-values.values.items ≡ map (price_of c.args.columns.now c.args.factor) (range_with_len 0 n) =
    c.in_ok-values.ensures ∙ ap (map (price_of c.args.columns.now c.args.factor)) (c.deref-2.ensures.value ∙ c.in_ok-blocks.ensures) in
    let count : n ≡ c.in_ok-try_clone.field-0.value.blocks = search rules in
    ap (λ xs. length xs) values ∙ length-map (range_with_len 0 n) (price_of c.args.columns.now c.args.factor) ∙ length-range_with_len 0 n ∙ count

pub with_counters-requires-clause-low : goal.with_counters-requires-clause-low
with_counters-requires-clause-low c u l =
    let n = c.n.result in
    let columns = c.args.columns.now in
    let values : c.in_ok-values.values.items ≡ map (price_of columns c.args.factor) (range_with_len 0 n) =
    c.in_ok-values.ensures ∙ ap (map (price_of columns c.args.factor)) (c.deref-2.ensures.value ∙ c.in_ok-blocks.ensures) in
    let count : n ≡ c.in_ok-try_clone.field-0.value.blocks = search rules in
    let rows : n ≡ length columns.revenues = search rules in
    let size = length-range_with_len 0 n in
    (values_small columns c.args.factor u (range_with_len 0 n) c.in_ok-values.values.items c.law.ensures c.requires.factor
    (λ i m. let below = All-get_or (λ v. v < n) (range_with_len 0 n) i 0 m (range_below n) in omega arith) values (omega arith)).0

pub with_counters-requires-clause-high : goal.with_counters-requires-clause-high
with_counters-requires-clause-high c u l =
    let n = c.n.result in
    let columns = c.args.columns.now in
    let values : c.in_ok-values.values.items ≡ map (price_of columns c.args.factor) (range_with_len 0 n) =
    c.in_ok-values.ensures ∙ ap (map (price_of columns c.args.factor)) (c.deref-2.ensures.value ∙ c.in_ok-blocks.ensures) in
    let count : n ≡ c.in_ok-try_clone.field-0.value.blocks = search rules in
    let rows : n ≡ length columns.revenues = search rules in
    let size = length-range_with_len 0 n in
    (values_small columns c.args.factor u (range_with_len 0 n) c.in_ok-values.values.items c.law.ensures c.requires.factor
    (λ i m. let below = All-get_or (λ v. v < n) (range_with_len 0 n) i 0 m (range_below n) in omega arith) values (omega arith)).1
