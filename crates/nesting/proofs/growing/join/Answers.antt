-- What was found is marked, and the rest is what lies outside the marks.
use Rattle.std.proofs.Common.{◌≡◌, ◌<◌, [], List, ℕ, Bool, true, get_or, length, sym, ap, subst, arith, rules}
use Rattle.std.specs.Prelude.{◌⊎◌}
use Rattle.pit_model.specs.Shells.{IsJoined}
use Rattle.nesting.specs.Prices.{Prices, deposit_of}
use Rattle.nesting.specs.Grown.{marked}
use Rattle.nesting.proofs.Joining.{is_outside, joins, joins_none, left_over, written_over}
use Rattle.nesting.proofs.growing.join.Goals as goal

abbrev no_prices : Prices
no_prices = record { revenues = []; costs = [] }

pub returns-then-is_empty-clause-joined : goal.returns-then-is_empty-clause-joined
returns-then-is_empty-clause-joined c =
    let growing = c.args.growing.now in
    let none : length c.args.found.now ≡ 0 = search rules in
    joins_none (deposit_of no_prices c.args.graph.now) growing.marks.items growing.blocks.items c.args.found.now growing.graph.value (c.requires.outside no_prices) none

pub mark-requires-clause-blocks : goal.mark-requires-clause-blocks
mark-requires-clause-blocks c i l =
    let growing = c.args.growing.now in
    let is : c.deref.result.now ≡ growing.blocks.items = c.deref.ensures.value in
    let at = ap (λ (xs : List ℕ). get_or xs i 0) is in
    let below = (left_over (deposit_of no_prices c.args.graph.now) growing.marks.items growing.blocks.items growing.graph.value (c.requires.outside no_prices) i (subst (λ (xs : List ℕ). i < length xs) is l)).0 in
    let size = ap (λ (xs : List Bool). length xs) c.deref_mut.ensures.value in
    let all = c.requires.size in
    omega arith

pub returns-clause-outside : goal.returns-clause-outside
returns-clause-outside c prices =
    is_outside prices c.args.graph.now c.in_ok-part.part.graph c.in_ok-rest.rest.value _ c.deref-2.result.now c.in_ok-part.part.blocks.items c.in_ok-part.ensures.part c.law.ensures.graph c.deref-2.ensures.value c.in_ok-rest.ensures.ok

pub returns-clause-joined : goal.returns-clause-joined
returns-clause-joined c test listed =
    let growing = c.args.growing.now in
    let old = growing.marks.items in
    let new = c.mark.new.marks in
    let blocks = growing.blocks.items in
    let found = c.args.found.now in
    let size : length new ≡ length old = search rules in
    let same = written_over growing.marks.len new old size growing.marks.ok.0 in
    let is : c.deref.result.now ≡ blocks = c.deref.ensures.value in
    let before : c.deref_mut.result.now ≡ old = c.deref_mut.ensures.value in
    let keeps = subst (λ (ms : List Bool). (u : ℕ) → marked ms u ≡ true → marked new u ≡ true) before c.mark.ensures.keeps in
    let adds = subst (λ (xs : List ℕ). (j : ℕ) → j < length found → marked new (get_or xs (get_or found j 0) 0) ≡ true) is c.mark.ensures.adds in
    let only = subst (λ (ms : List Bool). (u : ℕ) → marked new u ≡ true → (marked ms u ≡ true) ⊎ ((j : ℕ) × (j < length found) × (get_or blocks (get_or found j 0) 0 ≡ u))) before
    (subst (λ (xs : List ℕ). (u : ℕ) → marked new u ≡ true → (marked c.deref_mut.result.now u ≡ true) ⊎ ((j : ℕ) × (j < length found) × (get_or xs (get_or found j 0) 0 ≡ u))) is c.mark.ensures.only) in
    subst (λ (ms : List Bool). IsJoined (marked old) blocks test (marked ms)) (sym same)
    (joins (deposit_of no_prices c.args.graph.now) old new blocks found growing.graph.value (c.requires.outside no_prices) keeps adds only test listed)
