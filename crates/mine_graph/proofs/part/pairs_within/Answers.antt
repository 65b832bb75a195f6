-- The rows lie one behind the other, and no row of the part between them.
use Rattle.std.proofs.Common.{◌≡◌, ◌<◌, ◌≤◌, ◌+◌, ℕ, suc, map, length, get_or, ap, sym, subst, ◌∙◌, arith, List}
use Rattle.std.proofs.lemmas.Bool.{eqb-true}
use Rattle.std.proofs.lemmas.List.{length-map}
use Rattle.pit_model.specs.Mine.{members}
use Rattle.mine_graph.specs.Renumbered.{has_label, placed_pair, is_inside_before}
use Rattle.pit_model.proofs.Members.{member_at, members_few, bound_of}
use Rattle.mine_graph.proofs.Renumbering.{rows_begin, rows_on, rows_end}
use Rattle.mine_graph.proofs.part.pairs_within.Goals as goal

pub loop-i-init : goal.loop-i-init
loop-i-init c = record {
  row = omega (arith, c.in_ok-needs.ensures.blocks);
  added = c.in_ok-needs.ensures.pairs ∙ sym (ap (map (placed_pair c.args.graph.now.pairs c.args.chosen.places.now))
      (rows_begin c.args.graph.now.pairs c.args.chosen.labels.now c.args.chosen.label c.args.graph.now.blocks c.law.ensures.graph.in_range));
}

pub add_row-requires-clause-inside : goal.add_row-requires-clause-inside
add_row-requires-clause-inside c =
    let test = has_label c.args.chosen.labels.now c.args.chosen.label in
    let here : c.loop-i.i < length (members c.args.graph.now.blocks test) = subst (λ xs. c.loop-i.i < length xs) c.requires.blocks c.loop-i-test.true in
    subst (λ xs. get_or xs c.loop-i.i 0 < c.args.graph.now.blocks) (sym c.requires.blocks) (member_at c.args.graph.now.blocks test c.loop-i.i here).inside

pub add_row-requires-clause-own : goal.add_row-requires-clause-own
add_row-requires-clause-own c =
    let test = has_label c.args.chosen.labels.now c.args.chosen.label in
    let here : c.loop-i.i < length (members c.args.graph.now.blocks test) = subst (λ xs. c.loop-i.i < length xs) c.requires.blocks c.loop-i-test.true in
    let u : ℕ = get_or (members c.args.graph.now.blocks test) c.loop-i.i 0 in
    ap (λ xs. get_or c.args.chosen.labels.now (get_or xs c.loop-i.i 0) 0) c.requires.blocks
    ∙ eqb-true (get_or c.args.chosen.labels.now u 0) c.args.chosen.label (member_at c.args.graph.now.blocks test c.loop-i.i here).passes

pub add_row-requires-clause-before : goal.add_row-requires-clause-before
add_row-requires-clause-before c =
    let test = has_label c.args.chosen.labels.now c.args.chosen.label in
    let ps = c.args.graph.now.pairs in
    let here : c.loop-i.i < length (members c.args.graph.now.blocks test) = subst (λ xs. c.loop-i.i < length xs) c.requires.blocks c.loop-i-test.true in
    let at = member_at c.args.graph.now.blocks test c.loop-i.i here in
    c.open_row.ensures.pairs ∙ c.loop-i.invariant.added ∙ ap (λ b. map (placed_pair ps c.args.chosen.places.now) (members (length ps) (is_inside_before ps c.args.chosen.labels.now c.args.chosen.label b)))
    (at.here ∙ ap (λ xs. get_or xs c.loop-i.i 0) (sym c.requires.blocks))

pub loop-i-preserved : goal.loop-i-preserved
loop-i-preserved c =
    let test = has_label c.args.chosen.labels.now c.args.chosen.label in
    let ps = c.args.graph.now.pairs in
    let here : c.loop-i.i < length (members c.args.graph.now.blocks test) = subst (λ xs. c.loop-i.i < length xs) c.requires.blocks c.loop-i-test.true in
    let u : ℕ = get_or (members c.args.graph.now.blocks test) c.loop-i.i 0 in
    let next : suc c.loop-i.i ≡ c.loop-i.i + 1 = omega arith in
    record {
      row = omega (arith, c.in_ok-add_row.ensures.row, c.open_row.ensures.upto);
      added = c.in_ok-add_row.ensures.after
          ∙ ap (λ xs. map (placed_pair ps c.args.chosen.places.now) (members (length ps) (is_inside_before ps c.args.chosen.labels.now c.args.chosen.label (get_or xs c.loop-i.i 0 + 1)))) c.requires.blocks
          ∙ ap (map (placed_pair ps c.args.chosen.places.now)) (rows_on ps c.args.chosen.labels.now c.args.chosen.label c.args.graph.now.blocks c.loop-i.i u c.law.ensures.graph.in_range (member_at c.args.graph.now.blocks test c.loop-i.i here))
          ∙ ap (λ i. map (placed_pair ps c.args.chosen.places.now) (members (length ps) (is_inside_before ps c.args.chosen.labels.now c.args.chosen.label (bound_of c.args.graph.now.blocks test i)))) next;
    }

pub add_row-requires-clause-row : goal.add_row-requires-clause-row
add_row-requires-clause-row c = c.in_ok-open_row.ensures.row ∙ sym (c.requires.places c.loop-i.i c.loop-i-test.true)

pub returns-clause-pairs : goal.returns-clause-pairs
returns-clause-pairs c =
    let test = has_label c.args.chosen.labels.now c.args.chosen.label in
    let ps = c.args.graph.now.pairs in
    let past : length (members c.args.graph.now.blocks test) ≤ c.loop-i.i = subst (λ xs. length xs ≤ c.loop-i.i) c.requires.blocks c.loop-i-test.false in
    c.loop-i.invariant.added ∙ ap (map (placed_pair ps c.args.chosen.places.now)) (rows_end ps c.args.chosen.labels.now c.args.chosen.label c.args.graph.now.blocks c.loop-i.i c.law.ensures.graph.in_range past)

pub overflow_cast-i : goal.overflow_cast-i
overflow_cast-i c =
    let few = members_few c.args.graph.now.blocks (has_label c.args.chosen.labels.now c.args.chosen.label) in
    let same = ap (λ (xs : List ℕ). length xs) c.requires.blocks in
    omega (arith, c.law.ensures.few_blocks)

pub open_row-requires-clause-few : goal.open_row-requires-clause-few
open_row-requires-clause-few c =
    let ps = c.args.graph.now.pairs in
    let test = is_inside_before ps c.args.chosen.labels.now c.args.chosen.label (bound_of c.args.graph.now.blocks (has_label c.args.chosen.labels.now c.args.chosen.label) c.loop-i.i) in
    let long = ap (λ (xs : List (ℕ × ℕ)). length xs) c.loop-i.invariant.added in
    omega (arith, length-map (members (length ps) test) (placed_pair ps c.args.chosen.places.now), members_few (length ps) test, c.law.ensures.few_arcs)
