-- A pair of the row is added where it leads to a block with the label.
use Rattle.std.proofs.Common.{◌≡◌, ◌<◌, ◌++◌, ◌&&◌, ℕ, [], ◌∷◌, true, false, map, length, get_or, ap, refl, sym, ◌∙◌, arith}
use Rattle.std.proofs.lemmas.Bool.{eq-eqb, ne_eqb}
use Rattle.std.proofs.lemmas.List.{map-append}
use Rattle.pit_model.specs.Graph.{Graph, first_of, second_of}
use Rattle.pit_model.specs.Mine.{members}
use Rattle.mine_graph.specs.Renumbered.{has_label, is_inside, placed_pair}
use Rattle.mine_graph.proofs.Renumbering.{inside_so_far, row_adds, row_begins, row_skips, row_ends}
use Rattle.mine_graph.proofs.part.add_row.Goals as goal
use Rattle.mine_graph.proofs.part.add_row.Goals.{then-chosen-needed+in_ok-push, else-chosen-needed}

pub loop-k-init : goal.loop-k-init
loop-k-init c =
    let ps = c.args.graph.now.pairs in
    let labels = c.args.chosen.labels.now in
    record {
      row = refl;
      added = c.requires.before ∙ ap (map (placed_pair ps c.args.chosen.places.now)) (sym (row_begins ps labels c.args.chosen.label c.args.block c.arcs_of-arcs.result.start (λ i l e. ((c.arcs_of-arcs.ensures.own i l).0 e).0)));
    }

pub loop-k-preserved : goal.loop-k-preserved
loop-k-preserved c =
    let ps = c.args.graph.now.pairs in
    let labels = c.args.chosen.labels.now in
    let places = c.args.chosen.places.now in
    let k = c.loop-k.k in
    let inside : k < length ps = omega (arith, c.loop-k-test.true, c.arcs_of-arcs.ensures.inside) in
    let own : first_of ps k ≡ c.args.block = (c.arcs_of-arcs.ensures.own k inside).1 (c.loop-k.auto.k, c.loop-k-test.true) in
    let to : c.needed-needed.result ≡ second_of ps k = c.needed-needed.ensures in
    let left : has_label labels c.args.chosen.label (first_of ps k) ≡ true = eq-eqb (get_or labels (first_of ps k) 0) c.args.chosen.label (ap (λ u. get_or labels u 0) own ∙ c.requires.own) in
    let both : is_inside ps labels c.args.chosen.label k ≡ has_label labels c.args.chosen.label (second_of ps k) = ap (λ b. b && has_label labels c.args.chosen.label (second_of ps k)) left in
    elim c.if-chosen-needed.branch [
      | then-chosen-needed+in_ok-push w ↦
          let is : is_inside ps labels c.args.chosen.label k ≡ true = both ∙ eq-eqb (get_or labels (second_of ps k) 0) c.args.chosen.label (ap (λ u. get_or labels u 0) (sym to) ∙ w.if-chosen-needed.true) in
          let grown = row_adds ps labels c.args.chosen.label c.args.block k c.law.ensures.graph.rising inside own is in
          let row : placed_pair ps places k ≡ (get_or places c.args.block 0, get_or places c.needed-needed.result 0) =
          ap (λ u. (get_or places u 0, get_or places (second_of ps k) 0)) own ∙ ap (λ u. (get_or places c.args.block 0, get_or places u 0)) (sym to) in
          let place : ℕ = get_or places c.needed-needed.result 0 in
          record {
            row = ap (λ (g : Graph). g.blocks) w.needs-is ∙ w.in_ok-push.ensures.row ∙ c.loop-k.invariant.row;
            added = ap (λ (g : Graph). g.pairs) w.needs-is ∙ w.in_ok-push.ensures.added ∙ ap (λ u. c.loop-k.needs.pairs ++ (u, place) ∷ []) (c.loop-k.invariant.row ∙ c.requires.row)
                ∙ ap (λ xs. xs ++ (get_or places c.args.block 0, place) ∷ []) c.loop-k.invariant.added
                ∙ ap (λ q. map (placed_pair ps places) (members (length ps) (inside_so_far ps labels c.args.chosen.label c.args.block k)) ++ q ∷ []) (sym row)
                ∙ sym (ap (map (placed_pair ps places)) grown ∙ map-append (placed_pair ps places) (members (length ps) (inside_so_far ps labels c.args.chosen.label c.args.block k)) (k ∷ []));
          }
      | else-chosen-needed w ↦
          let off : is_inside ps labels c.args.chosen.label k ≡ false = both ∙ ne_eqb (get_or labels (second_of ps k) 0) c.args.chosen.label (λ e. w.if-chosen-needed.false (ap (λ u. get_or labels u 0) to ∙ e)) in
          record {
            row = ap (λ (g : Graph). g.blocks) w.needs-is ∙ c.loop-k.invariant.row;
            added = ap (λ (g : Graph). g.pairs) w.needs-is ∙ c.loop-k.invariant.added ∙ ap (map (placed_pair ps places)) (sym (row_skips ps labels c.args.chosen.label c.args.block k off));
          }
    ]

pub returns : goal.returns
returns c =
    let ps = c.args.graph.now.pairs in
    let end : c.loop-k.k ≡ c.arcs_of-arcs.result.end = let below = c.loop-k.auto.k-end c.arcs_of-arcs.ensures.order in omega (arith, c.loop-k-test.false) in
    record {
      row = c.loop-k.invariant.row;
      after = c.loop-k.invariant.added ∙ ap (λ k. map (placed_pair ps c.args.chosen.places.now) (members (length ps) (inside_so_far ps c.args.chosen.labels.now c.args.chosen.label c.args.block k))) end
          ∙ ap (map (placed_pair ps c.args.chosen.places.now)) (row_ends ps c.args.chosen.labels.now c.args.chosen.label c.args.block c.arcs_of-arcs.result.end (λ i l e. ((c.arcs_of-arcs.ensures.own i l).0 e).1));
    }
