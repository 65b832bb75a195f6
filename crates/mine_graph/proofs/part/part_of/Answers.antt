-- The renumbered pairs are those of a graph, in their order.
use Rattle.std.proofs.Common.{◌≡◌, ℕ, List, length, ap, ◌∙◌, arith}
use Rattle.mine_graph.specs.Renumbered.{has_label}
use Rattle.pit_model.proofs.Members.{members_few}
use Rattle.mine_graph.proofs.Renumbering.{renumbered_few, renumbered_graph, part_is}
use Rattle.mine_graph.proofs.part.part_of.Goals as goal

pub overflow_cast-n : goal.overflow_cast-n
overflow_cast-n c =
    let few = members_few c.args.graph.now.blocks (has_label c.args.chosen.labels.now c.args.chosen.label) in
    let same = ap (λ (xs : List ℕ). length xs) c.requires.blocks in
    let size : c.len-n.result ≡ length c.args.blocks.items = c.len-n.ensures ∙ c.args.blocks.ok.0 in
    omega (arith, c.law.ensures.few_blocks)

pub finish-requires-clause-few : goal.finish-requires-clause-few
finish-requires-clause-few c =
    let few = renumbered_few c.args.graph.now.blocks c.args.graph.now.pairs c.args.chosen.labels.now c.args.blocks.items c.args.chosen.places.now c.args.chosen.label c.law.ensures.graph c.requires.blocks c.requires.places in
    let same = ap (λ (xs : List (ℕ × ℕ)). length xs) c.in_ok-needs.ensures.pairs in
    omega (arith, c.law.ensures.few_arcs)

pub finish-requires-clause-below : goal.finish-requires-clause-below
finish-requires-clause-below c =
    let size : c.len-n.result ≡ length c.args.blocks.items = c.len-n.ensures ∙ c.args.blocks.ok.0 in
    let graph = renumbered_graph c.args.graph.now.blocks c.args.graph.now.pairs c.args.chosen.labels.now c.args.blocks.items c.args.chosen.places.now c.args.chosen.label c.law.ensures.graph c.requires.blocks c.requires.places in
    rw (size, c.in_ok-needs.ensures.pairs) (λ k l. (graph.in_range k l).0)

pub of_acyclic_rows-requires-clause-few_blocks : goal.of_acyclic_rows-requires-clause-few_blocks
of_acyclic_rows-requires-clause-few_blocks c =
    let few = members_few c.args.graph.now.blocks (has_label c.args.chosen.labels.now c.args.chosen.label) in
    let same = ap (λ (xs : List ℕ). length xs) c.requires.blocks in
    let size : c.len-n.result ≡ length c.args.blocks.items = c.len-n.ensures ∙ c.args.blocks.ok.0 in
    omega (arith, c.law.ensures.few_blocks)

pub of_acyclic_rows-requires-clause-few_pairs : goal.of_acyclic_rows-requires-clause-few_pairs
of_acyclic_rows-requires-clause-few_pairs c =
    let few = renumbered_few c.args.graph.now.blocks c.args.graph.now.pairs c.args.chosen.labels.now c.args.blocks.items c.args.chosen.places.now c.args.chosen.label c.law.ensures.graph c.requires.blocks c.requires.places in
    let same = ap (λ (xs : List (ℕ × ℕ)). length xs) (c.in_ok-finish.ensures.pairs ∙ c.in_ok-needs.ensures.pairs) in
    omega (arith, c.law.ensures.few_arcs)

pub of_acyclic_rows-requires-clause-graph : goal.of_acyclic_rows-requires-clause-graph
of_acyclic_rows-requires-clause-graph c =
    let size : c.len-n.result ≡ length c.args.blocks.items = c.len-n.ensures ∙ c.args.blocks.ok.0 in
    rw (size, c.in_ok-finish.ensures.pairs, c.in_ok-needs.ensures.pairs) (renumbered_graph c.args.graph.now.blocks c.args.graph.now.pairs c.args.chosen.labels.now c.args.blocks.items c.args.chosen.places.now c.args.chosen.label c.law.ensures.graph c.requires.blocks c.requires.places)

pub returns-clause-part : goal.returns-clause-part
returns-clause-part c =
    let size : c.len-n.result ≡ length c.args.blocks.items = c.len-n.ensures ∙ c.args.blocks.ok.0 in
    part_is c.args.graph.now.blocks c.args.graph.now.pairs c.args.chosen.labels.now c.args.blocks.items c.args.chosen.places.now c.args.chosen.label c.law.ensures.graph c.requires.blocks c.requires.places c.in_ok-graph.graph (c.in_ok-graph.ensures.blocks ∙ size) (c.in_ok-graph.ensures.pairs ∙ c.in_ok-finish.ensures.pairs ∙ c.in_ok-needs.ensures.pairs)
