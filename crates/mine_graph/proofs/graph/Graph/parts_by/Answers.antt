-- The rows of the labels hold the members of each class.
use Rattle.std.proofs.Common.{◌<◌, ℕ, length, arith, ap, ◌∙◌}
use Rattle.csr.specs.Transposed.{transposed_pairs}
use Rattle.mine_graph.specs.Components.{label_of}
use Rattle.mine_graph.specs.Parts.{labelled}
use Rattle.mine_graph.proofs.Parting.{labelled_in_range, rows_are}
use Rattle.mine_graph.proofs.graph.Graph.parts_by.Goals as goal

pub parts_of-requires-clause-rows : goal.parts_of-requires-clause-rows
parts_of-requires-clause-rows c =
    let labels = c.args.components.now.labels.items in
    let below : (u : ℕ) → u < length labels → label_of labels u < length labels =
    λ u l. let size = c.requires.size in let few = c.requires.few in let passed = c.requires.passed u (omega arith) in omega arith in
    rows_are labels c.view.result.offsets.now c.view.result.targets.now c.in_ok-by_label.by_label.blocks (labelled_in_range labels below) c.view.ensures.rows
    (c.in_ok-by_label.ensures.blocks ∙ ap length c.deref.ensures.value)
    (c.view.ensures.pairs ∙ c.in_ok-by_label.ensures.pairs ∙ ap (λ ls. transposed_pairs (labelled ls) (length ls)) c.deref.ensures.value)
