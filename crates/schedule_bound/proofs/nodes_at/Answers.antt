-- The nodes have the values of the best gains.
use Rattle.std.proofs.Common.{◌∙◌, List, ap, get_or, length, subst, sym}
use Rattle.std.specs.Prelude.{ℕ, ℤ, pos}
use Rattle.pit_model.specs.Graph.{Graph}
use Rattle.schedule_model.specs.Bound.{AreNodePairs}
use Rattle.scheduling.specs.Nodes.{AreNodeValues}
use Rattle.schedule_bound.proofs.Nodes.{nodes_expanded}
use Rattle.schedule_bound.proofs.nodes_at.Goals as goal

pub returns-in-Ok-clause-nodes : goal.returns-in-Ok-clause-nodes
returns-in-Ok-clause-nodes c =
    let problem = c.args.problem.now in
    let gains : List ℤ = c.in_ok-gains.gains.items in
    let values : List ℤ = c.in_ok-values.values.items in
    let nodes = c.new-in-Ok.result in
    let graph_is = c.in_ok-new-in-Ok.ensures.ok in
    let are_at : AreNodeValues c.deref.result.now problem.blocks (length c.deref.result.now) values =
    subst (λ b. AreNodeValues c.deref.result.now b (length c.deref.result.now) values) c.blocks-2.ensures c.in_ok-values.ensures.values in
    let are : AreNodeValues gains problem.blocks (length gains) values = subst (λ (xs : List ℤ). AreNodeValues xs problem.blocks (length xs) values) c.deref.ensures.value are_at in
    let pairs : AreNodePairs problem nodes.pairs =
    subst (λ (ps : List (ℕ × ℕ)). AreNodePairs problem ps) (sym (c.new-in-Ok.ensures.pairs ∙ ap (λ (g : Graph). g.pairs) graph_is)) c.in-Ok.ensures.pairs in
    record {
      gains = gains;
      best = c.in_ok-gains.ensures;
      within = λ i h. record { rounded = get_or values i (pos 0); rounded_is = are.rounded i h; within = are.within i h };
      expanded = nodes_expanded problem gains values nodes c.in_ok-gains.ensures.count are (c.new-in-Ok.ensures.blocks ∙ ap (λ (g : Graph). g.blocks) graph_is ∙ c.in-Ok.ensures.blocks) c.new-in-Ok.ensures.values pairs;
    }
