-- The pairs are those of the nodes, without a cycle.
use Rattle.std.proofs.Common.{◌≡◌, ◌*◌, ◌∙◌, ap, sym, subst, List}
use Rattle.std.specs.Prelude.{ℕ}
use Rattle.std.proofs.lemmas.Result.{err_from_is_err_and}
use Rattle.pit_model.specs.Graph.{AreInRange}
use Rattle.scheduling.proofs.Paired.{are_apart, are_node_pairs, nodes_acyclic, nodes_in_range, only_memory, reordered}
use Rattle.scheduling.proofs.expanded.node_graph.Goals as goal

pub new-requires-clause-in_range : goal.new-requires-clause-in_range
new-requires-clause-in_range c =
    let problem = c.args.problem.now in
    let pairs : List (ℕ × ℕ) = c.in_ok-pairs.pairs.items in
    let count : c.periods.result * c.blocks-2.result ≡ problem.periods * problem.blocks = ap (λ x. x * c.blocks-2.result) c.periods.ensures ∙ ap (λ y. problem.periods * y) c.blocks-2.ensures in
    subst (AreInRange pairs) (sym count) (nodes_in_range problem pairs c.law.ensures.graph.in_range (are_node_pairs problem c.law.ensures pairs c.in_ok-pairs.ensures))

pub new-requires-clause-apart : goal.new-requires-clause-apart
new-requires-clause-apart c = are_apart c.args.problem.now c.law.ensures c.in_ok-pairs.pairs.items c.in_ok-pairs.ensures

pub returns-in_err-graph-clause-refused : goal.returns-in_err-graph-clause-refused
returns-in_err-graph-clause-refused c =
    let problem = c.args.problem.now in
    let pairs : List (ℕ × ℕ) = c.in_ok-pairs.pairs.items in
    let p = err_from_is_err_and c.from_residual-in_err-graph.result c.from_residual-in_err-graph.ensures.1 in
    rw (p.1, p.2) (only_memory c.acyclic_is_well_founded.ensures pairs (c.periods.result * c.blocks-2.result) c.in_err-graph.field-0.0.refusal c.in_err-graph.field-0.0
    (nodes_acyclic problem c.law.ensures.graph.in_range c.law.ensures.graph.acyclic pairs (are_node_pairs problem c.law.ensures pairs c.in_ok-pairs.ensures)) c.in_err-graph.ensures.refused)

pub returns-clause-pairs : goal.returns-clause-pairs
returns-clause-pairs c =
    reordered c.args.problem.now c.in_ok-pairs.pairs.items c.in_ok-graph.graph.pairs (are_node_pairs c.args.problem.now c.law.ensures c.in_ok-pairs.pairs.items c.in_ok-pairs.ensures) c.in_ok-graph.ensures.same
