-- A pair of the block would stand at the place that the search answers.
use Rattle.std.proofs.Common.{◌<◌, length, ap, arith, subst, sym, ◌∙◌}
use Rattle.pit_model.specs.Graph.{Graph, first_of, second_of}
use Rattle.mine_graph.proofs.Search.{found_at, row_rises}
use Rattle.mine_graph.proofs.graph.Graph.arc_of.Goals as goal
use Rattle.mine_graph.proofs.graph.Graph.arc_of.Goals.{else-place-row-via-then-place-row+else-u-row, else-place-row-via-else-place-row}

pub first_at_least-place-requires : goal.first_at_least-place-requires
first_at_least-place-requires c =
    let row = c.shared_row-row in
    row_rises c.self.inside.predecessors.pairs row.result.differences.now c.args.u row.result.start c.self.invariant.graph.rising row.ensures.inside row.ensures.own row.ensures.targets

pub returns-else-place-row-clause-none : goal.returns-else-place-row-clause-none
returns-else-place-row-clause-none c k l e s =
    let row = c.shared_row-row in
    let found = found_at c.self.inside.predecessors.pairs row.result.differences.now c.args.u row.result.start c.self.invariant.graph.rising row.ensures.inside row.ensures.own row.ensures.targets
    c.args.p c.first_at_least-place.result k c.first_at_least-place.ensures.before c.first_at_least-place.ensures.after
    (subst (λ n. k < n) (sym (ap (λ (g : Graph). length g.pairs) c.self.view_is)) l)
    (ap (λ (g : Graph). first_of g.pairs k) c.self.view_is ∙ e) (ap (λ (g : Graph). second_of g.pairs k) c.self.view_is ∙ s) in
    let inside = found.0 in
    elim c.else-place-row.branch [
      | else-place-row-via-then-place-row+else-u-row w ↦ w.if-u-row.false found.1
      | else-place-row-via-else-place-row w ↦ omega arith
    ]
