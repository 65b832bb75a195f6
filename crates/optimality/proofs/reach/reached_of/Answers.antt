-- One block of the queue more: all that it reaches in one step is in. At the end of the queue no block is left.
use Rattle.std.proofs.Common.{◌≡◌, ℕ, ◌<◌, ◌≤◌, arith, length, ap, subst, sym, ◌∙◌, true}
use Rattle.std.specs.Prelude.{◌↔◌}
use Rattle.std.proofs.lemmas.List.{get_or_default}
use Rattle.pit_model.specs.Graph.{Graph, first_of, second_of}
use Rattle.mine_graph.specs.BreadthFirst.{VisitsExactly, queued}
use Rattle.optimality.specs.Check.{has}
use Rattle.optimality.specs.Reaching.{IsReachedSoFar, IsVisited, Sends}
use Rattle.optimality.proofs.Spreading.{spread_start, spread_more, exactly}
use Rattle.optimality.proofs.reach.reached_of.Goals as goal
use Rattle.optimality.proofs.reach.reached_of.Goals.{else-loop-head-test, then-loop-head-test+then-head-search}

pub loop-head-init : goal.loop-head-init
loop-head-init c = record {
  state = spread_start c.args.mine.now c.args.inside.now c.args.flow.now c.args.excesses.now c.in_ok-search.search c.visit_starts.new.search (c.in_ok-search.ensures.size ∙ c.n.ensures ∙ ap (λ (g : Graph). g.blocks) c.deref-graph.ensures ∙ c.graph.ensures.blocks) c.requires.count c.in_ok-search.ensures.none c.requires.excesses c.visit_starts.ensures;
  ahead = omega arith;
}

pub loop-head-preserved : goal.loop-head-preserved
loop-head-preserved c =
    let a : ℕ = c.index-block.result.now in
    let same : c.deref-graph.result.now.pairs ≡ c.args.mine.now.pairs = ap (λ (g : Graph). g.pairs) c.deref-graph.ensures ∙ c.graph.ensures.pairs in
    let ahead : c.loop-head.head < c.loop-head.search.tail = omega (arith, c.loop-head.invariant.ahead) in
    let inside = c.args.inside.now in
    let flow = c.args.flow.now in
    let row = c.arcs_of.result in
    let before = c.loop-head.search in
    let mid = c.visit_needed.new.search in
    let after = c.visit_users.new.search in
    let one = subst (λ ps. VisitsExactly (IsVisited inside (λ x. true) (second_of ps) row.start row.end) before mid) same c.visit_needed.ensures in
    let two = subst (λ ps. VisitsExactly (λ u. Sends ps flow u a × (has inside u ≡ true)) mid after) same c.visit_users.ensures in
    let queued_is : queued before c.loop-head.head ≡ a = sym (c.index-block.ensures ∙ get_or_default before.queue.items c.loop-head.head c.index-block.result.now 0 (omega (arith, c.loop-head.invariant.state.trail.room))) in
    record {
      state = spread_more c.args.mine.now inside flow row.start row.end before c.loop-head.head a ahead queued_is
          (subst (λ ps. row.end ≤ length ps) same c.arcs_of.ensures.inside)
          (subst (λ ps. (k : ℕ) → k < length ps → (first_of ps k ≡ a) ↔ ((row.start ≤ k) × (k < row.end))) same c.arcs_of.ensures.own)
          c.loop-head.invariant.state mid after one two;
      ahead = omega (arith, c.visit_needed.ensures.more, c.visit_users.ensures.more);
    }

pub returns-clause-reached : goal.returns-clause-reached
returns-clause-reached c =
    let trail = c.loop-head.invariant.state.trail in
    let size = c.loop-head.invariant.state.size in
    let end : c.loop-head.head ≡ c.loop-head.search.tail = elim c.loop-head-test.branch [
      | else-loop-head-test w ↦ omega (arith, trail.room, trail.size, size, c.loop-head.invariant.ahead)
      | then-loop-head-test+then-head-search w ↦ omega (arith, w.if-head-search)
    ] in
    exactly c.args.mine.now c.args.inside.now c.args.flow.now c.loop-head.search
    (subst (λ (h : ℕ). IsReachedSoFar c.args.mine.now c.args.inside.now c.args.flow.now c.loop-head.search h) end c.loop-head.invariant.state)
