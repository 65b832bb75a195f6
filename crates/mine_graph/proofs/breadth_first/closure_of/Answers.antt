-- From the seeds on, one block of the queue after another; at the end of the queue the blocks are a closure.
use Rattle.std.proofs.Common.{◌<◌, ◌≤◌, arith, sym, ◌∙◌, get_or, length}
use Rattle.std.proofs.lemmas.List.{get_or_default}
use Rattle.pit_model.specs.Fixed.{is_among}
use Rattle.mine_graph.specs.BreadthFirst.{IsAt}
use Rattle.mine_graph.proofs.Among.{among_at, among_here}
use Rattle.mine_graph.proofs.Spreading.{spread_none, spread_more, spread_all}
use Rattle.mine_graph.proofs.breadth_first.closure_of.Goals as goal
use Rattle.mine_graph.proofs.breadth_first.closure_of.Goals.{else-loop-head-test, then-loop-head-test+then-head-search}

pub loop-head-init : goal.loop-head-init
loop-head-init c =
    let seeds = c.args.seeds.now in
    record {
      state = spread_none c.args.rows.now.pairs (is_among seeds) (IsAt (λ x. get_or seeds x 0) 0 (length seeds)) c.in_ok-search.search c.visit_all.new.self
          c.in_ok-search.ensures.none c.visit_all.ensures (among_here seeds) (among_at seeds);
      size = c.visit_all.ensures.size ∙ c.in_ok-search.ensures.size ∙ sym c.requires.blocks;
      ahead = omega arith;
    }

pub loop-head-preserved : goal.loop-head-preserved
loop-head-preserved c =
    let ahead : c.loop-head.head < c.loop-head.search.tail = omega (arith, c.loop-head.invariant.ahead) in
    record {
      state = spread_more c.args.rows.now.pairs (is_among c.args.seeds.now) c.loop-head.search c.visit_row.new.self c.loop-head.head c.index-block.result.now ahead (sym (c.index-block.ensures ∙ get_or_default c.loop-head.search.queue.items c.loop-head.head c.index-block.result.now 0 (omega (arith, c.loop-head.invariant.state.trail.room))))
          c.loop-head.invariant.state c.visit_row.ensures;
      size = c.visit_row.ensures.size ∙ c.loop-head.invariant.size;
      ahead = omega (arith, c.visit_row.ensures.more);
    }

pub returns : goal.returns
returns c =
    let trail = c.loop-head.invariant.state.trail in
    let size = c.loop-head.invariant.size in
    let end : c.loop-head.search.tail ≤ c.loop-head.head = elim c.loop-head-test.branch [
      | else-loop-head-test w ↦ omega (arith, trail.room, trail.size)
      | then-loop-head-test+then-head-search w ↦ omega (arith, w.if-head-search)
    ] in
    spread_all c.args.rows.now.pairs (is_among c.args.seeds.now) c.loop-head.search c.loop-head.head end c.loop-head.invariant.state
