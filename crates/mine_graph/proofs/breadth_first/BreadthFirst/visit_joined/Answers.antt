-- The neighbours of one block of the queue more; at the end of the queue nothing is missing.
use Rattle.std.proofs.Common.{◌≡◌, ℕ, ◌<◌, arith, subst, sym, ◌∙◌}
use Rattle.std.proofs.lemmas.List.{get_or_default}
use Rattle.pit_model.specs.Fixed.{transposed}
use Rattle.pit_model.specs.Graph.{AreInRange}
use Rattle.pit_model.specs.Part.{AreNeighbours}
use Rattle.mine_graph.specs.BreadthFirst.{VisitsExactly, queued, LeadsTo}
use Rattle.mine_graph.proofs.Spreading.{leads_back, leads_forth, takes_as, turned_range}
use Rattle.mine_graph.proofs.Neighbours.{joined_all, joined_more, joined_none, takes_neighbours}
use Rattle.mine_graph.proofs.breadth_first.BreadthFirst.visit_joined.Goals as goal

pub loop-head-init : goal.loop-head-init
loop-head-init c = record {
  state = joined_none c.args.predecessors.now.pairs c.args.root c.args.self.now c.visit.new.self c.visit.ensures;
  size = c.visit.ensures.size ∙ c.requires.size;
  from = omega arith;
  ahead = c.visit.ensures.more;
}

pub visit_row-requires-in-loop-head-clause-range : goal.visit_row-requires-in-loop-head-clause-range
visit_row-requires-in-loop-head-clause-range c = subst (AreInRange c.args.successors.now.pairs) (sym c.requires.same_rows) (turned_range c.args.predecessors.now.pairs c.args.successors.now.pairs c.args.predecessors.now.blocks c.requires.range c.requires.turned)

pub loop-head-preserved : goal.loop-head-preserved
loop-head-preserved c =
    let pairs = c.args.predecessors.now.pairs in
    let was = c.loop-head.invariant in
    let search = c.loop-head.self in
    let head : ℕ = c.loop-head.head in
    let ahead : head < search.tail = omega (arith, was.ahead, c.if-head-self.false) in
    let block : c.index-block.result.now ≡ queued search head =
    c.index-block.ensures ∙ get_or_default search.queue.items head c.index-block.result.now 0 (omega (arith, was.state.takes.trail.room)) in
    let turned = takes_as (LeadsTo c.args.successors.now.pairs c.index-block.result.now) (LeadsTo (transposed pairs) c.index-block.result.now) c.visit_row.new.self c.visit_row-in-loop-head.new.self
    (leads_back (transposed pairs) c.args.successors.now.pairs c.requires.turned c.index-block.result.now) (leads_forth (transposed pairs) c.args.successors.now.pairs c.requires.turned c.index-block.result.now) c.visit_row-in-loop-head.ensures in
    let both = takes_neighbours pairs c.index-block.result.now search c.visit_row.new.self c.visit_row-in-loop-head.new.self c.visit_row.ensures turned in
    record {
      state = joined_more pairs c.args.root c.args.self.now search c.requires.trail head was.state c.visit_row-in-loop-head.new.self was.from ahead
          (subst (λ (a : ℕ). VisitsExactly (AreNeighbours pairs a) search c.visit_row-in-loop-head.new.self) block both);
      size = c.visit_row-in-loop-head.ensures.size ∙ c.visit_row.ensures.size ∙ was.size;
      from = omega (arith, was.from);
      ahead = omega (arith, ahead, c.visit_row.ensures.more, c.visit_row-in-loop-head.ensures.more);
    }

pub returns-after-loop-head : goal.returns-after-loop-head
returns-after-loop-head c =
    let was = c.loop-head.invariant in
    joined_all c.args.predecessors.now.pairs c.args.root c.args.self.now c.loop-head.self c.requires.trail c.loop-head.head was.state c.requires.whole
    (omega (arith, was.size, was.state.takes.trail.room, was.state.takes.trail.size, c.visit.ensures.trail.size, c.visit.ensures.size, c.requires.size, c.visit.new.self.queue.ok.0, c.len-head-end.ensures, c.loop-head-test.false))

pub returns-then-head-self : goal.returns-then-head-self
returns-then-head-self c =
    joined_all c.args.predecessors.now.pairs c.args.root c.args.self.now c.loop-head.self c.requires.trail c.loop-head.head c.loop-head.invariant.state c.requires.whole
    (omega (arith, c.if-head-self.true))
