-- One arc of the row more.
use Rattle.std.proofs.Common.{◌≡◌, ◌<◌, ℕ, length, arith, subst}
use Rattle.pit_model.specs.Graph.{second_of}
use Rattle.mine_graph.specs.BreadthFirst.{IsAt, VisitsExactly, LeadsTo}
use Rattle.mine_graph.proofs.Spreading.{takes_as, takes_more}
use Rattle.mine_graph.proofs.breadth_first.BreadthFirst.visit_row.Goals as goal

pub visit-requires-clause-below : goal.visit-requires-clause-below
visit-requires-clause-below c =
    let inside : c.loop-k.k < length c.args.rows.now.pairs = omega (arith, c.row-arcs.ensures.inside, c.loop-k-test.true) in
    let range = (c.requires.range c.loop-k.k inside).1 in
    omega (arith, c.target.ensures, c.requires.size, c.loop-k.invariant.size)

pub loop-k-preserved : goal.loop-k-preserved
loop-k-preserved c =
    takes_more (second_of c.args.rows.now.pairs) c.row-arcs.result.start c.loop-k.k c.args.self.now c.loop-k.self c.visit.new.self (omega (arith, c.loop-k.auto.k)) c.loop-k.invariant
    (subst (λ (b : ℕ). VisitsExactly (λ u. b ≡ u) c.loop-k.self c.visit.new.self) c.target.ensures c.visit.ensures)

pub returns : goal.returns
returns c =
    let arcs = c.row-arcs in
    takes_as (IsAt (second_of c.args.rows.now.pairs) arcs.result.start c.loop-k.k) (LeadsTo c.args.rows.now.pairs c.args.block) c.args.self.now c.loop-k.self
    (λ u at.
    let from = at.1 in
    let to : at.0 < arcs.result.end = omega (arith, at.2, c.loop-k.auto.k, arcs.ensures.order) in
    let inside : at.0 < length c.args.rows.now.pairs = omega (arith, arcs.ensures.inside) in
    (at.0, inside, (arcs.ensures.own at.0 inside).1 (from, to), at.3))
    (λ u leads.
    let there = (arcs.ensures.own leads.0 leads.1).0 leads.2 in
    let to = there.1 in
    (leads.0, there.0, omega (arith, c.loop-k-test.false), leads.3))
    c.loop-k.invariant
