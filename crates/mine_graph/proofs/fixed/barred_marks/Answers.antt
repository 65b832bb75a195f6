-- The closure along the transposed rows is that along the transposed pairs.
use Rattle.std.proofs.Common.{subst, sym}
use Rattle.pit_model.specs.Fixed.{is_among, transposed}
use Rattle.pit_model.specs.Graph.{AreInRange}
use Rattle.mine_graph.specs.FixedBlocks.{mark_of}
use Rattle.mine_graph.proofs.Spreading.{closure_back, turned_range}
use Rattle.mine_graph.proofs.fixed.barred_marks.Goals as goal

pub closure_of-requires-clause-range : goal.closure_of-requires-clause-range
closure_of-requires-clause-range c =
    let rows = c.in_ok-successors.successors.pairs in
    subst (AreInRange rows) (sym c.n-2.ensures) (turned_range c.args.graph.now.pairs rows c.args.graph.now.blocks c.law.ensures.graph.in_range c.in_ok-successors.ensures.same)

pub returns : goal.returns
returns c =
    closure_back (transposed c.args.graph.now.pairs) c.in_ok-successors.successors.pairs c.in_ok-successors.ensures.same (is_among c.args.barred.now) (mark_of c.in_ok-marks.marks.items) c.in_ok-marks.ensures
