-- Pairs before it lead from a block below, which has no open pair, or come before it in the row of its block.
use Rattle.norm_tree.specs.Labelled.{Labelled, with_labels}
use Rattle.norm_tree.proofs.Labelling.{first_is_least, unmarked_closed}
use Rattle.norm_tree.proofs.index.Index.first.Goals as goal

pub returns-in-Some-clause-least : goal.returns-in-Some-clause-least
returns-in-Some-clause-least c =
    let l : Labelled = with_labels c.args.graph.now c.args.strong.now in
    let closed = unmarked_closed l c.args.self.now.marks c.loop-marked.from c.in_ok-block.block c.requires.marked c.loop-marked.invariant.closed c.in_ok-block.ensures.least in
    first_is_least l c.in_ok-block.block c.in-Some.arc c.law.ensures.graph closed c.in-Some.ensures.open c.in-Some.ensures.own c.in-Some.ensures.first
