-- Pairs before it lead from a block before, or come before it in the row of its block.
use Rattle.norm_tree.specs.Labelled.{Labelled, with_labels}
use Rattle.norm_tree.proofs.Labelling.{first_is_least}
use Rattle.norm_tree.proofs.labels.first_open.Goals as goal

pub returns-in-Some-clause-least : goal.returns-in-Some-clause-least
returns-in-Some-clause-least c =
    let l : Labelled = with_labels c.args.graph.now c.args.strong.now in
    first_is_least l c.loop-block.block c.in-Some.arc c.law.ensures.graph c.loop-block.invariant c.in-Some.ensures.open c.in-Some.ensures.own c.in-Some.ensures.first
