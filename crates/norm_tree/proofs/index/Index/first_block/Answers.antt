-- A pair that leads from a block below comes before the first open one.
use Rattle.std.proofs.Common.{◌<◌, ap, subst}
use Rattle.pit_model.specs.Graph.{first_of}
use Rattle.norm_tree.specs.Labelled.{with_labels}
use Rattle.norm_tree.proofs.Labelling.{closed_below_first}
use Rattle.norm_tree.proofs.index.Index.first_block.Goals as goal

pub returns-in-Some-clause-closed : goal.returns-in-Some-clause-closed
returns-in-Some-clause-closed c k below =
    closed_below_first (with_labels c.args.graph.now c.args.strong.now) c.in-Some.arc c.law.ensures.graph c.in-Some.ensures.least k
    (subst (λ u. first_of c.args.graph.now.pairs k < u) (ap (λ q. q.0) c.arc.ensures) below)
