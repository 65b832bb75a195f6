-- The values of the nodes so far.
use Rattle.scheduling.specs.Nodes.{AreNodeValues}
use Rattle.scheduling.proofs.nodes.node_values.Given as goal

abbrev pub invariant-loop-node : goal.invariant-loop-node
invariant-loop-node l = AreNodeValues l.gains l.blocks l.node l.values.items
