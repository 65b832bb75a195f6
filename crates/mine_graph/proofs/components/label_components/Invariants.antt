-- The components of all blocks so far.
use Rattle.mine_graph.specs.Components.{AreComponents, HaveComponents}
use Rattle.mine_graph.proofs.components.label_components.Given as goal

abbrev pub invariant-loop-root : goal.invariant-loop-root
invariant-loop-root l = record {
  classes : AreComponents l.predecessors l.labels l.count l.root;
  have : HaveComponents l.predecessors.pairs l.search l.labels l.count;
}
