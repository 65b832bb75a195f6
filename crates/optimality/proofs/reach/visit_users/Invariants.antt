-- Of the users so far those are visited from which flow comes.
use Rattle.pit_model.specs.Graph.{second_of}
use Rattle.mine_graph.specs.BreadthFirst.{VisitsExactly}
use Rattle.optimality.proofs.Sending.{SentBetween}
use Rattle.optimality.proofs.reach.visit_users.Given as goal

abbrev pub invariant-loop-k : goal.invariant-loop-k
invariant-loop-k l = VisitsExactly (SentBetween l.flows.graph.now.pairs l.flows.flow.now l.inside (second_of l.users.pairs) l.block l.initial.k l.k) l.fn.search l.search
