use Rattle.optimality.specs.Check.{RowAllows, open_in}
use Rattle.optimality.proofs.conditions.row_allows.Given as goal

abbrev pub invariant-loop-k : goal.invariant-loop-k
invariant-loop-k l = RowAllows l.graph.pairs (open_in l.fixed) l.flow l.inside l.u l.k
