-- The same pairs in their order: refused by the same cycle, and without one where they have none.
use Rattle.std.proofs.Common.{arith}
use Rattle.std.proofs.lemmas.Result.{err_from_is_err_and}
use Rattle.mine_graph.proofs.Made.{acyclic-back, fault-back}
use Rattle.mine_graph.proofs.graph.Graph.of_rows.Goals as goal

pub returns-in_err-check_acyclic-clause-refused : goal.returns-in_err-check_acyclic-clause-refused
returns-in_err-check_acyclic-clause-refused c =
    let p = err_from_is_err_and c.from_residual-in_err-check_acyclic.result c.from_residual-in_err-check_acyclic.ensures.1 in
    let e = c.in_err-check_acyclic.field-0.0 in
    rw (p.1, p.2) (fault-back c.args.rows.pairs c.in_ok-predecessors.predecessors.pairs c.args.n e c.in_ok-predecessors.ensures.same c.in_err-check_acyclic.ensures.refused)

pub of_acyclic_rows-requires-clause-few_pairs : goal.of_acyclic_rows-requires-clause-few_pairs
of_acyclic_rows-requires-clause-few_pairs c = omega (arith, c.in_ok-predecessors.ensures.same.count, c.requires.few_pairs)

pub returns-clause-acyclic : goal.returns-clause-acyclic
returns-clause-acyclic c = acyclic-back c.args.rows.pairs c.in_ok-predecessors.predecessors.pairs c.in_ok-predecessors.ensures.same c.in_ok-check_acyclic.ensures.acyclic
