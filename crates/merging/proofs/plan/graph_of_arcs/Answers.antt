-- Some pairs of a graph without a cycle have none, so only memory can be refused.
use Rattle.std.proofs.Common.{subst, sym}
use Rattle.std.proofs.lemmas.Result.{err_from_is_err_and}
use Rattle.pit_model.specs.Graph.{AreInRange}
use Rattle.merging.proofs.Planning.{named_in_range, named_apart, named_acyclic, only_memory}
use Rattle.merging.proofs.plan.graph_of_arcs.Goals as goal

pub of_rows-requires-clause-in_range : goal.of_rows-requires-clause-in_range
of_rows-requires-clause-in_range c =
    subst (AreInRange c.in_ok-needs.needs.pairs) (sym c.n.ensures)
    (named_in_range c.args.graph.now.blocks c.args.graph.now.pairs c.args.arcs.now c.in_ok-needs.needs.pairs c.law.ensures.graph c.in_ok-needs.ensures.count c.in_ok-needs.ensures.each c.requires.below)

pub of_rows-requires-clause-apart : goal.of_rows-requires-clause-apart
of_rows-requires-clause-apart c =
    named_apart c.args.graph.now.blocks c.args.graph.now.pairs c.args.arcs.now c.in_ok-needs.needs.pairs c.law.ensures.graph c.in_ok-needs.ensures.count c.in_ok-needs.ensures.each c.requires.below c.requires.rising

pub returns-in_err-links-clause-refused : goal.returns-in_err-links-clause-refused
returns-in_err-links-clause-refused c =
    let p = err_from_is_err_and c.from_residual-in_err-links.result c.from_residual-in_err-links.ensures.1 in
    rw (p.1, p.2) (only_memory c.acyclic_is_well_founded.ensures c.in_ok-needs.needs.pairs c.n.result c.in_err-links.field-0.0.refusal c.in_err-links.field-0.0 (named_acyclic c.args.graph.now.blocks c.args.graph.now.pairs c.args.arcs.now c.in_ok-needs.needs.pairs c.law.ensures.graph c.in_ok-needs.ensures.count c.in_ok-needs.ensures.each c.requires.below) c.in_err-links.ensures.refused)
