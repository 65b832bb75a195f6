-- No block is fixed where the lists are empty.
use Rattle.std.proofs.Common.{IfErr, IfOk, subst}
use Rattle.pit_model.specs.Fixed.{FixedLists, fixed_of, graph_of_mine}
use Rattle.pit_search.specs.Searched.{OfSearched, RefusesFind}
use Rattle.pit_search.proofs.find.find_pit_without_fixed_blocks.Goals as goal

pub find_pit-requires-clause-fixed : goal.find_pit-requires-clause-fixed
find_pit-requires-clause-fixed g c = c.none.ensures.of_any (graph_of_mine c.args.mine)

pub returns-clause-within : goal.returns-clause-within
returns-clause-within g c =
    subst (λ (lists : FixedLists). IfOk c.find_pit-2.result (λ x. OfSearched c.args.direction c.args.mine (fixed_of lists) (g.S.PitSolver.Ends c.args.solver.now))) c.none.ensures.lists c.find_pit-2.ensures.within

pub returns-clause-refused : goal.returns-clause-refused
returns-clause-refused g c =
    subst (λ (lists : FixedLists). IfErr c.find_pit-2.result (λ e. RefusesFind (g.S.PitSolver.Refuses c.args.solver.now) c.args.direction c.args.mine (fixed_of lists) e)) c.none.ensures.lists c.find_pit-2.ensures.refused
