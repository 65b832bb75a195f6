-- The instance that was searched is the one for the mine and its fixed blocks.
use Rattle.std.proofs.Common.{inr}
use Rattle.std.proofs.lemmas.Result.{IfOk-weaker, err_from_is_err_and}
use Rattle.pit_model.specs.Fixed.{fixed_of}
use Rattle.pit_model.specs.declared.direction.Direction.{Direction}
use Rattle.pit_model.specs.Mine.{Instance}
use Rattle.pit_search.specs.Searched.{IsFound, IsSearchOf, OfSearched}
use Rattle.pit_search.specs.declared.found_pit.FoundPit.{FoundPit}
use Rattle.pit_search.proofs.Searching.{is_searched}
use Rattle.pit_search.proofs.find.find_pit.Goals as goal

pub returns-in_err-found-clause-refused : goal.returns-in_err-found-clause-refused
returns-in_err-found-clause-refused g c =
    let p = err_from_is_err_and c.from_residual-in_err-found.result c.from_residual-in_err-found.ensures.1 in
    let direction = c.args.direction in
    let fixed = c.args.fixed.now in
    let searched = c.in_ok-searched.searched in
    rw (p.1, p.2) (inr (searched.instance, is_searched direction c.args.mine fixed searched c.in_ok-searched.ensures.of, c.in_err-found.ensures.refused))

pub pit-requires-clause-search : goal.pit-requires-clause-search
pit-requires-clause-search g c = record {
  mine = c.args.mine;
  instance = c.law.ensures;
  fixed_blocks = c.requires.fixed;
  direction = c.args.direction;
  of_mine = c.in_ok-searched.ensures.of;
}

pub returns-clause-within : goal.returns-clause-within
returns-clause-within g c =
    let direction = c.args.direction in
    let fixed = c.args.fixed.now in
    let searched = c.in_ok-searched.searched in
    IfOk-weaker c.pit.result
    (λ (found : FoundPit). (d : Direction) (m : Instance) → IsSearchOf d m fixed searched → IsFound d m (fixed_of fixed.lists) found)
    (λ (found : FoundPit). OfSearched direction c.args.mine (fixed_of fixed.lists) (g.S.PitSolver.Ends c.args.solver.now))
    (λ found is. (searched.instance, is_searched direction c.args.mine fixed searched c.in_ok-searched.ensures.of, c.in_ok-found.ensures.within)) c.pit.ensures.found
