-- The pit is that of the same mine.
use Rattle.std.proofs.Common.{◌≡◌, IfOk, Result, subst}
use Rattle.faults.specs.declared.fault.Fault.{Fault}
use Rattle.pit_model.specs.declared.direction.Direction.TheVariants.{Greatest}
use Rattle.pit_model.specs.Pit.{ListsPit}
use Rattle.pit_model.specs.Fixed.{fixed_of}
use Rattle.pit_model.specs.Mine.{Instance}
use Rattle.solver.specs.Modes.{EndsWithin}
use Rattle.pit_search.specs.Searched.{IsFound}
use Rattle.pit_search.specs.Searched.{OfSearched}
use Rattle.pit_search.specs.declared.found_pit.FoundPit.{FoundPit}
use Rattle.solver.proofs.calls.solve_greatest.Goals as goal

pub returns-in-Ok-clause-ended : goal.returns-in-Ok-clause-ended
returns-in-Ok-clause-ended g c =
    let mine = c.in_ok-mine.mine in
    let fixed = fixed_of c.args.fixed.now.lists in
    let ends = EndsWithin c.args.mode.now in
    let same : mine ≡ c.args.instance.now = c.in_ok-mine.ensures in
    let found = subst (λ (r : Result FoundPit Fault). IfOk r (IsFound Greatest mine fixed)) c.in-Ok.is c.pit.ensures.found in
    let within = subst (λ (r : Result FoundPit Fault). IfOk r (λ p. OfSearched Greatest mine fixed ends)) c.in-Ok.is c.pit.ensures.within in
    (subst (λ (m : Instance). ListsPit Greatest m fixed c.in-Ok.pit.blocks.items) same found.listed, subst (λ (m : Instance). OfSearched Greatest m fixed ends) same within)
