-- Solves of a mine with fixed blocks, and for the greatest pit: each is a solve of another instance, which is searched.
use Rattle.std.specs.Prelude.{◌≡◌, List}
use Rattle.faults.specs.Refused.{exhausted}
use Rattle.faults.specs.declared.fault.Fault.{Fault}
use Rattle.faults.specs.declared.refusal.Refusal.{Refusal}
use Rattle.faults.specs.declared.refusal.Refusal.TheVariants as refusals
use Rattle.pit_model.specs.declared.direction.Direction.{Direction}
use Rattle.pit_model.specs.declared.direction.Direction.TheVariants.{Least, Greatest}
use Rattle.pit_model.specs.declared.journal.Entry.{Entry}
use Rattle.pit_model.specs.Mine.{Instance}
use Rattle.pit_model.specs.Pit.{Fixed, ListsPit}
use Rattle.optimality.specs.Certificate.{IsCertificateOf, IsFixedCertificateOf}
use Rattle.merging.specs.declared.outcome.Outcome.{Outcome}
use Rattle.merging.specs.declared.outcome.Outcome.TheVariants as outcomes
use Rattle.pit_search.specs.Searched.{OfSearched}
use Rattle.solver.specs.declared.calls.PitOutcome.{PitOutcome}
use Rattle.solver.specs.declared.calls.PitOutcome.TheVariants.{Pit, Exhausted}
use Rattle.solver.specs.declared.mode.Mode.{Mode}
use Rattle.solver.specs.Modes.{EndsIn, EndsWithin, LacksRoom, RunsOut}

-- a pit comes with a certificate
abbrev pub IsShown : Instance → Outcome → Type 0
IsShown mine (outcomes.Pit certificate) = IsCertificateOf mine certificate
IsShown mine (outcomes.Exhausted count) = Unit {0}

-- an outcome of the rest by the numbers of the whole: with a certificate of the whole; a used-up budget is the same
abbrev pub IsLiftedOutcome : Instance → Fixed → Outcome → Outcome → Type 0
IsLiftedOutcome mine fixed (outcomes.Pit found) (outcomes.Pit certificate) = IsFixedCertificateOf mine fixed certificate
IsLiftedOutcome mine fixed (outcomes.Exhausted count) (outcomes.Exhausted other) = other ≡ count
IsLiftedOutcome mine fixed found outcome = ⊥

-- how a solve of a mine with fixed blocks ends: as that of the rest does, with its journal
abbrev pub EndsFixed : Mode → Instance → Fixed → Outcome → List Entry → Type 0
EndsFixed mode mine fixed outcome journal =
    OfSearched Least mine fixed (λ rest. (found : Outcome) × EndsIn mode rest found journal × IsLiftedOutcome mine fixed found outcome)

-- how a solve for the greatest pit ends
abbrev pub EndsGreatest : Mode → Instance → Fixed → PitOutcome → Type 0
EndsGreatest mode mine fixed (Pit pit) = ListsPit Greatest mine fixed pit.items × OfSearched Greatest mine fixed (EndsWithin mode)
EndsGreatest mode mine fixed (Exhausted count) = OfSearched Greatest mine fixed (λ searched. RunsOut mode searched count)

-- why no pit toward a direction is answered: the solve did not come to its end; or the budget is used up
abbrev pub RefusesSearch : Mode → Direction → Instance → Fixed → Refusal → Fault → Type 0
RefusesSearch mode direction mine fixed (refusals.Exhausted count) fault =
    (fault ≡ exhausted count) × OfSearched direction mine fixed (λ searched. RunsOut mode searched count)
RefusesSearch mode direction mine fixed refusal fault = LacksRoom mode refusal fault
