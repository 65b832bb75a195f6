-- How a solve in a mode ends, and why one is refused.
use Rattle.std.specs.Prelude.{◌≡◌, ℕ, ◌≤◌, List, [], Option, Some, None}
use Rattle.faults.specs.Refused.{no_memory, no_seat, exhausted}
use Rattle.faults.specs.declared.fault.Fault.{Fault}
use Rattle.faults.specs.declared.refusal.Refusal.{Refusal}
use Rattle.faults.specs.declared.refusal.Refusal.TheVariants as refusals
use Rattle.pit_model.specs.declared.journal.Entry.{Entry}
use Rattle.pit_model.specs.Mine.{Instance}
use Rattle.pit_model.specs.JournalText.{most_seat}
use Rattle.pit_model.specs.Journal.{applied_count, AreSeated, IsLawful, replay}
use Rattle.pit_model.specs.FirstRun.{HasMerger, HasNoMerger, first_run}
use Rattle.optimality.specs.Certificate.{IsCertificateOf}
use Rattle.crew.specs.Solved.{IsSolvedTogether}
use Rattle.merging.specs.declared.outcome.Outcome.{Outcome}
use Rattle.merging.specs.declared.outcome.Outcome.TheVariants.{Pit, Exhausted}
use Rattle.solver.specs.declared.mode.Mode.{Mode}
use Rattle.solver.specs.declared.mode.Mode.TheVariants.{Single, Parts, Shared}

-- what workers at one tree may have decided: a lawful journal, under their seats and the driver's
abbrev pub IsDecidedBy : ℕ → Option ℕ → Instance → List Entry → Type 0
IsDecidedBy workers budget mine journal = IsLawful mine budget journal × AreSeated mine workers journal

-- the budget does not end the solve: by one thread, the first run has no merger arc left after as many mergers; by workers,
-- some journal of theirs leaves none. Without a budget one thread, or the parts, end whatever the mine, and nothing is said
abbrev pub EndsWithin : Mode → Instance → Type 0
EndsWithin (Single None) mine = Unit {0}
EndsWithin (Single (Some budget)) mine = HasNoMerger mine (first_run mine budget)
EndsWithin Parts mine = Unit {0}
EndsWithin (Shared workers budget chunk) mine =
    (journal : List Entry) × IsDecidedBy workers budget mine journal × HasNoMerger mine (replay mine journal)

-- the budget is used up with a merger arc left: in the first run; or after some journal of the workers with exactly so many
-- mergers; never in parts
abbrev pub RunsOut : Mode → Instance → ℕ → Type 0
RunsOut (Single budget) mine count = (budget ≡ Some count) × HasMerger mine (first_run mine count)
RunsOut Parts mine count = ⊥
RunsOut (Shared workers budget chunk) mine count =
    (budget ≡ Some count)
    × ((journal : List Entry) × IsDecidedBy workers budget mine journal × (applied_count journal ≡ count) × HasMerger mine (replay mine journal))

-- how a solve in a mode ends, with the journal of what was decided: of the workers at one tree; in the other modes it is empty
abbrev pub EndsIn : Mode → Instance → Outcome → List Entry → Type 0
EndsIn (Shared workers budget chunk) mine outcome journal = IsSolvedTogether mine workers budget outcome journal × (workers ≤ most_seat)
EndsIn mode mine (Pit certificate) journal = (journal ≡ []) × IsCertificateOf mine certificate × EndsWithin mode mine
EndsIn mode mine (Exhausted count) journal = (journal ≡ []) × RunsOut mode mine count

abbrev pub IsShared : Mode → Type 0
IsShared (Shared workers budget chunk) = Unit {0}
IsShared _ = ⊥

-- why a solve does not come to its end: no memory; or no worker could be started
abbrev pub LacksRoom : Mode → Refusal → Fault → Type 0
LacksRoom mode refusals.NoMemory fault = fault ≡ no_memory
LacksRoom mode refusals.NoSeat fault = (fault ≡ no_seat) × IsShared mode
LacksRoom mode _ fault = ⊥

-- why no pit is answered: the solve did not come to its end; or the budget is used up
abbrev pub RefusesSolve : Mode → Instance → Refusal → Fault → Type 0
RefusesSolve mode mine (refusals.Exhausted count) fault = (fault ≡ exhausted count) × RunsOut mode mine count
RefusesSolve mode mine refusal fault = LacksRoom mode refusal fault
