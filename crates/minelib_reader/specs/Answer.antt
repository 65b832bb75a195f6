-- What a function answers that reads a text, or takes the reading of one from a device.
use Rattle.std.specs.Prelude.{◌≡◌, ℕ, ◌+◌, ◌++◌, List, Result, Ok, Err}
use Rattle.faults.specs.declared.fault.Fault.{Fault}
use Rattle.faults.specs.declared.refusal.Refusal.{Refusal}
use Rattle.faults.specs.declared.refusal.Refusal.TheVariants.{NoMemory, ReadFailed, WriteFailed}
use Rattle.faults.specs.declared.source.Source.{Source}
use Rattle.minelib_reader.specs.Device.{Progress}
use Rattle.faults.specs.Refused.{at_line, no_memory}

-- the fault is that of the reading, unless memory was refused; a text fails neither to be read nor to be written
abbrev pub FailsBy : {Y : Type 0} → Refusal → Fault → Result Y Fault → Type 0
FailsBy NoMemory fault reading = fault ≡ no_memory
FailsBy ReadFailed fault reading = ⊥
FailsBy WriteFailed fault reading = ⊥
FailsBy _ fault reading = reading ≡ Err fault

-- the answer, seen by view, is what the reading gives, unless memory was refused
abbrev pub Gives : {X Y : Type 0} → (X → Y) → Result X Fault → Result Y Fault → Type 0
Gives view (Ok x) reading = reading ≡ Ok (view x)
Gives view (Err e) reading = FailsBy e.refusal e reading

-- the call read this text, which is all that was left, and no read failed
pub record IsRead (old new : Progress) (AtEnd : Type 0) (text : List ℕ) : Type 0 where
  pub bytes : new.bytes ≡ old.bytes ++ text
  pub failures : new.failures ≡ old.failures
  pub ended : AtEnd

-- the fault is one of the text, of which this is said, unless memory was refused; a text fails neither to be read nor to be written
abbrev pub FailsAt : Refusal → Fault → (Fault → Type 0) → Type 0
FailsAt NoMemory fault IsFault = fault ≡ no_memory
FailsAt ReadFailed fault IsFault = ⊥
FailsAt WriteFailed fault IsFault = ⊥
FailsAt _ fault IsFault = IsFault fault

-- memory was refused, and no read failed; or one read failed, and the fault names the source; or as said of the other refusals
abbrev pub Refuses : Refusal → Source → Fault → Progress → Progress → Type 0 → Type 0
Refuses NoMemory source fault old new Others = (new.failures ≡ old.failures) × (fault ≡ no_memory)
Refuses ReadFailed source fault old new Others = (new.failures ≡ old.failures + 1) × (fault ≡ at_line source ReadFailed 0)
Refuses WriteFailed source fault old new Others = ⊥
Refuses _ source fault old new Others = Others

-- the call read a text, all that was left, of which this holds
abbrev pub ReadsText : Progress → Progress → Type 0 → (List ℕ → Type 0) → Type 0
ReadsText old new AtEnd Holds = (text : List ℕ) × IsRead old new AtEnd text × Holds text

-- the answer, seen by view, is what the reading gives of the text that the call read
abbrev pub Answers : {X Y : Type 0} → (X → Y) → (List ℕ → Result Y Fault) → Source → Progress → Progress → Type 0 → Result X Fault → Type 0
Answers view reading source old new AtEnd (Ok x) = ReadsText old new AtEnd (λ text. reading text ≡ Ok (view x))
Answers view reading source old new AtEnd (Err e) = Refuses e.refusal source e old new (ReadsText old new AtEnd (λ text. reading text ≡ Err e))

-- the answer, seen by view, is spelled by the text that the call read, or the fault is the first one of that text
abbrev pub AnswersBy : {X Y : Type 0} → (X → Y) → (List ℕ → Y → Type 0) → (List ℕ → Fault → Type 0) → Source → Progress → Progress → Type 0 → Result X Fault → Type 0
AnswersBy view Spells IsFirst source old new AtEnd (Ok x) = ReadsText old new AtEnd (λ text. Spells text (view x))
AnswersBy view Spells IsFirst source old new AtEnd (Err e) = Refuses e.refusal source e old new (ReadsText old new AtEnd (λ text. IsFirst text e))
