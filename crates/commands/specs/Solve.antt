-- What a run of `solve` writes, and what it refuses, over the bytes that went through its readers and its writer.
use Rattle.std.specs.Prelude.{◌≡◌, ℕ, ◌+◌, ◌^◌, ◌<◌, ◌⊎◌, Bool, List, Option, Some, None, Result}
use Rattle.minelib_reader.specs.Device.{Progress, Writes, Wrote, WroteFront}
use Rattle.minelib_reader.specs.declared.device.InBytes.{Ghosts as Reader}
use Rattle.minelib_reader.specs.Answer.{IsRead}
use Rattle.faults.specs.Refused.{at_line, clash, no_memory}
use Rattle.minelib_reader.specs.Upit.{Upit}
use Rattle.minelib_reader.specs.UpitGrammar.{SpellsUpit}
use Rattle.minelib_reader.specs.UpitFault.{IsFirstUpitFault}
use Rattle.minelib_reader.specs.PrecGrammar.{SpellsPrec}
use Rattle.minelib_reader.specs.PrecFault.{IsFirstPrecFault}
use Rattle.minelib_reader.specs.FixedGrammar.{SpellsFixed}
use Rattle.minelib_reader.specs.FixedFault.{IsFirstFixedFault}
use Rattle.faults.specs.declared.fault.Fault.{Fault}
use Rattle.faults.specs.declared.refusal.Refusal.{Refusal}
use Rattle.faults.specs.declared.refusal.Refusal.TheVariants.{NoMemory, ReadFailed, WriteFailed, NoSeat, Exhausted}
use Rattle.faults.specs.declared.source.Source.{Source}
use Rattle.faults.specs.declared.source.Source.TheVariants as sources
use Rattle.mine_graph.specs.Faults.{IsGraphFault}
use Rattle.mine_graph.specs.FixedBlocks.{no_lists}
use Rattle.pit_model.specs.declared.direction.Direction.{Direction}
use Rattle.pit_model.specs.Graph.{AreSamePairs, IsAcyclic, IsGraph}
use Rattle.pit_model.specs.Mine.{Instance, instance_of, members, worth}
use Rattle.pit_model.specs.Limits.{IsInstance}
use Rattle.pit_model.specs.Pit.{Fixed, IsPit}
use Rattle.pit_model.specs.Fixed.{FixedLists, IsClash, fixed_of}
use Rattle.pit_model.specs.PitText.{pit_text}
use Rattle.commands.specs.declared.mine.MineFiles.{MineFiles}
use Rattle.commands.specs.declared.mine.FixedMine.{FixedMine}
use Rattle.commands.specs.declared.status.Status.{Status}
use Rattle.commands.specs.declared.status.Status.TheVariants.{Done}

-- what one reader gave in a run: its state before and after, and whether it is at its end then
pub record Reading : Type 1 where
  pub before : Progress
  pub after : Progress
  pub ended : Type 0

abbrev pub reading : Progress → Progress → Type 0 → Reading
reading before after ended = record { before = before; after = after; ended = ended }

-- what a reader gave between two of its states
abbrev pub given_by : {S : Type 0} → Reader S → S → S → Reading
given_by reader before after = reading (reader.progress before) (reader.progress after) (reader.IsAtEnd after)

-- the reader gave this text, which is all that it had, and no read failed
abbrev pub Gave : Reading → List ℕ → Type 0
Gave r text = IsRead r.before r.after r.ended text

abbrev pub NeverFailed : Reading → Type 0
NeverFailed r = r.after.failures ≡ r.before.failures

-- one read failed, and the fault names the source
abbrev pub FailedOnce : Source → Fault → Reading → Type 0
FailedOnce source fault r = (r.after.failures ≡ r.before.failures + 1) × (fault ≡ at_line source ReadFailed 0)

-- what a reader of choice gave, where it is there; none that was there may go in a run
pub data OptionalReading : Type 1 where
  no_reader : OptionalReading
  one_reader : Reading → OptionalReading
  gone : OptionalReading

abbrev pub optional_reading : {F : Type 0} → (F → Progress) → (F → Type 0) → Option F → Option F → OptionalReading
optional_reading progress is_at_end None None = no_reader
optional_reading progress is_at_end (Some before) (Some after) = one_reader (reading (progress before) (progress after) (is_at_end after))
optional_reading progress is_at_end before after = gone

abbrev pub OfChoice : OptionalReading → (Reading → Type 0) → Type 0
OfChoice (one_reader r) Holds = Holds r
OfChoice c Holds = ⊥

abbrev pub OfChoiceIfAny : OptionalReading → (Reading → Type 0) → Type 0
OfChoiceIfAny no_reader Holds = Unit {0}
OfChoiceIfAny c Holds = OfChoice c Holds

-- what the readers of a mine gave between two of their states
pub record Files : Type 1 where
  pub model : Reading
  pub prec : Reading
  pub fixed : OptionalReading

abbrev pub files_of : {M P F : Type 0} → Reader M → Reader P → Reader F → MineFiles M P F → MineFiles M P F → Files
files_of model prec fixed before after = record {
  model = given_by model before.model after.model;
  prec = given_by prec before.prec after.prec;
  fixed = optional_reading fixed.progress fixed.IsAtEnd before.fixed after.fixed;
}

-- the readers of a mine, in their order
abbrev pub mine_files : {M P F : Type 0} → M → P → Option F → MineFiles M P F
mine_files model prec fixed = record { model = model; prec = prec; fixed = fixed }

-- a reader may be called: it can count another failure
abbrev pub IsReadable : Progress → Type 0
IsReadable p = p.failures < 2 ^ 63

abbrev pub MayReadIfAny : {F : Type 0} → (F → Progress) → Option F → Type 0
MayReadIfAny progress None = Unit {0}
MayReadIfAny progress (Some reader) = IsReadable (progress reader)

-- and so may all readers of a mine
pub record MayRead {M P F : Type 0} (model : M → Progress) (prec : P → Progress) (fixed : F → Progress) (files : MineFiles M P F) : Type 0 where
  pub may_read_model : IsReadable (model files.model)
  pub may_read_prec : IsReadable (prec files.prec)
  pub may_read_fixed : MayReadIfAny fixed files.fixed

-- a mine with fixed blocks
pub record FixedInstance : Type 0 where
  pub mine : Instance
  pub lists : FixedLists

-- what a value in memory stands for
abbrev pub fixed_instance_of : FixedMine → FixedInstance
fixed_instance_of fixed_mine = record { mine = fixed_mine.mine; lists = fixed_mine.fixed.lists }

-- the blocks forced in and barred
abbrev pub fixed_in : FixedInstance → Fixed
fixed_in fixed_mine = fixed_of fixed_mine.lists

-- the readers gave two texts, which spell a model and pairs for its blocks
pub record GaveMine (model prec : Reading) (upit : Upit) (pairs : List (ℕ × ℕ)) : Type 0 where
  pub model_text : List ℕ
  pub prec_text : List ℕ
  pub model_given : Gave model model_text
  pub prec_given : Gave prec prec_text
  pub model_spelled : SpellsUpit model_text upit
  pub prec_spelled : SpellsPrec upit.n prec_text pairs

-- the reader of choice gave a text that spells these fixed blocks of n; where there is none, nothing is fixed
abbrev pub GaveFixed : OptionalReading → ℕ → FixedLists → Type 0
GaveFixed no_reader n lists = lists ≡ no_lists
GaveFixed c n lists = OfChoice c (λ r. (text : List ℕ) × Gave r text × SpellsFixed n text lists)

abbrev pub mine_of : Upit → List (ℕ × ℕ) → FixedLists → FixedInstance
mine_of upit pairs lists = record { mine = instance_of upit.n upit.values pairs; lists = lists }

-- the readers gave texts that spell this mine, with its pairs in the order of (block, needed block); its fixed blocks may clash
pub record GaveFixedMine (files : Files) (fixed_mine : FixedInstance) : Type 0 where
  pub upit : Upit
  pub pairs : List (ℕ × ℕ)
  pub given : GaveMine files.model files.prec upit pairs
  pub fixed_given : GaveFixed files.fixed upit.n fixed_mine.lists
  pub blocks : fixed_mine.mine.blocks ≡ upit.n
  pub values : fixed_mine.mine.values ≡ upit.values
  pub same : AreSamePairs pairs fixed_mine.mine.pairs
  pub acyclic : IsAcyclic pairs
  pub instance : IsInstance fixed_mine.mine

-- no barred block of the mine must be dug
abbrev pub HasNoClash : FixedInstance → Type 0
HasNoClash fixed_mine = (block : ℕ) → IsClash fixed_mine.mine.pairs (fixed_in fixed_mine) block → ⊥

-- and in that mine no barred block must be dug
pub record HoldsMine (files : Files) (fixed_mine : FixedInstance) : Type 0 where
  pub gave : GaveFixedMine files fixed_mine
  pub no_clash : HasNoClash fixed_mine

-- and by the order of its pairs its arcs are numbered
pub record GaveInOrder (files : Files) (fixed_mine : FixedInstance) : Type 0 where
  pub holds : HoldsMine files fixed_mine
  pub ordered : IsGraph fixed_mine.mine.blocks fixed_mine.mine.pairs

-- a text is the text of the pit of a mine: toward `Least`, of the smallest closed set of greatest worth that holds each block
-- forced in and none that is barred
pub record IsPitText (direction : Direction) (fixed_mine : FixedInstance) (text : List ℕ) : Type 0 where
  pub pit : ℕ → Bool
  pub is_pit : IsPit direction fixed_mine.mine (fixed_in fixed_mine) pit
  pub is_text : text ≡ pit_text fixed_mine.mine.blocks (members fixed_mine.mine.blocks pit) (worth fixed_mine.mine pit)

-- the text of a mine's pit was written, or a beginning of it
abbrev pub WritesPit : {E : Type 0} → Direction → FixedInstance → Progress → Progress → Result (Unit {0}) E → Type 0
WritesPit direction fixed_mine before after result = (text : List ℕ) × IsPitText direction fixed_mine text × Writes before after text result

-- the readers gave a mine without a cycle, and this is the text of its pit
pub record Solves (direction : Direction) (files : Files) (text : List ℕ) : Type 0 where
  pub upit : Upit
  pub pairs : List (ℕ × ℕ)
  pub lists : FixedLists
  pub given : GaveMine files.model files.prec upit pairs
  pub fixed_given : GaveFixed files.fixed upit.n lists
  pub acyclic : IsAcyclic pairs
  pub solved : IsPitText direction (mine_of upit pairs lists) text

-- exactly the pit's text was written
pub record IsDone (direction : Direction) (files : Files) (before after : Progress) (status : Status) : Type 0 where
  pub done : status ≡ Done
  pub text : List ℕ
  pub solves : Solves direction files text
  pub wrote : Wrote before after text

-- a beginning of the pit's text was written, and then a write failed
pub record IsCutShort (direction : Direction) (files : Files) (before after : Progress) : Type 0 where
  pub text : List ℕ
  pub solves : Solves direction files text
  pub wrote : WroteFront before after text

-- the first fault in the order of the files: of the model; or of the precedence, where the model is spelled; or of the fixed
-- blocks, where both are; or the cycle of the pairs, where all are; or, where there is none, the least barred block that must
-- be dug
pub data FirstFault (fault : Fault) (files : Files) : Type 0 where
  in_model : (text : List ℕ) → Gave files.model text → IsFirstUpitFault text fault → FirstFault fault files
  in_prec : (text behind : List ℕ) (upit : Upit) → Gave files.model text → SpellsUpit text upit → Gave files.prec behind → IsFirstPrecFault upit.n behind fault → FirstFault fault files
  in_fixed : (upit : Upit) (pairs : List (ℕ × ℕ)) → GaveMine files.model files.prec upit pairs
      → OfChoice files.fixed (λ r. (text : List ℕ) × Gave r text × IsFirstFixedFault upit.n text fault) → FirstFault fault files
  in_pairs : (upit : Upit) (pairs : List (ℕ × ℕ)) (lists : FixedLists) → GaveMine files.model files.prec upit pairs → GaveFixed files.fixed upit.n lists
      → IsGraphFault pairs upit.n fault → FirstFault fault files
  in_blocks : (fixed_mine : FixedInstance) (block : ℕ) → GaveFixedMine files fixed_mine → IsClash fixed_mine.mine.pairs (fixed_in fixed_mine) block → fault ≡ clash block → FirstFault fault files

-- why no mine was read
abbrev pub RefusesMine : Refusal → Fault → Files → Type 0
RefusesMine NoMemory fault files = (fault ≡ no_memory) × NeverFailed files.model × NeverFailed files.prec × OfChoiceIfAny files.fixed NeverFailed
RefusesMine ReadFailed fault files =
    FailedOnce sources.Model fault files.model ⊎ FailedOnce sources.Precedence fault files.prec ⊎ OfChoice files.fixed (FailedOnce sources.Fixed fault)
RefusesMine WriteFailed fault files = ⊥
RefusesMine NoSeat fault files = ⊥
RefusesMine (Exhausted count) fault files = ⊥
RefusesMine _ fault files = FirstFault fault files

-- why no fixed blocks were read
abbrev pub RefusesFixedText : Refusal → Fault → ℕ → OptionalReading → Type 0
RefusesFixedText NoMemory fault n c = (fault ≡ no_memory) × OfChoice c NeverFailed
RefusesFixedText ReadFailed fault n c = OfChoice c (FailedOnce sources.Fixed fault)
RefusesFixedText WriteFailed fault n c = ⊥
RefusesFixedText _ fault n c = OfChoice c (λ r. (text : List ℕ) × Gave r text × IsFirstFixedFault n text fault)
