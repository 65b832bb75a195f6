-- What a run of `check` writes, and what it refuses, over the bytes that went through its readers and its writer.
use Rattle.std.specs.Prelude.{◌≡◌, ℕ, ◌↔◌, Bool, true, false, IsTrue, List}
use Rattle.minelib_reader.specs.Device.{Progress, Wrote, WroteFront}
use Rattle.faults.specs.Refused.{no_memory, write_failed}
use Rattle.faults.specs.declared.fault.Fault.{Fault}
use Rattle.faults.specs.declared.refusal.Refusal.{Refusal}
use Rattle.faults.specs.declared.refusal.Refusal.TheVariants.{NoMemory, ReadFailed, WriteFailed}
use Rattle.faults.specs.declared.source.Source.TheVariants as sources
use Rattle.pit_model.specs.declared.direction.Direction.TheVariants.{Least}
use Rattle.pit_model.specs.Fixed.{IsFixedCertificate}
use Rattle.pit_model.specs.Pit.{ListsPit}
use Rattle.certificate.specs.CertificateLines.{PitAndFlow}
use Rattle.certificate.specs.CertificateFault.{IsFirstCertificateFault}
use Rattle.certificate.specs.CertificateGrammar.{SpellsCertificate}
use Rattle.report.specs.AnswerText.{answer_text}
use Rattle.merging.specs.Parts.{graph_of_instance}
use Rattle.commands.specs.Solve.{Files, FixedInstance, GaveInOrder, Reading, Gave, NeverFailed, FailedOnce, RefusesMine, fixed_in, mine_of}
use Rattle.commands.specs.declared.status.Status.{Status}
use Rattle.commands.specs.declared.status.Status.TheVariants.{Done, No}

-- the text spells a certificate of the mine's graph, and the answer is whether that meets the conditions
pub record AnswersText (fixed_mine : FixedInstance) (text : List ℕ) (answer : Bool) : Type 0 where
  pub shown : PitAndFlow
  pub spelled : SpellsCertificate (graph_of_instance fixed_mine.mine) fixed_mine.lists text shown
  pub exact : IsTrue answer ↔ IsFixedCertificate fixed_mine.mine (fixed_in fixed_mine) shown.pit shown.flow

-- the reader gave such a text, and this is the answer to it
pub record IsAnswered (fixed_mine : FixedInstance) (certificate : Reading) (answer : Bool) : Type 0 where
  pub text : List ℕ
  pub given : Gave certificate text
  pub answers : AnswersText fixed_mine text answer

-- the readers gave a mine and a certificate, and this is the answer; where it is yes, the certificate's blocks are the pit
-- of the mine as the files spell it
pub record Checks (files : Files) (certificate : Reading) (answer : Bool) : Type 0 where
  pub fixed_mine : FixedInstance
  pub given : GaveInOrder files fixed_mine
  pub answered : IsAnswered fixed_mine certificate answer
  pub shows_pit : IsTrue answer → ListsPit Least (mine_of given.holds.gave.upit given.holds.gave.pairs fixed_mine.lists).mine (fixed_in fixed_mine) answered.answers.shown.pit

abbrev pub status_of_answer : Bool → Status
status_of_answer true = Done
status_of_answer false = No

-- exactly the answer was written
pub record IsChecked (files : Files) (certificate : Reading) (before after : Progress) (status : Status) : Type 0 where
  pub answer : Bool
  pub checks : Checks files certificate answer
  pub reported : status ≡ status_of_answer answer
  pub wrote : Wrote before after (answer_text answer)

-- a beginning of the answer was written, and then a write failed
pub record IsAnswerCut (files : Files) (certificate : Reading) (before after : Progress) : Type 0 where
  pub answer : Bool
  pub checks : Checks files certificate answer
  pub wrote : WroteFront before after (answer_text answer)

-- why no certificate of a mine was read or checked
abbrev pub RefusesCertificate : Refusal → Fault → FixedInstance → Reading → Type 0
RefusesCertificate NoMemory fault fixed_mine certificate = (fault ≡ no_memory) × NeverFailed certificate
RefusesCertificate ReadFailed fault fixed_mine certificate = FailedOnce sources.Certificate fault certificate
RefusesCertificate WriteFailed fault fixed_mine certificate = ⊥
RefusesCertificate _ fault fixed_mine certificate = (text : List ℕ) × Gave certificate text × IsFirstCertificateFault (graph_of_instance fixed_mine.mine) fixed_mine.lists text fault

-- why nothing was answered: no mine was read, and then nothing of a certificate either; or no certificate of the mine was
pub data NotAnswered (fault : Fault) (files : Files) (certificate : Reading) : Type 0 where
  no_mine : RefusesMine fault.refusal fault files → certificate.after ≡ certificate.before → NotAnswered fault files certificate
  no_certificate : (fixed_mine : FixedInstance) → GaveInOrder files fixed_mine → RefusesCertificate fault.refusal fault fixed_mine certificate → NotAnswered fault files certificate

-- why a run ended without an answer: nothing was written, but where a write failed
abbrev pub RefusesCheck : Refusal → Fault → Files → Reading → Progress → Progress → Type 0
RefusesCheck WriteFailed fault files certificate before after = (fault ≡ write_failed) × IsAnswerCut files certificate before after
RefusesCheck _ fault files certificate before after = NotAnswered fault files certificate × (after ≡ before)
