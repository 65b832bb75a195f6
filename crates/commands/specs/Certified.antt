-- The certificate that a run of `solve` writes, in the words in which `check` answers to it.
use Rattle.std.specs.Prelude.{◌≡◌, ℕ, true, List, Result, Ok, Err}
use Rattle.minelib_reader.specs.Device.{Progress, Writes, Wrote, WroteFront}
use Rattle.faults.specs.Refused.{write_failed}
use Rattle.faults.specs.declared.fault.Fault.{Fault}
use Rattle.commands.specs.Solve.{Files, FixedInstance, GaveInOrder}
use Rattle.commands.specs.Check.{AnswersText}
use Rattle.commands.specs.Chosen.{Chosen, OfWriter, OfWriterIfAny}

-- the text is a certificate of the mine that the readers gave, and the answer to it is yes
pub record IsAnsweredYes (files : Files) (text : List ℕ) : Type 0 where
  pub fixed_mine : FixedInstance
  pub given : GaveInOrder files fixed_mine
  pub yes : AnswersText fixed_mine text true

-- a text to which the answer is yes was written, or a beginning of it
abbrev pub WritesCertificate : {E : Type 0} → FixedInstance → Result (Unit {0}) E → Progress → Progress → Type 0
WritesCertificate fixed_mine result before after = (text : List ℕ) × AnswersText fixed_mine text true × Writes before after text result

-- what went of a certificate of the mine to a writer of choice
abbrev pub PutsCertificate : FixedInstance → Chosen → Result (Unit {0}) Fault → Type 0
PutsCertificate fixed_mine c (Ok x) = OfWriterIfAny c (WritesCertificate {E = Fault} fixed_mine (Ok x))
PutsCertificate fixed_mine c (Err e) = OfWriter c (WritesCertificate {E = Fault} fixed_mine (Err e)) × (e ≡ write_failed)

-- exactly a certificate of the mine was written
pub record IsCertified (files : Files) (before after : Progress) : Type 0 where
  pub text : List ℕ
  pub answered : IsAnsweredYes files text
  pub wrote : Wrote before after text

-- a beginning of one was written, and then a write failed
pub record IsCertificateCut (files : Files) (before after : Progress) : Type 0 where
  pub text : List ℕ
  pub answered : IsAnsweredYes files text
  pub wrote : WroteFront before after text
