-- Which outputs a call makes beside standard output, and how each ends: kept at its place, or gone.
use Rattle.std.specs.Prelude.{◌≡◌, ℕ, Bool, ◌&&◌, ◌||◌, true, false, List, Option, None, Some, Result, Ok, Err, MatchBool, is_ok, is_some, option_copied}
use Rattle.faults.specs.Refused.{write_failed}
use Rattle.faults.specs.declared.fault.Fault.{Fault}
use Rattle.faults.specs.declared.refusal.Refusal.{Refusal}
use Rattle.faults.specs.declared.refusal.Refusal.TheVariants.{Exhausted}
use Rattle.faults.specs.declared.source.Source.{Source}
use Rattle.faults.specs.declared.source.Source.TheVariants as sources
use Rattle.pit_model.specs.declared.direction.Direction.{Direction}
use Rattle.pit_model.specs.declared.direction.Direction.TheVariants.{Least, Greatest}
use Rattle.commands.specs.declared.options.SolveSettings.{SolveSettings}
use Rattle.commands.specs.declared.status.Status.{Status}
use Rattle.solver.specs.declared.mode.Mode.{Mode}
use Rattle.solver.specs.declared.mode.Mode.TheVariants.{Shared}
use Rattle.commands.specs.declared.options.SolveOptions.{SolveOptions}
use Rattle.commands.specs.declared.outputs.OutputFiles.{Ghosts as Making}

-- mode shared alone has a journal, and of the least pit
abbrev pub journal_in : {T : Type 0} → Mode → Option T → Option T
journal_in (Shared workers budget chunk) name = name
journal_in mode name = None

abbrev pub journal_toward : {T : Type 0} → Direction → Mode → Option T → Option T
journal_toward Least mode name = journal_in mode name
journal_toward Greatest mode name = None

abbrev pub wanted_journal : {T : Type 0} → SolveSettings → Option T → Option T
wanted_journal settings name = journal_toward settings.pit settings.mode name

-- the least pit alone has a certificate
abbrev pub certificate_toward : {T : Type 0} → Direction → Option T → Option T
certificate_toward Least name = name
certificate_toward Greatest name = None

-- the names of the outputs beside the pit, where they are wanted
pub record Wanted : Type 0 where
  pub journal : Option (List ℕ)
  pub certificate : Option (List ℕ)

abbrev pub wanted_by : SolveOptions → Wanted
wanted_by options = record {
  journal = wanted_journal options.settings (option_copied options.journal);
  certificate = certificate_toward options.settings.pit (option_copied options.certificate);
}

-- what the outputs hold, where there are such and that is known
pub record OutputContents : Type 0 where
  pub journal : Option (List ℕ)
  pub certificate : Option (List ℕ)

abbrev pub output_contents : Option (List ℕ) → Option (List ℕ) → OutputContents
output_contents journal certificate = record { journal = journal; certificate = certificate }

-- an output when it ends: what it is, whether there is one, what it holds, and whether it is to be kept
pub record Output : Type 0 where
  pub source : Source
  pub is_there : Bool
  pub holds : Option (List ℕ)
  pub is_kept : Bool

abbrev pub output : Source → Bool → Option (List ℕ) → Bool → Output
output source is_there holds is_kept = record { source = source; is_there = is_there; holds = holds; is_kept = is_kept }

-- a run that ended so, which outputs beside the pit it had, and what these held then
pub record Finished : Type 0 where
  pub outcome : Result Status Fault
  pub has_journal : Bool
  pub has_certificate : Bool
  pub holds : OutputContents

abbrev pub finished : Result Status Fault → Bool → Bool → OutputContents → Finished
finished outcome has_journal has_certificate holds = record { outcome = outcome; has_journal = has_journal; has_certificate = has_certificate; holds = holds }

-- a run ended at its budget
abbrev pub is_budget_refusal : Refusal → Bool
is_budget_refusal (Exhausted count) = true
is_budget_refusal _ = false

abbrev pub is_exhausted : Result Status Fault → Bool
is_exhausted (Ok status) = false
is_exhausted (Err fault) = is_budget_refusal fault.refusal

-- how a call ends whose run and outputs ended so: by the first fault of the journal's end, of the certificate's end and of the run
abbrev pub behind_outputs : Result (Unit {0}) Fault → Result (Unit {0}) Fault → Result Status Fault → Result Status Fault
behind_outputs (Err e) certificate outcome = Err e
behind_outputs (Ok x) (Err e) outcome = Err e
behind_outputs (Ok x) (Ok y) outcome = outcome

module _ {F JournalOut CertificateOut Model Prec Fixed Certificate Journal Blocks : Type 0} where
  -- the output of a name was made as what it is, and holds this, where there is one
  abbrev pub MakesIfAny : Making F JournalOut CertificateOut Model Prec Fixed Certificate Journal Blocks → Source → Option (List ℕ) → Option (List ℕ) → F → F → Type 0
  MakesIfAny files source None holds old new = new ≡ old
  MakesIfAny files source (Some name) holds old new = files.makes old name source holds new

  -- there is one, and it could not be made
  abbrev pub SparesIfAny : Making F JournalOut CertificateOut Model Prec Fixed Certificate Journal Blocks → Source → Option (List ℕ) → F → F → Type 0
  SparesIfAny files source None old new = ⊥
  SparesIfAny files source (Some name) old new = files.spares old name source new

  -- an output that is there was ended, kept or not; or it was to be kept, and could not be
  abbrev pub Ends : Making F JournalOut CertificateOut Model Prec Fixed Certificate Journal Blocks → Output → Result (Unit {0}) Fault → F → F → Type 0
  Ends files output (Ok x) old new = files.ends old output.source output.holds output.is_kept new
  Ends files output (Err e) old new = (e ≡ write_failed) × files.loses old output.source new

  -- an output was ended, where there is one
  abbrev pub EndsIfAny : Making F JournalOut CertificateOut Model Prec Fixed Certificate Journal Blocks → Output → Result (Unit {0}) Fault → F → F → Type 0
  EndsIfAny files output result old new = MatchBool output.is_there (Ends files output result old new) ((result ≡ Ok tt) × (new ≡ old))

  -- the outputs beside the pit were made, where they are wanted, and hold this: the journal, and then the certificate
  pub record MakesOutputs (files : Making F JournalOut CertificateOut Model Prec Fixed Certificate Journal Blocks) (wanted : Wanted) (holds : OutputContents) (old new : F) : Type 0 where
    pub behind_journal : F
    pub journal_made : MakesIfAny files sources.Journal wanted.journal holds.journal old behind_journal
    pub certificate_made : MakesIfAny files sources.Certificate wanted.certificate holds.certificate behind_journal new

  -- one could not be made, and none is left
  pub data SparesOutputs (files : Making F JournalOut CertificateOut Model Prec Fixed Certificate Journal Blocks) (wanted : Wanted) (old new : F) : Type 0 where
    no_journal : SparesIfAny files sources.Journal wanted.journal old new → SparesOutputs files wanted old new
    no_certificate : (f g : F) (holds : Option (List ℕ)) (left : Result (Unit {0}) Fault) → MakesIfAny files sources.Journal wanted.journal holds old f
        → SparesIfAny files sources.Certificate wanted.certificate f g
        → EndsIfAny files (output sources.Journal (is_some wanted.journal) holds false) left g new → SparesOutputs files wanted old new

  -- behind a run its outputs were ended as it left them, where they are there: the journal is kept where the run was done or ended at its budget;
  -- the certificate where it was done and the journal is at its place
  pub record EndsOutputs (files : Making F JournalOut CertificateOut Model Prec Fixed Certificate Journal Blocks) (run : Finished) (result : Result Status Fault) (old new : F) : Type 0 where
    pub behind_journal : F
    pub journal_left : Result (Unit {0}) Fault
    pub certificate_left : Result (Unit {0}) Fault
    pub journal_ended : EndsIfAny files (output sources.Journal run.has_journal run.holds.journal (is_ok run.outcome || is_exhausted run.outcome)) journal_left old behind_journal
    pub certificate_ended : EndsIfAny files (output sources.Certificate run.has_certificate run.holds.certificate (is_ok run.outcome && is_ok journal_left)) certificate_left behind_journal new
    pub result_is : result ≡ behind_outputs journal_left certificate_left run.outcome
