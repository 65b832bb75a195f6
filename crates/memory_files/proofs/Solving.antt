-- A solve over files in memory reads what the files of its names hold.
use Rattle.std.proofs.Common.{◌≡◌, ◌∙◌, ℕ, List, [], ◌++◌, refl, subst, sym, ap}
use Rattle.std.specs.Prelude.{◌^◌, true, false, Bool, Option, None, Some, IsSome, Result, Ok, Err, is_ok, is_some, option_copied}
use Rattle.std.specs.Io.KnownBytes.{Keeps}
use Rattle.std.proofs.lemmas.Bool.{true≢false}
use Rattle.faults.specs.declared.fault.Fault.{Fault}
use Rattle.faults.specs.declared.source.Source.{Source}
use Rattle.faults.specs.declared.source.Source.TheVariants as sources
use Rattle.minelib_reader.specs.Device.{Progress, unread}
use Rattle.minelib_reader.specs.FixedGrammar.{SpellsFixed}
use Rattle.minelib_reader.specs.PrecGrammar.{SpellsPrec}
use Rattle.minelib_reader.specs.UpitGrammar.{SpellsUpit}
use Rattle.minelib_reader.specs.declared.device.InBytes.{Ghosts as Reader}
use Rattle.minelib_reader.specs.declared.input.FileReader.{FileReader}
use Rattle.pit_model.specs.Fixed.{FixedLists}
use Rattle.commands.specs.Kept.{KeepsIfAny}
use Rattle.commands.specs.Made.{behind_outputs}
use Rattle.commands.specs.Opened.{IsFromFront, IsFromFrontIfAny, OpensFixed}
use Rattle.commands.specs.Chosen.{Chosen}
use Rattle.commands.specs.Place.{given, FileState, OutputPlace}
use Rattle.commands.specs.Solve.{Gave, GaveFixed, IsDone, IsPitText, given_by, mine_of, optional_reading}
use Rattle.commands.specs.Solved.{EndsSolveCall, RunsSolve, SolveCourse, solved, unmade, unopened}
use Rattle.commands.specs.declared.options.SolveOptions.{SolveOptions}
use Rattle.commands.specs.declared.status.Status.{Status}
use Rattle.commands.specs.declared.status.Status.TheVariants.{Done}
use Rattle.memory_files.specs.declared.files.MemoryFile.{MemoryFile}
use Rattle.memory_files.specs.MemoryRelations.{text_under}
use Rattle.memory_files.specs.SolvedFiles.{FixesBlocks, SolvesFiles}

-- a reader that is at its end has read all of its text
abbrev pub KnowsText : {S : Type 0} → Reader S → Type 0
KnowsText {S} reader = (r : S) (text : List ℕ) → reader.IsAtEnd r → reader.known_text r ≡ Some text → (reader.progress r).bytes ≡ text

still_known : (known : Option (List ℕ)) (bytes : List ℕ) → Keeps (Some bytes) known → known ≡ Some bytes
still_known None bytes keeps = absurd keeps
still_known (Some ys) bytes keeps = ap Some keeps

-- what was given from the front is the whole text
given_text : {S : Type 0} → (reader : Reader S) (r r' : S) (bytes text : List ℕ) → KnowsText reader
    → IsFromFront reader.progress reader.known_text (Some bytes) r → Keeps (reader.known_text r) (reader.known_text r') → Gave (given_by reader r r') text → text ≡ bytes
given_text reader r r' bytes text knows front keeps gave =
    let known = still_known (reader.known_text r') bytes (subst (λ (it : Option (List ℕ)). Keeps it (reader.known_text r')) front.known keeps) in
    let whole = knows r' bytes gave.ended known in
    let begun = ap (λ (p : Progress). p.bytes ++ text) front.unread in
    sym begun ∙ sym gave.bytes ∙ whole

-- what a name leads to is told where its file is opened, and the files stay
abbrev pub OpensHeld : {F : Type 0} → (F → List MemoryFile) → (F → List ℕ → Source → Option (List ℕ) → F → Type 0) → Type 0
OpensHeld {F} held opens =
    (old new : F) (name : List ℕ) (source : Source) (text : Option (List ℕ)) → opens old name source text new
    → ((bytes : List ℕ) × (text ≡ Some bytes) × (text_under (held old) name ≡ Some bytes)) × (held new ≡ held old)

-- a call that is done ended a run that is done
outcome_done : (journal certificate : Result (Unit {0}) Fault) (outcome : Result Status Fault) → Ok Done ≡ behind_outputs journal certificate outcome → Ok Done ≡ outcome
outcome_done (Err e) certificate outcome is = absurd (true≢false (ap is_ok is))
outcome_done (Ok x) (Err e) outcome is = absurd (true≢false (ap is_ok is))
outcome_done (Ok x) (Ok y) outcome is = is

run_done : (run : SolveCourse) (journal certificate : Chosen) (outcome : Result Status Fault) → Ok Done ≡ outcome → RunsSolve run journal certificate outcome
    → IsDone run.settings.pit run.files run.before run.after Done
run_done run journal certificate outcome is runs = (subst (λ (it : Result Status Fault). RunsSolve run journal certificate it) (sym is) runs).0

module _ {F JournalOut CertificateOut Model Prec Fixed Certificate Journal Blocks : Type 0} where
  -- the blocks that a reader of choice gave are those of its file
  fixed_found :
      (place : OutputPlace F JournalOut CertificateOut Model Prec Fixed Certificate Journal Blocks) (held : F → List MemoryFile) → OpensHeld held place.inputs.files.opens → KnowsText place.inputs.fixed
      → (name text : Option (List ℕ)) (old new : F) → OpensFixed place.inputs.files name text old new
      → (mine read : Option (FileReader Fixed)) → is_some mine ≡ is_some name → IsFromFrontIfAny place.inputs.fixed.progress place.inputs.fixed.known_text text mine
      → KeepsIfAny place.inputs.fixed.known_text mine read
      → (n : ℕ) (lists : FixedLists) → GaveFixed (optional_reading place.inputs.fixed.progress place.inputs.fixed.IsAtEnd mine read) n lists
      → FixesBlocks (held old) name n lists
  fixed_found place held opens knows None text old new opened None None named front keeps n lists gave = gave
  fixed_found place held opens knows None text old new opened None (Some r) named front keeps n lists gave = absurd keeps
  fixed_found place held opens knows None text old new opened (Some m) read named front keeps n lists gave = absurd (true≢false named)
  fixed_found place held opens knows (Some name) text old new opened None read named front keeps n lists gave = absurd (true≢false (sym named))
  fixed_found place held opens knows (Some name) text old new opened (Some m) None named front keeps n lists gave = absurd keeps
  fixed_found place held opens knows (Some name) text old new opened (Some m) (Some r) named front keeps n lists gave =
      let found = (opens old new name sources.Fixed text opened).0 in
      let from = subst (λ (it : Option (List ℕ)). IsFromFront place.inputs.fixed.progress place.inputs.fixed.known_text it m) found.1 front in
      let same = given_text place.inputs.fixed m r found.0 gave.0 knows from keeps gave.1 in
      (found.0, found.2, subst (λ (it : List ℕ). SpellsFixed n it lists) same gave.2)

  -- a solve that is done wrote the text of the pit of the mine that the files of the names spell
  pub solves_files :
      (place : OutputPlace F JournalOut CertificateOut Model Prec Fixed Certificate Journal Blocks) (held : F → List MemoryFile) → OpensHeld held place.inputs.files.opens
      → KnowsText place.inputs.model → KnowsText place.inputs.prec → KnowsText place.inputs.fixed
      → (options : SolveOptions) (old new : FileState F) (result : Result Status Fault) → EndsSolveCall place options old new result → Ok Done ≡ result → old.out.bytes ≡ []
      → SolvesFiles options.settings.pit (held old.files) options.mine new.out.bytes
  solves_files place held opens knows_model knows_prec knows_fixed options old new result (unopened fault lacks not_run) done empty = absurd (true≢false (ap is_ok (done ∙ not_run.reported)))
  solves_files place held opens knows_model knows_prec knows_fixed options old new result (unmade fault texts f opened is_unmade spares not_run) done empty = absurd (true≢false (ap is_ok (done ∙ not_run.reported)))
  solves_files place held opens knows_model knows_prec knows_fixed options old new result (solved outcome texts made written f g mine read opened makes front keeps over ends) done empty =
      let run : SolveCourse = record { settings = options.settings; files = given place.inputs mine read; before = old.out; after = new.out } in
      let is = run_done run _ _ outcome (outcome_done ends.journal_left ends.certificate_left outcome (done ∙ ends.result_is)) over.runs in
      let solves = is.solves in
      let model = opens old.files opened.behind_model options.mine.model.now sources.Model texts.model opened.model_opened in
      let prec = opens opened.behind_model opened.behind_prec options.mine.prec.now sources.Precedence texts.prec opened.prec_opened in
      let held_prec = prec.1 ∙ model.1 in
      let model_front = subst (λ (it : Option (List ℕ)). IsFromFront place.inputs.model.progress place.inputs.model.known_text it mine.model) model.0.1 front.model_front in
      let prec_front = subst (λ (it : Option (List ℕ)). IsFromFront place.inputs.prec.progress place.inputs.prec.known_text it mine.prec) prec.0.1 front.prec_front in
      let same_model = given_text place.inputs.model mine.model read.model model.0.0 solves.given.model_text knows_model model_front keeps.model_kept solves.given.model_given in
      let same_prec = given_text place.inputs.prec mine.prec read.prec prec.0.0 solves.given.prec_text knows_prec prec_front keeps.prec_kept solves.given.prec_given in
      let fixed = fixed_found place held opens knows_fixed (option_copied options.mine.fixed) texts.fixed opened.behind_prec f opened.fixed_opened mine.fixed read.fixed front.fixed_named front.fixed_front keeps.fixed_kept solves.upit.n solves.lists solves.fixed_given in
      let wrote = ap (λ (it : List ℕ). it ++ is.text) empty in
      record {
        model = model.0.0;
        prec = prec.0.0;
        model_found = model.0.2;
        prec_found = ap (λ (it : List MemoryFile). text_under it options.mine.prec.now) (sym model.1) ∙ prec.0.2;
        upit = solves.upit;
        pairs = solves.pairs;
        lists = solves.lists;
        model_spelled = subst (λ (it : List ℕ). SpellsUpit it solves.upit) same_model solves.given.model_spelled;
        prec_spelled = subst (λ (it : List ℕ). SpellsPrec solves.upit.n it solves.pairs) same_prec solves.given.prec_spelled;
        fixed_spelled = subst (λ (it : List MemoryFile). FixesBlocks it (option_copied options.mine.fixed) solves.upit.n solves.lists) held_prec fixed;
        acyclic = solves.acyclic;
        solved = subst (λ (it : List ℕ). IsPitText options.settings.pit (mine_of solves.upit solves.pairs solves.lists) it) (sym wrote ∙ sym is.wrote.0) solves.solved;
      }
