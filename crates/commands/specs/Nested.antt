-- The call of `shells`: the factors are read first, and then the files are opened.
use Rattle.std.specs.Prelude.{◌≡◌, ℕ, List, Option, Result, Ok, Err}
use Rattle.std.specs.Io.KnownBytes.{Keeps}
use Rattle.faults.specs.declared.fault.Fault.{Fault}
use Rattle.faults.specs.declared.source.Source.TheVariants as sources
use Rattle.minelib_reader.specs.Answer.{FailsAt}
use Rattle.minelib_reader.specs.Device.{Progress}
use Rattle.minelib_reader.specs.declared.input.FileReader.{FileReader}
use Rattle.nesting.specs.FactorList.{IsFirstItemFault}
use Rattle.shells.specs.FactorText.{item_numbers, SpellsFactors}
use Rattle.shells.specs.ByMode.{EachEndsWithin}
use Rattle.commands.specs.ShellsRun.{HoldsOfDeposit, IsShellsDone, RefusesShellsRun}
use Rattle.commands.specs.Solve.{Reading, given_by}
use Rattle.commands.specs.declared.status.Status.{Status}
use Rattle.commands.specs.declared.options.ShellsOptions.{ShellsOptions}
use Rattle.commands.specs.Faults.{IsUnopened}
use Rattle.commands.specs.Opened.{IsFromFront}
use Rattle.commands.specs.Place.{InputPlace, IsNotRun, FileState}

-- what went through the readers and the writer of a run of `shells`
pub record ShellsCourse : Type 1 where
  pub blocks : Reading
  pub prec : Reading
  pub before : Progress
  pub after : Progress

-- how a run of `shells` with these factors ends
abbrev pub RunsShells : ShellsOptions → List ℕ → ShellsCourse → Result Status Fault → Type 0
RunsShells options factors run (Ok status) =
    IsShellsDone options.settings.pit run.blocks run.prec options.revenue options.cost factors run.before run.after status
    × HoldsOfDeposit run.blocks run.prec options.revenue options.cost (λ deposit. EachEndsWithin options.settings.mode options.settings.pit deposit factors)
RunsShells options factors run (Err e) =
    RefusesShellsRun options.settings.mode options.settings.pit e.refusal e run.blocks run.prec options.revenue options.cost factors run.before run.after

module _ {F Model Prec Fixed Certificate Journal Blocks : Type 0} where
  -- the text spells no factors, and no file was opened; a file could not be opened, and nothing else was done; or both were opened,
  -- and the run was over their readers, from their fronts, with the factors that the text spells
  pub data EndsShells (place : InputPlace F Model Prec Fixed Certificate Journal Blocks) (options : ShellsOptions) (old new : FileState F) (result : Result Status Fault) : Type 0 where
    no_factors : (fault : Fault) → FailsAt fault.refusal fault (IsFirstItemFault (item_numbers options.factors.now)) → new.files ≡ old.files
        → IsNotRun fault old new result → EndsShells place options old new result
    no_blocks : (fault : Fault) (factors : List ℕ) → SpellsFactors options.factors.now factors
        → IsUnopened sources.Blocks fault → place.files.lacks old.files options.blocks.now sources.Blocks new.files
        → IsNotRun fault old new result → EndsShells place options old new result
    no_prec : (fault : Fault) (factors : List ℕ) (text : Option (List ℕ)) (f : F) → SpellsFactors options.factors.now factors
        → place.files.opens old.files options.blocks.now sources.Blocks text f
        → IsUnopened sources.Precedence fault → place.files.lacks f options.prec.now sources.Precedence new.files
        → IsNotRun fault old new result → EndsShells place options old new result
    grew : (factors : List ℕ) (table pairs : Option (List ℕ)) (f : F) (b b' : FileReader Blocks) (p p' : FileReader Prec) → SpellsFactors options.factors.now factors
        → place.files.opens old.files options.blocks.now sources.Blocks table f → place.files.opens f options.prec.now sources.Precedence pairs new.files
        → IsFromFront place.blocks.progress place.blocks.known_text table b → IsFromFront place.prec.progress place.prec.known_text pairs p
        → Keeps (place.blocks.known_text b) (place.blocks.known_text b') → Keeps (place.prec.known_text p) (place.prec.known_text p')
        → RunsShells options factors (record { blocks = given_by place.blocks b b'; prec = given_by place.prec p p'; before = old.out; after = new.out }) result
        → EndsShells place options old new result
