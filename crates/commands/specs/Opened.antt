-- Which files a call opens, each as what it is, and in which order. Each opening leads from a state of the files to a state.
use Rattle.std.specs.Prelude.{◌≡◌, ◌^◌, ℕ, List, [], Option, None, Some, is_some, option_copied}
use Rattle.std.specs.Io.KnownBytes.{prepend_known}
use Rattle.faults.specs.declared.fault.Fault.{Fault}
use Rattle.faults.specs.declared.source.Source.TheVariants as sources
use Rattle.minelib_reader.specs.Device.{Progress, unread}
use Rattle.minelib_reader.specs.declared.input.FileReader.{FileReader}
use Rattle.commands.specs.declared.mine.MineFiles.{MineFiles}
use Rattle.commands.specs.declared.inputs.InputFiles.{Ghosts as Opening}
use Rattle.commands.specs.declared.options.MineNames.{MineNames}
use Rattle.commands.specs.Faults.{IsUnopened}
use Rattle.commands.specs.Place.{InputPlace}

-- what the files of a mine hold when they are opened, where that is known
pub record MineTexts : Type 0 where
  pub model : Option (List ℕ)
  pub prec : Option (List ℕ)
  pub fixed : Option (List ℕ)

-- what is known of a stream of choice: what it has left to be read, or what it holds
abbrev pub known_if_any : {X : Type 0} → (X → Option (List ℕ)) → Option X → Option (List ℕ)
known_if_any known None = None
known_if_any known (Some stream) = known stream

-- and the streams of a mine's files
abbrev pub texts_of : {M P X : Type 0} → (M → Option (List ℕ)) → (P → Option (List ℕ)) → (X → Option (List ℕ)) → MineFiles M P X → MineTexts
texts_of model prec fixed mine = record { model = model mine.model; prec = prec mine.prec; fixed = known_if_any fixed mine.fixed }

module _ {F Model Prec Fixed Certificate Journal Blocks : Type 0} where
  -- the file of fixed blocks was opened, where there is one, with this to be read
  abbrev pub OpensFixed : Opening F Model Prec Fixed Certificate Journal Blocks → Option (List ℕ) → Option (List ℕ) → F → F → Type 0
  OpensFixed files None text old new = new ≡ old
  OpensFixed files (Some name) text old new = files.opens old name sources.Fixed text new

  -- there is one, and it could not be opened
  abbrev pub LacksFixed : Opening F Model Prec Fixed Certificate Journal Blocks → Option (List ℕ) → Fault → F → F → Type 0
  LacksFixed files None fault old new = ⊥
  LacksFixed files (Some name) fault old new = IsUnopened sources.Fixed fault × files.lacks old name sources.Fixed new

  -- the model, the precedence file and then that of the fixed blocks were opened, with these texts to be read
  pub record OpensMine (files : Opening F Model Prec Fixed Certificate Journal Blocks) (names : MineNames) (texts : MineTexts) (old new : F) : Type 0 where
    pub behind_model : F
    pub behind_prec : F
    pub model_opened : files.opens old names.model.now sources.Model texts.model behind_model
    pub prec_opened : files.opens behind_model names.prec.now sources.Precedence texts.prec behind_prec
    pub fixed_opened : OpensFixed files (option_copied names.fixed) texts.fixed behind_prec new

  -- one of them could not be opened, and none behind it was tried
  pub data LacksMine (files : Opening F Model Prec Fixed Certificate Journal Blocks) (names : MineNames) (fault : Fault) (old new : F) : Type 0 where
    no_model : IsUnopened sources.Model fault → files.lacks old names.model.now sources.Model new → LacksMine files names fault old new
    no_prec : (f : F) (model : Option (List ℕ)) → files.opens old names.model.now sources.Model model f
        → IsUnopened sources.Precedence fault → files.lacks f names.prec.now sources.Precedence new → LacksMine files names fault old new
    no_fixed : (f g : F) (model prec : Option (List ℕ)) → files.opens old names.model.now sources.Model model f → files.opens f names.prec.now sources.Precedence prec g
        → LacksFixed files (option_copied names.fixed) fault g new → LacksMine files names fault old new

-- nothing was read yet from a reader, and what it knows of its text is what was to be read when it was opened
pub record IsFromFront {R : Type 0} (progress : R → Progress) (known_text : R → Option (List ℕ)) (text : Option (List ℕ)) (reader : R) : Type 0 where
  pub unread : progress reader ≡ unread (2 ^ 40)
  pub known : known_text reader ≡ prepend_known [] text

-- and so it is of the reader of choice
abbrev pub IsFromFrontIfAny : {R : Type 0} → (R → Progress) → (R → Option (List ℕ)) → Option (List ℕ) → Option R → Type 0
IsFromFrontIfAny progress known_text text None = Unit {0}
IsFromFrontIfAny progress known_text text (Some reader) = IsFromFront progress known_text text reader

-- and of the readers of a mine; there is one of fixed blocks where a file of them is named
pub record AreFromFront {F Model Prec Fixed Certificate Journal Blocks : Type 0} (place : InputPlace F Model Prec Fixed Certificate Journal Blocks) (names : MineNames) (texts : MineTexts)
    (mine : MineFiles (FileReader Model) (FileReader Prec) (FileReader Fixed)) : Type 0 where
  pub model_front : IsFromFront place.model.progress place.model.known_text texts.model mine.model
  pub prec_front : IsFromFront place.prec.progress place.prec.known_text texts.prec mine.prec
  pub fixed_front : IsFromFrontIfAny place.fixed.progress place.fixed.known_text texts.fixed mine.fixed
  pub fixed_named : is_some mine.fixed ≡ is_some (option_copied names.fixed)
