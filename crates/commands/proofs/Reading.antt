-- The readers of files that were just opened are at their fronts.
use Rattle.std.proofs.Common.{◌≡◌, subst}
use Rattle.std.specs.Prelude.{Bool, Option, is_some, option_copied}
use Rattle.minelib_reader.specs.declared.input.FileReader.{FileReader}
use Rattle.commands.specs.declared.mine.MineFiles.{MineFiles}
use Rattle.commands.specs.declared.options.MineNames.{MineNames}
use Rattle.commands.specs.Opened.{AreFromFront, IsFromFront, IsFromFrontIfAny, MineTexts}
use Rattle.commands.specs.Place.{InputPlace}

pub are_from_front : {F Model Prec Fixed Certificate Journal Blocks S : Type 0} → (place : InputPlace F Model Prec Fixed Certificate Journal Blocks) (names : MineNames) (texts : MineTexts)
    (stream : Option S) (mine : MineFiles (FileReader Model) (FileReader Prec) (FileReader Fixed)) → is_some stream ≡ is_some (option_copied names.fixed) → is_some mine.fixed ≡ is_some stream
    → IsFromFront place.model.progress place.model.known_text texts.model mine.model
    → IsFromFront place.prec.progress place.prec.known_text texts.prec mine.prec
    → IsFromFrontIfAny place.fixed.progress place.fixed.known_text texts.fixed mine.fixed
    → AreFromFront place names texts mine
are_from_front place names texts stream mine opened kept m p x = record {
  model_front = m;
  prec_front = p;
  fixed_front = x;
  fixed_named = subst (λ (there : Bool). is_some mine.fixed ≡ there) opened kept;
}
