-- What a reader knows of its text stays as it was in a run: the text is read on, and no other.
use Rattle.std.specs.Prelude.{ℕ, List, Option, None, Some}
use Rattle.std.specs.Io.KnownBytes.{Keeps}
use Rattle.commands.specs.declared.mine.MineFiles.{MineFiles}

-- of a reader of choice, which neither comes nor goes
abbrev pub KeepsIfAny : {F : Type 0} → (F → Option (List ℕ)) → Option F → Option F → Type 0
KeepsIfAny known None None = Unit {0}
KeepsIfAny known (Some before) (Some after) = Keeps (known before) (known after)
KeepsIfAny known before after = ⊥

-- of all readers of a mine
pub record KeepsTexts {M P F : Type 0} (model : M → Option (List ℕ)) (prec : P → Option (List ℕ)) (fixed : F → Option (List ℕ)) (before after : MineFiles M P F) : Type 0 where
  pub model_kept : Keeps (model before.model) (model after.model)
  pub prec_kept : Keeps (prec before.prec) (prec after.prec)
  pub fixed_kept : KeepsIfAny fixed before.fixed after.fixed
