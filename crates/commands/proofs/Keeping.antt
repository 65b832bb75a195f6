-- A reader that was not called keeps what it knows.
use Rattle.std.specs.Prelude.{ℕ, List, Option, None, Some}
use Rattle.std.proofs.KnownBytes.{Keeps-refl}
use Rattle.std.specs.Io.KnownBytes.{Keeps}
use Rattle.commands.specs.Kept.{KeepsIfAny}

pub still_kept : (known : Option (List ℕ)) → Keeps known known
still_kept known = Keeps-refl known

pub still_kept_if_any : {F : Type 0} → (known : F → Option (List ℕ)) → (reader : Option F) → KeepsIfAny known reader reader
still_kept_if_any known None = tt
still_kept_if_any known (Some reader) = Keeps-refl (known reader)
