-- A loop that goes up a list and leaves each element with a property.
use Rattle.std.proofs.Common.{ℕ, ◌+◌, ◌<◌, List, [], ◌∷◌, length, take, set, sym, subst}
use Rattle.std.specs.List.{All}
use Rattle.std.proofs.lemmas.List.{take_more_set}
use Rattle.std.proofs.lemmas.List.Elements.{All-append, All-cons, All-nil}

pub one_more : {X : Type 0} (P : X → Type 0) (xs : List X) (i : ℕ) (y : X) → i < length xs → All P (take i xs) → P y → All P (take (i + 1) (set xs i y))
one_more P xs i y lt all it = subst (All P) (sym (take_more_set xs i y lt)) (All-append P (take i xs) (y ∷ []) all (All-cons P y [] it (All-nil P)))
