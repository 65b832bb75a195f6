-- What the closure of a mode says of each rest, the mode says.
use Rattle.std.proofs.Common.{ℕ, List}
use Rattle.std.specs.Prelude.{Some, None}
use Rattle.pit_model.specs.declared.direction.Direction.{Direction}
use Rattle.pit_model.specs.Mine.{Instance}
use Rattle.pit_model.specs.Deposit.{Deposit}
use Rattle.nesting.specs.Grown.{EndsEachRest, EndsRest}
use Rattle.solver.specs.declared.mode.Mode.{Mode}
use Rattle.solver.specs.declared.mode.Mode.TheVariants.{Single, Parts, Shared}
use Rattle.solver.specs.Modes.{EndsWithin}
use Rattle.shells.specs.ByMode.{EachEndsWithin, RestEndsWithin}

rest_ends : (mode : Mode) (direction : Direction) (deposit : Deposit) (factors : List ℕ) (k : ℕ) → EndsRest (EndsWithin mode) direction deposit factors k → RestEndsWithin mode direction deposit factors k
rest_ends (Single (Some budget)) direction deposit factors k ends = ends
rest_ends (Single None) direction deposit factors k ends = tt
rest_ends Parts direction deposit factors k ends = tt
rest_ends (Shared workers budget chunk) direction deposit factors k ends = ends

pub each_ends : (mode : Mode) (direction : Direction) (deposit : Deposit) (factors : List ℕ) (Ends : Instance → Type 0) → ((mine : Instance) → Ends mine → EndsWithin mode mine)
    → EndsEachRest Ends direction deposit factors → EachEndsWithin mode direction deposit factors
each_ends mode direction deposit factors Ends within ends k l =
    let rest = ends k l in
    rest_ends mode direction deposit factors k (rest.0, rest.1, (rest.2.0, rest.2.1, within rest.2.0 rest.2.2))
