-- The checks of a line stand in a row: what one gives goes to those behind it, and the first that fails is the fault.
use Rattle.std.specs.Prelude.{Bool, Result}
use Rattle.std.specs.Bool.{then_some}
use Rattle.std.specs.Option.{ok_or}
use Rattle.std.specs.Result.{result_map_both, result_flatten}
use Rattle.faults.specs.declared.fault.Fault.{Fault}

-- `do` puts checks in a row by this
infixl 10 ◌>>=◌
abbrev pub ◌>>=◌ : {A B : Type 0} → Result A Fault → (A → Result B Fault) → Result B Fault
first >>= behind = result_flatten (result_map_both behind (λ fault. fault) first)

-- a test, or else this fault
abbrev pub ok_if : Bool → Fault → Result (Unit {0}) Fault
ok_if test fault = ok_or (then_some test tt) fault
