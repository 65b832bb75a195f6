-- A pit that was found is one that may be found.
use Rattle.std.proofs.Common.{ℕ, Result, Ok, Err, IfOk}
use Rattle.std.specs.Global.{Vec}
use Rattle.faults.specs.declared.fault.Fault.{Fault}

pub some_found : (Returns : Result (Vec ℕ) Fault → Type 0) (r : Result (Vec ℕ) Fault) → Returns r → IfOk r (λ x. (pit : Vec ℕ) × Returns (Ok pit))
some_found Returns (Ok pit) is = (pit, is)
some_found Returns (Err e) is = tt
