-- The worths of the shells so far.
use Rattle.std.proofs.Common.{◌≡◌, map, take}
use Rattle.pit_model.specs.declared.shell.Shell.{Shell}
use Rattle.arrays.proofs.nested.worths_of.Given as goal

abbrev pub invariant-loop-shell : goal.invariant-loop-shell
invariant-loop-shell l = l.worths.items ≡ map (λ (shell : Shell). shell.worth) (take l.shell-index l.shells)
