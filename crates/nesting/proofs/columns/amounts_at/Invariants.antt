-- The amounts so far are those of the blocks so far.
use Rattle.std.proofs.Common.{◌≡◌, take}
use Rattle.nesting.specs.Outermost.{amounts_of}
use Rattle.nesting.proofs.columns.amounts_at.Given as goal

abbrev pub invariant-loop-u : goal.invariant-loop-u
invariant-loop-u l = l.list.items ≡ amounts_of l.amounts (take l.u-index l.blocks)
