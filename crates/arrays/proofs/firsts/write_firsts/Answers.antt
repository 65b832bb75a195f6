-- One pit more has given its number to the blocks that no pit before holds.
use Rattle.std.proofs.Common.{ℕ, List, length, subst}
use Rattle.arrays.specs.Firsts.{AreTaken}
use Rattle.arrays.proofs.Taking.{one_more}
use Rattle.arrays.proofs.firsts.write_firsts.Goals as goal

pub loop-k-preserved : goal.loop-k-preserved
loop-k-preserved c =
    one_more c.args.shells.now (length c.loop-first.firsts) c.loop-k.k c.index-shells-k.result c.loop-k.firsts c.take.new.firsts c.loop-k-test.true c.loop-k.invariant
    (subst (λ (xs : List ℕ). AreTaken xs c.loop-k.k (length c.args.shells.now) (length xs) c.loop-k.firsts c.take.new.firsts) c.deref.ensures.value c.take.ensures)
