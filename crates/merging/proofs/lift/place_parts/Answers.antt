-- One part more.
use Rattle.std.proofs.Common.{sym}
use Rattle.merging.proofs.Joining.{placed_more}
use Rattle.merging.proofs.lift.place_parts.Goals as goal

pub loop-i-preserved : goal.loop-i-preserved
loop-i-preserved c =
    placed_more c.args.instance.now c.args.parts.now c.law.ensures c.requires.solved c.loop-i.i c.index-parts-i.result (c.loop-i-test.true, sym c.index-parts-i.is)
    c.loop-i.marks c.place_part.new.marks c.loop-i.flow c.place_part.new.flow c.loop-i.invariant c.place_part.ensures.marked c.place_part.ensures.carried
