-- One shell more is lifted.
use Rattle.nesting.proofs.Lifting.{none_lifted}
use Rattle.nesting.proofs.outermost.lift_each.Goals as goal

pub loop-i-init : goal.loop-i-init
loop-i-init c = none_lifted c.args.n c.args.blocks.now c.args.shells.now c.new-lifted.result.items c.new-lifted.ensures.items
