use Rattle.schedule_model.proofs.WholeBlocks.{whole_blocks_keep_order}
use Rattle.schedule_model.proofs.whole_blocks_keep_order.Goals as goal

pub returns : goal.returns
returns c = whole_blocks_keep_order
