-- The numbers of a range, collected, are those of the range.
use Rattle.std.proofs.Common.{refl, arith}
use Rattle.std.proofs.lemmas.Iterator.{items_from_collect, YieldsList-from_range}
use Rattle.mine_graph.proofs.numbers.all_numbers.Goals as goal

pub returns : goal.returns
returns c = items_from_collect c.collect.result c.collect.ensures.ran (YieldsList-from_range 0 c.args.n c.args.n refl (omega arith))
