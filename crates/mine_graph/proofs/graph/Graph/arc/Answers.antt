-- A pair is its first and its second.
use Rattle.std.proofs.Common.{get_or}
use Rattle.csr.proofs.Spelled.{pair_same}
use Rattle.mine_graph.proofs.graph.Graph.arc.Goals as goal

pub returns : goal.returns
returns c = pair_same (c.first-u.result, c.needed.result) (get_or c.args.self.now.pairs c.args.k (0, 0)) c.first-u.ensures c.needed.ensures
