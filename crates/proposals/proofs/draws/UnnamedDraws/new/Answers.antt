-- At the start the counter is 0 and nothing is drawn.
use Rattle.std.proofs.Common.{arith}
use Rattle.proposals.proofs.Drawing.{may_begin}
use Rattle.proposals.proofs.draws.UnnamedDraws.new.Goals as goal

pub of_words-requires : goal.of_words-requires
of_words-requires c = may_begin c.args.chunks c.args.seats (omega arith) (omega arith)
