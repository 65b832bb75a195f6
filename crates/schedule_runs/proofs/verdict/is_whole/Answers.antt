-- A schedule of whole blocks keeps strict precedence, by the law.
use Rattle.std.proofs.Common.{arith}
use Rattle.schedule_model.specs.Schedule.{whole_block}
use Rattle.schedule_runs.proofs.verdict.is_whole.Goals as goal

pub returns : goal.returns
returns c =
    let whole = c.are_blocks_whole.ensures in
    record {
      yes = whole.yes;
      order = λ is. c.whole_blocks_keep_order.ensures c.args.problem.now whole_block c.args.shares.now c.law.ensures.graph.in_range (omega arith) c.requires.schedule (whole.yes is);
      no = whole.no;
    }
