use Rattle.optimality.proofs.Visiting.{passed_by, visited}
use Rattle.optimality.proofs.reach.visit.Goals as goal

pub returns-then-inside-block : goal.returns-then-inside-block
returns-then-inside-block c = visited c.args.inside.now c.args.block c.args.search.now c.visit.new.self c.if-inside-block.true c.visit.ensures

pub returns-else-inside-block : goal.returns-else-inside-block
returns-else-inside-block c = passed_by c.args.inside.now c.args.block c.args.search.now c.if-inside-block.false c.requires.trail
