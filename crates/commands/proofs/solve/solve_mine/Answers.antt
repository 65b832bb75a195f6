-- Beside the greatest pit there is no writer: where there is one, the least pit is asked for.
use Rattle.std.proofs.Common.{rules, ◌≡◌}
use Rattle.pit_model.specs.declared.direction.Direction.TheVariants.{Least}
use Rattle.commands.proofs.solve.solve_mine.Goals as goal

pub returns-clause-within : goal.returns-clause-within
returns-clause-within g c =
    let least : c.args.search.now.direction ≡ Least = search rules in
    rw (least) c.recorded_pit.ensures.within

pub returns-clause-refused : goal.returns-clause-refused
returns-clause-refused g c =
    let least : c.args.search.now.direction ≡ Least = search rules in
    rw (least) c.recorded_pit.ensures.refused
