use Rattle.commands.specs.Solve.{files_of}
use Rattle.commands.proofs.Uniqueness.{solves_once}
use Rattle.commands.proofs.laws.solve_writes_one_text.Goals as goal

pub returns : goal.returns
returns g c files files_end other other_end = solves_once
    (files_of g.M.InBytes g.P.InBytes g.F.InBytes files files_end)
    (files_of g.N.InBytes g.Q.InBytes g.G.InBytes other other_end)
