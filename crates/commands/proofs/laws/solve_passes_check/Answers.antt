use Rattle.commands.specs.Solve.{files_of, given_by}
use Rattle.commands.proofs.Uniqueness.{passes_check}
use Rattle.commands.proofs.laws.solve_passes_check.Goals as goal

pub returns : goal.returns
returns g c files files_end other other_end certificate certificate_end = passes_check
    (files_of g.M.InBytes g.P.InBytes g.F.InBytes files files_end)
    (files_of g.N.InBytes g.Q.InBytes g.G.InBytes other other_end)
    (given_by g.C.InBytes certificate certificate_end)
