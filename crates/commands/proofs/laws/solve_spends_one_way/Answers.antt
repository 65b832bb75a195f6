use Rattle.commands.specs.Solve.{files_of}
use Rattle.commands.proofs.OneBudget.{spends_one_way}
use Rattle.commands.proofs.laws.solve_spends_one_way.Goals as goal

pub returns : goal.returns
returns g c files files_end other other_end = spends_one_way
    (files_of g.M.InBytes g.P.InBytes g.F.InBytes files files_end)
    (files_of g.N.InBytes g.Q.InBytes g.G.InBytes other other_end)
