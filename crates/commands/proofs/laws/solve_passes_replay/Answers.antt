use Rattle.commands.specs.Solve.{files_of, given_by}
use Rattle.commands.proofs.ReplayOnce.{passes_replay}
use Rattle.commands.proofs.ReplaySpends.{spends_replay}
use Rattle.commands.proofs.ReplayTakes.{takes_replay}
use Rattle.commands.proofs.laws.solve_passes_replay.Goals as goal

pub returns-clause-done : goal.returns-clause-done
returns-clause-done g c files files_end other other_end journal journal_end = passes_replay
    (files_of g.M.InBytes g.P.InBytes g.F.InBytes files files_end)
    (files_of g.N.InBytes g.Q.InBytes g.G.InBytes other other_end)
    (given_by g.J.InBytes journal journal_end)

pub returns-clause-spent : goal.returns-clause-spent
returns-clause-spent g c files files_end other other_end journal journal_end = spends_replay
    (files_of g.M.InBytes g.P.InBytes g.F.InBytes files files_end)
    (files_of g.N.InBytes g.Q.InBytes g.G.InBytes other other_end)
    (given_by g.J.InBytes journal journal_end)

pub returns-clause-taken : goal.returns-clause-taken
returns-clause-taken g c files files_end other other_end journal journal_end = takes_replay
    (files_of g.M.InBytes g.P.InBytes g.F.InBytes files files_end)
    (files_of g.N.InBytes g.Q.InBytes g.G.InBytes other other_end)
    (given_by g.J.InBytes journal journal_end)
