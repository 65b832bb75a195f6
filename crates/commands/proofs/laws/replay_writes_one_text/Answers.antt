use Rattle.commands.specs.Solve.{files_of, given_by}
use Rattle.commands.proofs.OneReplay.{replays_once}
use Rattle.commands.proofs.laws.replay_writes_one_text.Goals as goal

pub returns : goal.returns
returns g c files files_end other other_end journal journal_end other_journal other_journal_end = replays_once
    (files_of g.M.InBytes g.P.InBytes g.F.InBytes files files_end)
    (files_of g.N.InBytes g.Q.InBytes g.G.InBytes other other_end)
    (given_by g.J.InBytes journal journal_end)
    (given_by g.K.InBytes other_journal other_journal_end)
