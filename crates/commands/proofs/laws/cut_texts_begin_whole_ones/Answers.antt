use Rattle.commands.specs.Solve.{files_of, given_by}
use Rattle.commands.proofs.CutShort.{cuts_answer, cuts_pit, cuts_replay, cuts_shells}
use Rattle.commands.proofs.laws.cut_texts_begin_whole_ones.Goals as goal

pub returns-clause-solve : goal.returns-clause-solve
returns-clause-solve g c files files_end other other_end = cuts_pit
    (files_of g.M.InBytes g.P.InBytes g.F.InBytes files files_end)
    (files_of g.N.InBytes g.Q.InBytes g.G.InBytes other other_end)

pub returns-clause-shells : goal.returns-clause-shells
returns-clause-shells g c blocks blocks_end prec prec_end other_blocks other_blocks_end other_prec other_prec_end = cuts_shells
    (given_by g.M.InBytes blocks blocks_end)
    (given_by g.P.InBytes prec prec_end)
    (given_by g.N.InBytes other_blocks other_blocks_end)
    (given_by g.Q.InBytes other_prec other_prec_end)

pub returns-clause-check : goal.returns-clause-check
returns-clause-check g c files files_end other other_end last last_end other_last other_last_end = cuts_answer
    (files_of g.M.InBytes g.P.InBytes g.F.InBytes files files_end)
    (files_of g.N.InBytes g.Q.InBytes g.G.InBytes other other_end)
    (given_by g.L.InBytes last last_end)
    (given_by g.K.InBytes other_last other_last_end)

pub returns-clause-replay : goal.returns-clause-replay
returns-clause-replay g c files files_end other other_end last last_end other_last other_last_end = cuts_replay
    (files_of g.M.InBytes g.P.InBytes g.F.InBytes files files_end)
    (files_of g.N.InBytes g.Q.InBytes g.G.InBytes other other_end)
    (given_by g.L.InBytes last last_end)
    (given_by g.K.InBytes other_last other_last_end)
