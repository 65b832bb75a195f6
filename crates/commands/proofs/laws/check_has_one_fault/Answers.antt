use Rattle.commands.specs.Solve.{files_of, given_by}
use Rattle.commands.proofs.OneCheck.{check_faults_once}
use Rattle.commands.proofs.laws.check_has_one_fault.Goals as goal

pub returns : goal.returns
returns g c files files_end other other_end certificate certificate_end other_certificate other_certificate_end = check_faults_once
    (files_of g.M.InBytes g.P.InBytes g.F.InBytes files files_end)
    (files_of g.N.InBytes g.Q.InBytes g.G.InBytes other other_end)
    (given_by g.C.InBytes certificate certificate_end)
    (given_by g.D.InBytes other_certificate other_certificate_end)
