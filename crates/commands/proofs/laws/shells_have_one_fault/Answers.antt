use Rattle.commands.specs.Solve.{given_by}
use Rattle.commands.proofs.OneDepositFault.{shell_faults_once}
use Rattle.commands.proofs.laws.shells_have_one_fault.Goals as goal

pub returns : goal.returns
returns g c blocks blocks_end prec prec_end other_blocks other_blocks_end other_prec other_prec_end = shell_faults_once c.blocks_law.ensures.faulty
    (given_by g.B.InBytes blocks blocks_end)
    (given_by g.P.InBytes prec prec_end)
    (given_by g.N.InBytes other_blocks other_blocks_end)
    (given_by g.Q.InBytes other_prec other_prec_end)
