-- The block, a space, the factor, the end of the line.
use Rattle.std.proofs.Common.{ap}
use Rattle.std.specs.Prelude.{decimal}
use Rattle.pit_model.specs.ShellText.{block_factor_line}
use Rattle.report.proofs.PutLemmas.{puts_then, puts_as}
use Rattle.report.proofs.shells.put_block.Goals as goal

pub returns-clause-puts : goal.returns-clause-puts
unfolding block_factor_line
returns-clause-puts g c =
    let two = puts_then _ _ _ _ _ _ _ _ c.put_number.ensures.puts c.put.ensures.puts in
    let three = puts_then _ _ _ _ _ _ _ _ two (puts_as (ap decimal c.first_factor_of.ensures) c.put_number-2.ensures.puts) in
    puts_then _ _ _ _ _ _ _ _ three c.end_line.ensures.puts
