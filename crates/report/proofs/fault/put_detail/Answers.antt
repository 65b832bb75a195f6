-- The count, and the word behind it.
use Rattle.std.proofs.Common.{ap, sym}
use Rattle.report.specs.FaultText.{detail_of}
use Rattle.report.proofs.PutLemmas.{puts_then, puts_as}
use Rattle.report.proofs.fault.put_detail.Goals as goal

pub returns-in-Exhausted-clause-puts : goal.returns-in-Exhausted-clause-puts
unfolding detail_of
returns-in-Exhausted-clause-puts g c =
    puts_as (ap detail_of (sym c.in-Exhausted.is)) (puts_then _ _ _ _ _ _ _ _ c.put_number-in-Exhausted.ensures.puts c.put.ensures.puts)
