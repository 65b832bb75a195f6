-- First room, then the text behind what waits.
use Rattle.report.proofs.PutLemmas.{puts_append}
use Rattle.report.proofs.out.put.Goals as goal

pub returns-clause-puts : goal.returns-clause-puts
returns-clause-puts g c = puts_append _ _ _ _ _ _ c.make_room.ensures.puts c.append.ensures.bytes c.append.ensures.failed
