-- The test says whether both lists are empty.
use Rattle.certificate.proofs.LinesRead.{is_nothing}
use Rattle.certificate.proofs.head.fixes_nothing.Goals as goal

pub returns : goal.returns
returns c = is_nothing c.args.fixed.now.lists c.is_empty.result c.is_empty.ensures
