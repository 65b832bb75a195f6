-- Where the certificate is refused, the journal that was made before it was ended, and is not kept.
use Rattle.std.proofs.Common.{sym}
use Rattle.commands.specs.Made.{no_certificate}
use Rattle.commands.proofs.make_outputs.make_outputs.Goals as goal

pub returns-in-Err-clause-spared : goal.returns-in-Err-clause-spared
returns-in-Err-clause-spared g c =
    rw (sym c.journal_wanted.ensures, sym c.certificate_wanted-path.ensures)
    (no_certificate c.make_journal_if_any.new.files c.make_certificate_if_any.new.files _ c.end_journal_if_any.result
    c.in_ok-journal.ensures.made c.in-Err.ensures.spared (rw (sym c.in_ok-journal.ensures.named) c.end_journal_if_any.ensures))
