-- The law, as it is shown of what is written.
use Rattle.report.proofs.JournalWritten as journals
use Rattle.report.proofs.journal_reader.journal_reads_back.Goals as goal

pub returns : goal.returns
returns c = journals.journal_reads_back
