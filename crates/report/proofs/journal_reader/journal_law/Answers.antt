-- Both laws at the lines of a text.
use Rattle.std.proofs.Common.{refl}
use Rattle.minelib_reader.specs.Text.{rows_of, count_of_lines}
use Rattle.minelib_reader.proofs.FirstFaultLemmas.{fails_by_first}
use Rattle.report.specs.JournalLines.{journal_of, first_journal_state, journal_step, journal_end}
use Rattle.report.specs.JournalFault.{journal_fault_at}
use Rattle.report.proofs.JournalRead.{reads}
use Rattle.report.proofs.JournalFound.{spelled}
use Rattle.report.proofs.FirstFaults.{fails_first, clear_where_read}
use Rattle.report.proofs.journal_reader.journal_law.Goals as goal

pub returns-clause-spelled : goal.returns-clause-spelled
returns-clause-spelled c = λ graph text j. (spelled graph (count_of_lines text) (rows_of text) j, reads graph (count_of_lines text) (rows_of text) j)

pub returns-clause-faulty : goal.returns-clause-faulty
returns-clause-faulty c = λ graph text e. (
  fails_first (journal_step graph) (journal_end (count_of_lines text)) first_journal_state (rows_of text) e,
  fails_by_first (journal_of graph text) (journal_of graph text) (journal_fault_at graph text) e refl
      (clear_where_read (journal_step graph) (journal_end (count_of_lines text)) first_journal_state (rows_of text)) (fails_first (journal_step graph) (journal_end (count_of_lines text)) first_journal_state (rows_of text)),
)
