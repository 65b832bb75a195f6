-- Both laws at the lines of a text.
use Rattle.std.proofs.Common.{refl}
use Rattle.minelib_reader.specs.Text.{rows_of, count_of_lines}
use Rattle.minelib_reader.specs.Upit.{upit_of}
use Rattle.minelib_reader.specs.UpitFault.{upit_fault_at}
use Rattle.minelib_reader.proofs.FirstFaultLemmas.{fails_by_first}
use Rattle.minelib_reader.proofs.UpitGrammarLemmas.{reads, spelled}
use Rattle.minelib_reader.proofs.UpitFaultLemmas.{fails_first, clear_where_read}
use Rattle.minelib_reader.proofs.upit.upit_law.Goals as goal

pub returns-clause-spelled : goal.returns-clause-spelled
returns-clause-spelled c = λ text m. (spelled (count_of_lines text) (rows_of text) m, reads (count_of_lines text) (rows_of text) m)

pub returns-clause-faulty : goal.returns-clause-faulty
returns-clause-faulty c = λ text e. (
  fails_first (count_of_lines text) (rows_of text) e,
  fails_by_first (upit_of text) (upit_of text) (upit_fault_at text) e refl (clear_where_read (count_of_lines text) (rows_of text)) (fails_first (count_of_lines text) (rows_of text)),
)
