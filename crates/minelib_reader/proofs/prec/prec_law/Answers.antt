-- Both laws at the lines of a text.
use Rattle.std.proofs.Common.{refl}
use Rattle.minelib_reader.specs.Text.{rows_of}
use Rattle.minelib_reader.specs.Prec.{prec_of}
use Rattle.minelib_reader.specs.PrecFault.{prec_fault_at}
use Rattle.minelib_reader.proofs.FirstFaultLemmas.{fails_by_first}
use Rattle.minelib_reader.proofs.PrecGrammarLemmas.{reads, spelled}
use Rattle.minelib_reader.proofs.PrecFaultLemmas.{fails_first, clear_where_read}
use Rattle.minelib_reader.proofs.prec.prec_law.Goals as goal

pub returns-clause-spelled : goal.returns-clause-spelled
returns-clause-spelled c = λ n text pairs. (spelled n 0 0 (rows_of text) pairs, reads n 0 0 (rows_of text) pairs)

pub returns-clause-faulty : goal.returns-clause-faulty
returns-clause-faulty c = λ n text e. (
  fails_first n 0 0 (rows_of text) e,
  fails_by_first (prec_of n text) (prec_of n text) (prec_fault_at n text) e refl (clear_where_read n 0 0 (rows_of text)) (fails_first n 0 0 (rows_of text)),
)
