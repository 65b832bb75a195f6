-- Both laws at the lines of a text.
use Rattle.std.proofs.Common.{refl}
use Rattle.minelib_reader.specs.Text.{rows_of}
use Rattle.minelib_reader.specs.Fixed.{fixed_blocks_of}
use Rattle.minelib_reader.specs.FixedFault.{fixed_fault_at}
use Rattle.minelib_reader.proofs.FirstFaultLemmas.{fails_by_first}
use Rattle.minelib_reader.proofs.FixedGrammarLemmas.{reads, spelled}
use Rattle.minelib_reader.proofs.FixedFaultLemmas.{fails_first, clear_where_read}
use Rattle.minelib_reader.proofs.fixed.fixed_law.Goals as goal

pub returns-clause-spelled : goal.returns-clause-spelled
returns-clause-spelled c = λ n text lists. (spelled n 0 (rows_of text) lists, reads n 0 (rows_of text) lists)

pub returns-clause-faulty : goal.returns-clause-faulty
returns-clause-faulty c = λ n text e. (
  fails_first n 0 (rows_of text) e,
  fails_by_first (fixed_blocks_of n text) (fixed_blocks_of n text) (fixed_fault_at n text) e refl (clear_where_read n 0 (rows_of text)) (fails_first n 0 (rows_of text)),
)
