-- Both laws at the lines of a text.
use Rattle.std.proofs.Common.{refl}
use Rattle.minelib_reader.specs.Text.{rows_of}
use Rattle.minelib_reader.specs.Blocks.{table_of}
use Rattle.minelib_reader.specs.BlocksFault.{table_fault_at}
use Rattle.minelib_reader.proofs.FirstFaultLemmas.{fails_by_first}
use Rattle.minelib_reader.proofs.BlocksGrammarLemmas.{reads, spelled}
use Rattle.minelib_reader.proofs.BlocksFaultLemmas.{fails_first, clear_where_read}
use Rattle.minelib_reader.proofs.blocks.blocks_law.Goals as goal

pub returns-clause-spelled : goal.returns-clause-spelled
returns-clause-spelled c = λ text t. (spelled (rows_of text) t, reads (rows_of text) t)

pub returns-clause-faulty : goal.returns-clause-faulty
returns-clause-faulty c = λ text e. (
  fails_first (rows_of text) e,
  fails_by_first (table_of text) (table_of text) (table_fault_at text) e refl (clear_where_read (rows_of text)) (fails_first (rows_of text)),
)
