-- What `parse_lines` answers is what is read of the text, and the laws say what that is.
use Rattle.std.proofs.Common.{subst}
use Rattle.minelib_reader.specs.Answer.{Gives}
use Rattle.minelib_reader.specs.Text.{rows_of}
use Rattle.minelib_reader.specs.Blocks.{table_of}
use Rattle.minelib_reader.specs.BlocksFault.{IsFirstTableFault}
use Rattle.minelib_reader.specs.BlocksGrammar.{SpellsTable}
use Rattle.minelib_reader.proofs.AnswerLemmas.{value_told, fault_told}
use Rattle.minelib_reader.proofs.BlocksGrammarLemmas.{reads, spelled}
use Rattle.minelib_reader.proofs.BlocksFaultLemmas.{fails_first}
use Rattle.minelib_reader.proofs.blocks.parse_watched.Goals as goal

pub returns-clause-spelled : goal.returns-clause-spelled
returns-clause-spelled c =
    let text = c.args.text.now in
    value_told (λ t. t) c.parse_lines.result (table_of text) (SpellsTable text) (spelled (rows_of text)) c.parse_lines.ensures

pub returns-clause-read : goal.returns-clause-read
returns-clause-read c = λ t s. subst (λ f. Gives (λ t. t) c.parse_lines.result f) (reads (rows_of c.args.text.now) t s) c.parse_lines.ensures

pub returns-clause-first_fault : goal.returns-clause-first_fault
returns-clause-first_fault c =
    let text = c.args.text.now in
    fault_told (λ t. t) c.parse_lines.result (table_of text) (IsFirstTableFault text) (fails_first (rows_of text)) c.parse_lines.ensures
