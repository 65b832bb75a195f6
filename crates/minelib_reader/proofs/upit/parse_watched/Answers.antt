-- What `parse_lines` answers is what is read of the text, and the laws say what that is.
use Rattle.std.proofs.Common.{subst}
use Rattle.minelib_reader.specs.Answer.{Gives}
use Rattle.minelib_reader.specs.Text.{rows_of, count_of_lines}
use Rattle.minelib_reader.specs.Upit.{upit, upit_of}
use Rattle.minelib_reader.specs.UpitFault.{IsFirstUpitFault}
use Rattle.minelib_reader.specs.UpitGrammar.{SpellsUpit}
use Rattle.minelib_reader.proofs.AnswerLemmas.{value_told, fault_told}
use Rattle.minelib_reader.proofs.UpitGrammarLemmas.{reads, spelled}
use Rattle.minelib_reader.proofs.UpitFaultLemmas.{fails_first}
use Rattle.minelib_reader.proofs.upit.parse_watched.Goals as goal

pub returns-clause-spelled : goal.returns-clause-spelled
returns-clause-spelled c =
    let text = c.args.text.now in
    value_told (λ m. upit m.n m.values.items) c.parse_lines.result (upit_of text) (SpellsUpit text) (spelled (count_of_lines text) (rows_of text)) c.parse_lines.ensures.exact

pub returns-clause-read : goal.returns-clause-read
returns-clause-read c = λ m s.
    let text = c.args.text.now in
    subst (λ f. Gives (λ m. upit m.n m.values.items) c.parse_lines.result f) (reads (count_of_lines text) (rows_of text) m s) c.parse_lines.ensures.exact

pub returns-clause-first_fault : goal.returns-clause-first_fault
returns-clause-first_fault c =
    let text = c.args.text.now in
    fault_told (λ m. upit m.n m.values.items) c.parse_lines.result (upit_of text) (IsFirstUpitFault text) (fails_first (count_of_lines text) (rows_of text)) c.parse_lines.ensures.exact
