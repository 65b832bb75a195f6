-- What `parse_lines` answers is what is read of the text, and the laws say what that is.
use Rattle.std.proofs.Common.{subst, length}
use Rattle.minelib_reader.specs.Answer.{Gives}
use Rattle.minelib_reader.specs.Text.{rows_of, count_of_lines}
use Rattle.minelib_reader.proofs.AnswerLemmas.{value_told, fault_told}
use Rattle.pit_model.specs.JournalText.{AreSeatedBelow}
use Rattle.report.specs.JournalLines.{journal_of, first_journal_state, budget_and_entries, journal_step, journal_end}
use Rattle.report.specs.JournalFault.{IsFirstJournalFault}
use Rattle.report.specs.JournalGrammar.{SpellsJournal}
use Rattle.report.proofs.JournalRead.{reads}
use Rattle.report.proofs.JournalFound.{spelled, seated}
use Rattle.report.proofs.FirstFaults.{fails_first}
use Rattle.report.proofs.journal_reader.parse_journal.Goals as goal

pub returns-clause-spelled : goal.returns-clause-spelled
returns-clause-spelled c =
    let g = c.args.graph.now in
    let text = c.args.text.now in
    value_told (λ j. budget_and_entries j.budget j.entries.items) c.parse_lines.result (journal_of g text) (SpellsJournal g text)
    (spelled g (count_of_lines text) (rows_of text)) c.parse_lines.ensures.exact

pub returns-clause-read : goal.returns-clause-read
returns-clause-read c j s =
    let g = c.args.graph.now in
    let text = c.args.text.now in
    subst (λ f. Gives (λ j. budget_and_entries j.budget j.entries.items) c.parse_lines.result f) (reads g (count_of_lines text) (rows_of text) j s) c.parse_lines.ensures.exact

pub returns-clause-first_fault : goal.returns-clause-first_fault
returns-clause-first_fault c =
    let g = c.args.graph.now in
    let text = c.args.text.now in
    fault_told (λ j. budget_and_entries j.budget j.entries.items) c.parse_lines.result (journal_of g text) (IsFirstJournalFault g text)
    (fails_first (journal_step g) (journal_end (count_of_lines text)) first_journal_state (rows_of text)) c.parse_lines.ensures.exact

pub returns-clause-seated : goal.returns-clause-seated
returns-clause-seated c =
    let g = c.args.graph.now in
    let text = c.args.text.now in
    value_told (λ j. budget_and_entries j.budget j.entries.items) c.parse_lines.result (journal_of g text) (λ j. AreSeatedBelow (length g.pairs) j.entries)
    (λ j e. seated (length g.pairs) _ j.entries (spelled g (count_of_lines text) (rows_of text) j e).entries) c.parse_lines.ensures.exact
