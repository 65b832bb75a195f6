-- What a journal's text is refused for lies in the text: never a seat that was refused, nor a budget.
use Rattle.std.proofs.Common.{ℕ, zero, suc, ◌++◌, length, subst, List, [], ◌∷◌, Option, Some, None, take}
use Rattle.std.specs.Prelude.{Ok, nat_lt, nat_le, ◌==◌, ◌^◌, codes}
use Rattle.std.specs.Str.{bytes_eq}
use Rattle.std.specs.List.{slice_get}
use Rattle.std.specs.Option.{ok_or}
use Rattle.faults.specs.declared.fault.Fault.{Fault}
use Rattle.faults.specs.declared.source.Source.{Source}
use Rattle.faults.specs.declared.source.Source.TheVariants.{Journal}
use Rattle.faults.specs.declared.refusal.Refusal.TheVariants.{NotWhole, CountsDiffer}
use Rattle.faults.specs.Refused.{at_line}
use Rattle.minelib_reader.specs.Text.{Row, two_of, rows_of, count_of_lines}
use Rattle.minelib_reader.specs.Number.{whole_of, digits_of}
use Rattle.minelib_reader.specs.Checks.{ok_if}
use Rattle.minelib_reader.proofs.TextFaults.{IsOfText, FailsOfText, MaybeOfText, by_option, by_test, check_of_text, maybe_of_text, then_of_text}
use Rattle.pit_model.specs.declared.journal.Entry.{Entry}
use Rattle.pit_model.specs.Graph.{Graph}
use Rattle.pit_model.specs.JournalText.{most_seat}
use Rattle.report.specs.declared.due.JournalLine.{JournalLine}
use Rattle.report.specs.declared.due.JournalLine.TheVariants.{Title, Blocks, Arcs, Budget, Count, Entries}
use Rattle.report.specs.HeadLines.{three_of, title_line, field_line, number_line, same_line}
use Rattle.report.specs.LineByLine.{state_behind, line_fault}
use Rattle.report.specs.JournalLines.{wide_field, budget_field, budget_line, entry_count_line, verdict_of, decision_line, JournalState, journal_state, entry_step, journal_step_at, journal_end_at, journal_step, journal_end, first_journal_state}
use Rattle.report.specs.JournalFault.{IsFirstJournalFault}

title_of_text : (source : Source) (word : List ℕ) (r : Row) → FailsOfText (title_line source word r)
unfolding title_line
title_of_text source word r = check_of_text _ _ tt

field_of_text : (source : Source) (word : List ℕ) (r : Row) → FailsOfText (field_line source word r)
unfolding field_line
field_of_text source word r =
    by_option (two_of r.fields) (λ e. rw e tt) (λ pair e. rw e
    (by_test (bytes_eq pair.0 word) (λ e2. rw e2 tt) (λ e2. rw e2 tt)))

number_of_text : (source : Source) (word : List ℕ) (r : Row) → FailsOfText (number_line source word r)
unfolding number_line
number_of_text source word r =
    then_of_text (field_line source word r) (λ field. ok_or (whole_of field) (at_line source NotWhole r.line)) (field_of_text source word r)
    (λ field. by_option (whole_of field) (λ e. rw e tt) (λ n e. rw e tt))

same_of_text : (source : Source) (word : List ℕ) (count : ℕ) (r : Row) → FailsOfText (same_line source word count r)
unfolding same_line
same_of_text source word count r =
    then_of_text (number_line source word r) (λ n. ok_if (n == count) (at_line source CountsDiffer r.line)) (number_of_text source word r)
    (λ n. check_of_text _ _ tt)

wide_of_text : (line : ℕ) (field : List ℕ) → FailsOfText (wide_field line field)
unfolding wide_field
wide_of_text line field =
    by_option (digits_of 20 field) (λ e. rw e tt) (λ n e. rw e
    (by_test (nat_lt n (2 ^ 64)) (λ e2. rw e2 tt) (λ e2. rw e2 tt)))

budget_field_of_text : (line : ℕ) (field : List ℕ) → FailsOfText (budget_field line field)
unfolding budget_field
budget_field_of_text line field =
    by_test (bytes_eq field (codes "none"))
    (λ e. rw e (then_of_text (wide_field line field) (λ n. Ok (Some n)) (wide_of_text line field) (λ n. tt)))
    (λ e. rw e tt)

budget_of_text : (r : Row) → FailsOfText (budget_line r)
unfolding budget_line
budget_of_text r =
    then_of_text (field_line Journal (codes "BUDGET:") r) (λ field. budget_field r.line field) (field_of_text Journal (codes "BUDGET:") r)
    (λ field. budget_field_of_text r.line field)

count_of_text : (r : Row) → FailsOfText (entry_count_line r)
unfolding entry_count_line
count_of_text r =
    then_of_text (field_line Journal (codes "ENTRIES:") r) (λ field. wide_field r.line field) (field_of_text Journal (codes "ENTRIES:") r)
    (λ field. wide_of_text r.line field)

decision_of_text : (m : ℕ) (r : Row) → FailsOfText (decision_line m r)
unfolding decision_line
decision_of_text m r =
    by_option (three_of r.fields) (λ e. rw e tt) (λ parts e. rw e
    (by_option (whole_of parts.0) (λ e2. rw e2 tt) (λ seat e2. rw e2
    (by_test (nat_le seat most_seat) (λ e3. rw e3 tt) (λ e3. rw e3
    (by_option (whole_of parts.1) (λ e4. rw e4 tt) (λ arc e4. rw e4
    (by_test (nat_lt arc m) (λ e5. rw e5 tt) (λ e5. rw e5
    (by_option (whole_of parts.2) (λ e6. rw e6 tt) (λ number e6. rw e6
    (by_option (verdict_of number) (λ e7. rw e7 tt) (λ verdict e7. rw e7 tt)))))))))))))

entry_of_text : (graph : Graph) (budget : Option ℕ) (left : ℕ) (entries : List Entry) (r : Row) → FailsOfText (entry_step graph budget left entries r)
unfolding entry_step
entry_of_text graph budget zero entries r = tt
entry_of_text graph budget (suc left) entries r =
    then_of_text (decision_line (length graph.pairs) r) (λ entry. Ok (journal_state (Entries budget left) (entries ++ entry ∷ []))) (decision_of_text (length graph.pairs) r) (λ entry. tt)

step_of_text : (graph : Graph) (due : JournalLine) (entries : List Entry) (r : Row) → FailsOfText (journal_step_at graph due entries r)
unfolding journal_step_at
step_of_text graph Title entries r = then_of_text (title_line Journal (codes "PITJOURNAL") r) (λ title. Ok (journal_state Blocks entries)) (title_of_text Journal (codes "PITJOURNAL") r) (λ title. tt)
step_of_text graph Blocks entries r = then_of_text (same_line Journal (codes "BLOCKS:") graph.blocks r) (λ same. Ok (journal_state Arcs entries)) (same_of_text Journal (codes "BLOCKS:") graph.blocks r) (λ same. tt)
step_of_text graph Arcs entries r = then_of_text (same_line Journal (codes "ARCS:") (length graph.pairs) r) (λ same. Ok (journal_state Budget entries)) (same_of_text Journal (codes "ARCS:") (length graph.pairs) r) (λ same. tt)
step_of_text graph Budget entries r = then_of_text (budget_line r) (λ budget. Ok (journal_state (Count budget) entries)) (budget_of_text r) (λ budget. tt)
step_of_text graph (Count budget) entries r = then_of_text (entry_count_line r) (λ count. Ok (journal_state (Entries budget count) entries)) (count_of_text r) (λ count. tt)
step_of_text graph (Entries budget left) entries r = entry_of_text graph budget left entries r

end_of_text : (count : ℕ) (due : JournalLine) (entries : List Entry) → FailsOfText (journal_end_at count due entries)
unfolding journal_end_at
end_of_text count Title entries = tt
end_of_text count Blocks entries = tt
end_of_text count Arcs entries = tt
end_of_text count Budget entries = tt
end_of_text count (Count budget) entries = tt
end_of_text count (Entries budget zero) entries = tt
end_of_text count (Entries budget (suc left)) entries = tt

line_of_text : (graph : Graph) (count : ℕ) (s : JournalState) (o : Option Row) → MaybeOfText (line_fault (journal_step graph) (journal_end count) s o)
line_of_text graph count s None = maybe_of_text (journal_end count s) (end_of_text count s.due s.entries)
line_of_text graph count s (Some r) = maybe_of_text (journal_step graph s r) (step_of_text graph s.due s.entries r)

pub journal_fault_of_text : (graph : Graph) (text : List ℕ) (e : Fault) → IsFirstJournalFault graph text e → IsOfText e.refusal
journal_fault_of_text graph text e is =
    subst MaybeOfText is.here
    (line_of_text graph (count_of_lines text) (state_behind (journal_step graph) first_journal_state (take is.place (rows_of text))) (slice_get (rows_of text) is.place))
