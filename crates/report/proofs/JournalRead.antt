-- What is spelled is read: the head, and the entries, one line after the other.
use Rattle.std.proofs.Common.{◌≡◌, ℕ, suc, List, [], ◌∷◌, ◌++◌, length, Option, Ok, Err, refl, sym, ap, ◌∙◌, append_assoc}
use Rattle.std.specs.Prelude.{codes}
use Rattle.std.proofs.lemmas.List.{append-nil}
use Rattle.faults.specs.declared.fault.Fault.{Fault}
use Rattle.faults.specs.declared.refusal.Refusal.TheVariants.{AfterEnd}
use Rattle.faults.specs.declared.source.Source.TheVariants.{Journal}
use Rattle.minelib_reader.specs.Text.{Row}
use Rattle.pit_model.specs.declared.journal.Entry.{Entry}
use Rattle.pit_model.specs.Graph.{Graph}
use Rattle.report.specs.declared.due.JournalLine.TheVariants.{Entries}
use Rattle.report.specs.HeadLines.{SpellsNumber}
use Rattle.report.specs.LineByLine.{read_from}
use Rattle.report.specs.JournalLines.{BudgetAndEntries, budget_and_entries, in_journal, journal_state, first_journal_state, decision_line, budget_line, entry_count_line, entry_step, journal_step_at, journal_end_at, journal_step, journal_end}
use Rattle.report.specs.JournalGrammar.{SpellsEntries, SpellsJournalRows}
use Rattle.report.proofs.HeadRead.{reads_title, reads_same}
use Rattle.report.proofs.JournalLinesRead.{reads_budget, reads_count, reads_entry}
use Rattle.report.proofs.ReadingOn.{read_on}

module _ (graph : Graph) (budget : Option ℕ) (r : Row) where
  pub no_entry : (left : ℕ) (entries : List Entry) → left ≡ 0 → entry_step graph budget left entries r ≡ Err (in_journal AfterEnd r.line)
  unfolding entry_step
  no_entry left entries none = rw none refl

  pub next_entry : (left rest m : ℕ) (entry : Entry) (entries : List Entry) → left ≡ suc rest → m ≡ length graph.pairs → decision_line m r ≡ Ok entry
      → entry_step graph budget left entries r ≡ Ok (journal_state (Entries budget rest) (entries ++ entry ∷ []))
  unfolding entry_step
  next_entry left rest m entry entries more is h = let here = ap (λ k. decision_line k r) (sym is) ∙ h in rw (more, here) refl

  pub next_entry_fails : (e : Fault) (left rest m : ℕ) (entries : List Entry) → left ≡ suc rest → m ≡ length graph.pairs → decision_line m r ≡ Err e
      → entry_step graph budget left entries r ≡ Err e
  unfolding entry_step
  next_entry_fails e left rest m entries more is h = let here = ap (λ k. decision_line k r) (sym is) ∙ h in rw (more, here) refl

module _ (graph : Graph) (count : ℕ) where
  ended : (budget : Option ℕ) (entries : List Entry) → read_from (journal_step graph) (journal_end count) (journal_state (Entries budget 0) entries) [] ≡ Ok (budget_and_entries budget entries)
  unfolding read_from journal_end_at
  ended budget entries = refl

  entry_read : (budget : Option ℕ) (left : ℕ) (front : List Entry) (r : Row) (entry : Entry) → decision_line (length graph.pairs) r ≡ Ok entry
      → journal_step_at graph (Entries budget (suc left)) front r ≡ Ok (journal_state (Entries budget left) (front ++ entry ∷ []))
  unfolding journal_step_at
  entry_read budget left front r entry h = next_entry graph budget r (suc left) left (length graph.pairs) entry front refl refl h

  entries_read : (budget : Option ℕ) (rows : List Row) (front entries : List Entry) → SpellsEntries (length graph.pairs) rows entries
      → read_from (journal_step graph) (journal_end count) (journal_state (Entries budget (length entries)) front) rows ≡ Ok (budget_and_entries budget (front ++ entries))
  entries_read budget [] front [] s = ended budget front ∙ ap (λ (es : List Entry). Ok (budget_and_entries budget es)) (sym (append-nil front))
  entries_read budget [] front (entry ∷ entries) s = absurd s
  entries_read budget (r ∷ rows) front [] s = absurd s
  entries_read budget (r ∷ rows) front (entry ∷ entries) s =
      read_on (journal_step graph) (journal_end count) (journal_state (Entries budget (suc (length entries))) front) (journal_state (Entries budget (length entries)) (front ++ entry ∷ [])) r rows
      (entry_read budget (length entries) front r entry (reads_entry (length graph.pairs) r entry s.0))
      ∙ entries_read budget rows (front ++ entry ∷ []) entries s.1
      ∙ ap (λ (es : List Entry). Ok (budget_and_entries budget es)) (append_assoc front (entry ∷ []) entries)

  head_read : (title blocks arcs most many : Row) (rows : List Row) (budget : Option ℕ) (n : ℕ) → title.fields ≡ codes "PITJOURNAL" ∷ codes "1" ∷ []
      → SpellsNumber (codes "BLOCKS:") graph.blocks blocks → SpellsNumber (codes "ARCS:") (length graph.pairs) arcs → budget_line most ≡ Ok budget → entry_count_line many ≡ Ok n
      → read_from (journal_step graph) (journal_end count) first_journal_state (title ∷ blocks ∷ arcs ∷ most ∷ many ∷ rows) ≡ read_from (journal_step graph) (journal_end count) (journal_state (Entries budget n) []) rows
  unfolding read_from journal_step_at
  head_read title blocks arcs most many rows budget n t b a is_budget is_count =
      rw (reads_title Journal (codes "PITJOURNAL") title t, reads_same Journal (codes "BLOCKS:") graph.blocks blocks b, reads_same Journal (codes "ARCS:") (length graph.pairs) arcs a, is_budget, is_count) refl

  pub reads : (rows : List Row) (j : BudgetAndEntries) → SpellsJournalRows graph rows j → read_from (journal_step graph) (journal_end count) first_journal_state rows ≡ Ok j
  reads rows j s =
      ap (read_from (journal_step graph) (journal_end count) first_journal_state) s.are
      ∙ head_read s.title s.blocks s.arcs s.budget s.count s.decisions j.budget (length j.entries) s.is_title s.names_blocks s.names_arcs
      (reads_budget s.budget_field j.budget s.budget s.names_budget s.is_budget) (reads_count s.count_field (length j.entries) s.count s.names_count s.is_count)
      ∙ entries_read j.budget s.decisions [] j.entries s.entries
