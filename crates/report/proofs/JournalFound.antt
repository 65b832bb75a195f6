-- What is read is spelled: the head, and the entries, one line after the other.
use Rattle.std.proofs.Common.{◌≡◌, ℕ, zero, suc, ◌<◌, ◌≤◌, List, [], ◌∷◌, ◌++◌, length, Option, None, Result, Ok, refl, sym, ap, subst, ◌∙◌, append_assoc}
use Rattle.std.specs.Prelude.{codes}
use Rattle.std.proofs.lemmas.List.{append-nil}
use Rattle.faults.specs.declared.fault.Fault.{Fault}
use Rattle.faults.specs.declared.source.Source.TheVariants.{Journal}
use Rattle.minelib_reader.specs.Text.{Row}
use Rattle.minelib_reader.proofs.CheckLemmas.{passed, passing, same_value}
use Rattle.pit_model.specs.declared.journal.Entry.{Entry}
use Rattle.pit_model.specs.Graph.{Graph}
use Rattle.pit_model.specs.JournalText.{most_seat, AreSeatedBelow}
use Rattle.std.proofs.lemmas.List.Elements.{All-cons, All-nil}
use Rattle.report.specs.declared.due.JournalLine.TheVariants.{Title, Blocks, Arcs, Budget, Count, Entries}
use Rattle.report.specs.HeadLines.{title_line, same_line, SpellsNumber}
use Rattle.report.specs.LineByLine.{read_from}
use Rattle.report.specs.JournalLines.{JournalState, BudgetAndEntries, budget_and_entries, journal_state, first_journal_state, decision_line, budget_line, entry_count_line, entry_step, journal_step_at, journal_end_at, journal_step, journal_end}
use Rattle.report.specs.JournalGrammar.{SpellsEntry, SpellsBudget, SpellsEntries, SpellsWide, SpellsJournalRows}
use Rattle.report.proofs.HeadRead.{title_found, same_found}
use Rattle.report.proofs.JournalLinesRead.{BudgetFound, CountFound, budget_found, count_found, entry_found}
use Rattle.report.proofs.ReadingOn.{read_back, read_ends}

-- what the lines of the entries tell, behind those before
record EntriesFound (m left : ℕ) (budget : Option ℕ) (front : List Entry) (rows : List Row) (j : BudgetAndEntries) : Type 0 where
  own : List Entry
  entries : j.entries ≡ front ++ own
  budget_is : j.budget ≡ budget
  all : length own ≡ left
  spelled : SpellsEntries m rows own

module _ (graph : Graph) (count : ℕ) where
  abbrev reading : JournalState → List Row → Result BudgetAndEntries Fault
  reading s rows = read_from (journal_step graph) (journal_end count) s rows

  line_back : (s : JournalState) (r : Row) (rows : List Row) (j : BudgetAndEntries) → reading s (r ∷ rows) ≡ Ok j
      → (t : JournalState) × (journal_step_at graph s.due s.entries r ≡ Ok t) × (reading t rows ≡ Ok j)
  line_back s r rows j e = read_back (journal_step graph) (journal_end count) s r rows j e

  end_back : (budget : Option ℕ) (entries : List Entry) (j : BudgetAndEntries) → reading (journal_state (Entries budget 0) entries) [] ≡ Ok j → budget_and_entries budget entries ≡ j
  unfolding read_from journal_end_at
  end_back budget entries j e = same_value (budget_and_entries budget entries) j e

  no_end : (budget : Option ℕ) (left : ℕ) (entries : List Entry) (j : BudgetAndEntries) → reading (journal_state (Entries budget (suc left)) entries) [] ≡ Ok j → ⊥
  unfolding read_from journal_end_at
  no_end budget left entries j e = cc

  no_more : (budget : Option ℕ) (entries : List Entry) (r : Row) (t : JournalState) → journal_step_at graph (Entries budget 0) entries r ≡ Ok t → ⊥
  unfolding journal_step_at entry_step
  no_more budget entries r t e = cc

  entry_back : (budget : Option ℕ) (left : ℕ) (entries : List Entry) (r : Row) (t : JournalState) → journal_step_at graph (Entries budget (suc left)) entries r ≡ Ok t
      → (entry : Entry) × SpellsEntry (length graph.pairs) r entry × (journal_state (Entries budget left) (entries ++ entry ∷ []) ≡ t)
  unfolding journal_step_at entry_step
  entry_back budget left entries r t e =
      let a = passed (decision_line (length graph.pairs) r) (λ entry. passing (journal_state (Entries budget left) (entries ++ entry ∷ []))) t e in
      (a.value, entry_found (length graph.pairs) r a.value a.here, same_value (journal_state (Entries budget left) (entries ++ a.value ∷ [])) t a.behind)

  entries_found : (budget : Option ℕ) (left : ℕ) (front : List Entry) (rows : List Row) (j : BudgetAndEntries)
      → reading (journal_state (Entries budget left) front) rows ≡ Ok j → EntriesFound (length graph.pairs) left budget front rows j
  entries_found budget zero front [] j e =
      let is = end_back budget front j e in
      record { own = []; entries = ap (λ (x : BudgetAndEntries). x.entries) (sym is) ∙ sym (append-nil front); budget_is = ap (λ (x : BudgetAndEntries). x.budget) (sym is); all = refl; spelled = tt }
  entries_found budget (suc left) front [] j e = absurd (no_end budget left front j e)
  entries_found budget zero front (r ∷ rows) j e =
      let a = line_back (journal_state (Entries budget 0) front) r rows j e in absurd (no_more budget front r a.0 a.1)
  entries_found budget (suc left) front (r ∷ rows) j e =
      let a = line_back (journal_state (Entries budget (suc left)) front) r rows j e in
      let b = entry_back budget left front r a.0 a.1 in
      let f = entries_found budget left (front ++ b.0 ∷ []) rows j (ap (λ (t : JournalState). reading t rows) b.2 ∙ a.2) in
      record {
        own = b.0 ∷ f.own;
        entries = f.entries ∙ append_assoc front (b.0 ∷ []) f.own;
        budget_is = f.budget_is;
        all = ap suc f.all;
        spelled = (b.1, f.spelled);
      }

  -- the five lines at the head
  title_back : (r : Row) (t : JournalState) → journal_step_at graph Title [] r ≡ Ok t → (r.fields ≡ codes "PITJOURNAL" ∷ codes "1" ∷ []) × (journal_state Blocks [] ≡ t)
  unfolding journal_step_at
  title_back r t e =
      let a = passed (title_line Journal (codes "PITJOURNAL") r) (λ title. passing (journal_state Blocks [])) t e in
      (title_found Journal (codes "PITJOURNAL") r a.value a.here, same_value (journal_state Blocks []) t a.behind)

  blocks_back : (r : Row) (t : JournalState) → journal_step_at graph Blocks [] r ≡ Ok t → SpellsNumber (codes "BLOCKS:") graph.blocks r × (journal_state Arcs [] ≡ t)
  unfolding journal_step_at
  blocks_back r t e =
      let a = passed (same_line Journal (codes "BLOCKS:") graph.blocks r) (λ same. passing (journal_state Arcs [])) t e in
      (same_found Journal (codes "BLOCKS:") graph.blocks r a.value a.here, same_value (journal_state Arcs []) t a.behind)

  arcs_back : (r : Row) (t : JournalState) → journal_step_at graph Arcs [] r ≡ Ok t → SpellsNumber (codes "ARCS:") (length graph.pairs) r × (journal_state Budget [] ≡ t)
  unfolding journal_step_at
  arcs_back r t e =
      let a = passed (same_line Journal (codes "ARCS:") (length graph.pairs) r) (λ same. passing (journal_state Budget [])) t e in
      (same_found Journal (codes "ARCS:") (length graph.pairs) r a.value a.here, same_value (journal_state Budget []) t a.behind)

  budget_back : (r : Row) (t : JournalState) → journal_step_at graph Budget [] r ≡ Ok t → (budget : Option ℕ) × BudgetFound r budget × (journal_state (Count budget) [] ≡ t)
  unfolding journal_step_at
  budget_back r t e =
      let a = passed (budget_line r) (λ budget. passing (journal_state (Count budget) [])) t e in
      (a.value, budget_found r a.value a.here, same_value (journal_state (Count a.value) []) t a.behind)

  count_back : (budget : Option ℕ) (r : Row) (t : JournalState) → journal_step_at graph (Count budget) [] r ≡ Ok t → (n : ℕ) × CountFound r n × (journal_state (Entries budget n) [] ≡ t)
  unfolding journal_step_at
  count_back budget r t e =
      let a = passed (entry_count_line r) (λ n. passing (journal_state (Entries budget n) [])) t e in
      (a.value, count_found r a.value a.here, same_value (journal_state (Entries budget a.value) []) t a.behind)

  -- a text that ends in the head is not read
  head_due : (budget : Option ℕ) (j : BudgetAndEntries)
      → (journal_end_at count Title [] ≡ Ok j → ⊥) × (journal_end_at count Blocks [] ≡ Ok j → ⊥) × (journal_end_at count Arcs [] ≡ Ok j → ⊥) × (journal_end_at count Budget [] ≡ Ok j → ⊥) × (journal_end_at count (Count budget) [] ≡ Ok j → ⊥)
  unfolding journal_end_at
  head_due budget j = (λ e. cc, λ e. cc, λ e. cc, λ e. cc, λ e. cc)

  no_head : (s : JournalState) (j : BudgetAndEntries) → (journal_end_at count s.due s.entries ≡ Ok j → ⊥) → reading s [] ≡ Ok j → ⊥
  no_head s j never e = never (sym (read_ends (journal_step graph) (journal_end count) s) ∙ e)

  -- each line of the head, and the reading of those behind it
  after_title : (r : Row) (rows : List Row) (j : BudgetAndEntries) → reading first_journal_state (r ∷ rows) ≡ Ok j
      → (r.fields ≡ codes "PITJOURNAL" ∷ codes "1" ∷ []) × (reading (journal_state Blocks []) rows ≡ Ok j)
  after_title r rows j e =
      let a = line_back first_journal_state r rows j e in
      let p = title_back r a.0 a.1 in
      (p.0, ap (λ (t : JournalState). reading t rows) p.1 ∙ a.2)

  after_blocks : (r : Row) (rows : List Row) (j : BudgetAndEntries) → reading (journal_state Blocks []) (r ∷ rows) ≡ Ok j
      → SpellsNumber (codes "BLOCKS:") graph.blocks r × (reading (journal_state Arcs []) rows ≡ Ok j)
  after_blocks r rows j e =
      let a = line_back (journal_state Blocks []) r rows j e in
      let p = blocks_back r a.0 a.1 in
      (p.0, ap (λ (t : JournalState). reading t rows) p.1 ∙ a.2)

  after_arcs : (r : Row) (rows : List Row) (j : BudgetAndEntries) → reading (journal_state Arcs []) (r ∷ rows) ≡ Ok j
      → SpellsNumber (codes "ARCS:") (length graph.pairs) r × (reading (journal_state Budget []) rows ≡ Ok j)
  after_arcs r rows j e =
      let a = line_back (journal_state Arcs []) r rows j e in
      let p = arcs_back r a.0 a.1 in
      (p.0, ap (λ (t : JournalState). reading t rows) p.1 ∙ a.2)

  after_budget : (r : Row) (rows : List Row) (j : BudgetAndEntries) → reading (journal_state Budget []) (r ∷ rows) ≡ Ok j
      → (budget : Option ℕ) × BudgetFound r budget × (reading (journal_state (Count budget) []) rows ≡ Ok j)
  after_budget r rows j e =
      let a = line_back (journal_state Budget []) r rows j e in
      let p = budget_back r a.0 a.1 in
      (p.0, p.1, ap (λ (t : JournalState). reading t rows) p.2 ∙ a.2)

  after_count : (budget : Option ℕ) (r : Row) (rows : List Row) (j : BudgetAndEntries) → reading (journal_state (Count budget) []) (r ∷ rows) ≡ Ok j
      → (n : ℕ) × CountFound r n × (reading (journal_state (Entries budget n) []) rows ≡ Ok j)
  after_count budget r rows j e =
      let a = line_back (journal_state (Count budget) []) r rows j e in
      let p = count_back budget r a.0 a.1 in
      (p.0, p.1, ap (λ (t : JournalState). reading t rows) p.2 ∙ a.2)

  pub spelled : (rows : List Row) (j : BudgetAndEntries) → reading first_journal_state rows ≡ Ok j → SpellsJournalRows graph rows j
  spelled [] j e = absurd (no_head first_journal_state j (head_due None j).0 e)
  spelled (title ∷ []) j e = absurd (no_head (journal_state Blocks []) j (head_due None j).1 (after_title title [] j e).1)
  spelled (title ∷ blocks ∷ []) j e =
      let one = after_title title (blocks ∷ []) j e in
      absurd (no_head (journal_state Arcs []) j (head_due None j).2 (after_blocks blocks [] j one.1).1)
  spelled (title ∷ blocks ∷ arcs ∷ []) j e =
      let one = after_title title (blocks ∷ arcs ∷ []) j e in
      let two = after_blocks blocks (arcs ∷ []) j one.1 in
      absurd (no_head (journal_state Budget []) j (head_due None j).3 (after_arcs arcs [] j two.1).1)
  spelled (title ∷ blocks ∷ arcs ∷ budget ∷ []) j e =
      let one = after_title title (blocks ∷ arcs ∷ budget ∷ []) j e in
      let two = after_blocks blocks (arcs ∷ budget ∷ []) j one.1 in
      let three = after_arcs arcs (budget ∷ []) j two.1 in
      let four = after_budget budget [] j three.1 in
      absurd (no_head (journal_state (Count four.0) []) j (head_due four.0 j).4 four.2)
  spelled (title ∷ blocks ∷ arcs ∷ budget ∷ many ∷ rows) j e =
      let one = after_title title (blocks ∷ arcs ∷ budget ∷ many ∷ rows) j e in
      let two = after_blocks blocks (arcs ∷ budget ∷ many ∷ rows) j one.1 in
      let three = after_arcs arcs (budget ∷ many ∷ rows) j two.1 in
      let four = after_budget budget (many ∷ rows) j three.1 in
      let five = after_count four.0 many rows j four.2 in
      let found = entries_found four.0 five.0 [] rows j five.2 in
      let size : five.0 ≡ length j.entries = sym (ap length found.entries ∙ found.all) in
      record {
        title = title;
        blocks = blocks;
        arcs = arcs;
        budget = budget;
        count = many;
        decisions = rows;
        are = refl;
        is_title = one.0;
        names_blocks = two.0;
        names_arcs = three.0;
        budget_field = four.1.field;
        names_budget = four.1.fields;
        is_budget = subst (λ (b : Option ℕ). SpellsBudget four.1.field b) (sym found.budget_is) four.1.is_budget;
        count_field = five.1.field;
        names_count = five.1.fields;
        is_count = subst (SpellsWide five.1.field) size five.1.is_count;
        entries = subst (SpellsEntries (length graph.pairs) rows) (sym found.entries) found.spelled;
      }

-- entries that are spelled stand under seats and with arcs that there are
pub seated : (m : ℕ) (rows : List Row) (entries : List Entry) → SpellsEntries m rows entries → AreSeatedBelow m entries
seated m [] [] s = All-nil (λ entry. (entry.seat ≤ most_seat) × (entry.arc < m))
seated m [] (entry ∷ entries) s = absurd s
seated m (r ∷ rows) [] s = absurd s
seated m (r ∷ rows) (entry ∷ entries) s = All-cons (λ entry. (entry.seat ≤ most_seat) × (entry.arc < m)) entry entries (s.0.seated, s.0.known) (seated m rows entries s.1)
