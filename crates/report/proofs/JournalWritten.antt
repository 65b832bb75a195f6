-- What is written of a journal spells it: the text line by line, and each line field by field.
use Rattle.std.proofs.Common.{◌≡◌, ℕ, suc, ◌+◌, ◌^◌, ◌<◌, ◌≤◌, List, [], ◌∷◌, ◌++◌, length, map, Option, Some, None, refl, sym, ap, subst, ◌∙◌, arith, append_assoc}
use Rattle.std.specs.Prelude.{codes, decimal}
use Rattle.std.specs.List.{flat_map}
use Rattle.std.proofs.lemmas.List.Elements.{All-append, All-cons}
use Rattle.minelib_reader.specs.Text.{Row, row, rows_from, rows_of, count_of_lines, fields_of}
use Rattle.minelib_reader.proofs.LineLemmas.{row_yes, no_rows}
use Rattle.pit_model.specs.declared.journal.Entry.{Entry}
use Rattle.pit_model.specs.declared.journal.Verdict.{Verdict}
use Rattle.pit_model.specs.declared.journal.Verdict.TheVariants.{Applied, Stale, Spent}
use Rattle.pit_model.specs.Graph.{Graph}
use Rattle.pit_model.specs.JournalText.{AreSeatedBelow, budget_text, entry_line, journal_head, journal_text, most_seat, verdict_number}
use Rattle.report.specs.JournalGrammar.{IsBudget, JournalReadsBack, SpellsWide, SpellsBudget, SpellsEntry, SpellsEntries, SpellsJournal}
use Rattle.report.specs.JournalLines.{budget_and_entries}
use Rattle.minelib_reader.proofs.CheckLemmas.{same_value}
use Rattle.report.proofs.JournalRead.{reads}
use Rattle.report.proofs.PlainLines.{IsLine, IsWord, AreLines, word_line, text_of, lines_text, next_word, numeral, digits_read}
use Rattle.report.proofs.HeadWritten.{whole_read, written, two_words, two_fields, two_plain, number_words, names, number_line_plain, tested, blocks_word, arcs_word, title_plain, title_fields}

-- ---- numbers of 64 bits, and the budget

wide_read : (n : ℕ) → n < 2 ^ 64 → SpellsWide (decimal n) n
wide_read n fits = (digits_read 20 n (omega arith) (omega arith) (omega arith), fits)

budget_word : (budget : Option ℕ) → IsBudget budget → IsWord (budget_text budget)
budget_word None h = tested 48 (codes "none") refl
budget_word (Some n) h = (numeral n (omega arith)).word

budget_some : (budget : Option ℕ) → IsBudget budget → 0 < length (budget_text budget)
budget_some None h = omega arith
budget_some (Some n) h = (numeral n (omega arith)).some

budget_read : (budget : Option ℕ) → IsBudget budget → SpellsBudget (budget_text budget) budget
budget_read None h = refl
budget_read (Some n) h = wide_read n h

-- ---- the lines of entries

verdict_small : (v : Verdict) → verdict_number v ≤ 3
verdict_small Applied = omega arith
verdict_small Stale = omega arith
verdict_small Spent = omega arith

abbrev entry_words : Entry → List ℕ
entry_words entry = decimal entry.seat ++ 32 ∷ (decimal entry.arc ++ 32 ∷ decimal (verdict_number entry.verdict))

entry_spelled : (m place : ℕ) (entry : Entry) → m ≤ 2 ^ 26 → entry.seat ≤ most_seat → entry.arc < m → SpellsEntry m (row place (fields_of (entry_words entry))) entry
entry_spelled m place entry few seated known =
    let v = verdict_number entry.verdict in
    let small = verdict_small entry.verdict in
    let ds = written entry.seat (omega arith) in
    let da = written entry.arc (omega arith) in
    let dv = written (verdict_number entry.verdict) (omega arith) in
    record {
      seat = decimal entry.seat;
      arc = decimal entry.arc;
      verdict = decimal (verdict_number entry.verdict);
      fields = next_word (decimal entry.seat) (decimal entry.arc ++ 32 ∷ decimal (verdict_number entry.verdict)) ds.word ds.some
          ∙ ap (λ (fs : List (List ℕ)). decimal entry.seat ∷ fs) (two_fields (decimal entry.arc) (decimal (verdict_number entry.verdict)) da.word da.some dv.word dv.some);
      is_seat = whole_read entry.seat (omega arith);
      seated = seated;
      is_arc = whole_read entry.arc (omega arith);
      known = known;
      is_verdict = whole_read (verdict_number entry.verdict) (omega arith);
    }

entry_plain : (m : ℕ) (entry : Entry) → m ≤ 2 ^ 26 → entry.seat ≤ most_seat → entry.arc < m → IsLine (entry_words entry)
entry_plain m entry few seated known =
    let small = verdict_small entry.verdict in
    let ds = written entry.seat (omega arith) in
    let da = written entry.arc (omega arith) in
    let dv = written (verdict_number entry.verdict) (omega arith) in
    let rest : List ℕ = decimal entry.arc ++ 32 ∷ decimal (verdict_number entry.verdict) in
    All-append (λ b. 32 ≤ b) (decimal entry.seat) (32 ∷ rest) (word_line (decimal entry.seat) ds.word)
    (All-cons (λ b. 32 ≤ b) 32 rest (omega arith) (two_plain (decimal entry.arc) (decimal (verdict_number entry.verdict)) da.word dv.word))

abbrev EntriesRead : ℕ → ℕ → List Entry → Type 0
EntriesRead m place entries = (rows : List Row) × (rows_from place (map entry_words entries) ≡ rows) × SpellsEntries m rows entries

entries_read : (m place : ℕ) (entries : List Entry) → m ≤ 2 ^ 26 → AreSeatedBelow m entries → EntriesRead m place entries
entries_read m place [] few seated = ([], no_rows place, tt)
entries_read m place (entry ∷ entries) few seated =
    let here = seated 0 entry (omega arith) in
    let line = entry_spelled m place entry few here.0 here.1 in
    let others = entries_read m (place + 1) entries few (λ i d l. seated (suc i) d (omega arith)) in (
      row place (fields_of (entry_words entry)) ∷ others.0,
      row_yes place (entry_words entry) line.seat (line.arc ∷ line.verdict ∷ []) (map entry_words entries) line.fields
          ∙ ap (λ (rs : List Row). row place (fields_of (entry_words entry)) ∷ rs) others.1,
      (line, others.2),
    )

entries_plain : (m : ℕ) (entries : List Entry) → m ≤ 2 ^ 26 → AreSeatedBelow m entries → AreLines (map entry_words entries)
entries_plain m [] few seated = tt
entries_plain m (entry ∷ entries) few seated =
    let here = seated 0 entry (omega arith) in
    (entry_plain m entry few here.0 here.1, entries_plain m entries few (λ i d l. seated (suc i) d (omega arith)))

entry_text : (entry : Entry) (rest : List ℕ) → entry_words entry ++ 10 ∷ rest ≡ entry_line entry ++ rest
unfolding entry_line
entry_text entry rest = simp append_assoc

entries_text : (entries : List Entry) → text_of (map entry_words entries) ≡ flat_map entry_line entries
entries_text [] = refl
entries_text (entry ∷ entries) = ap (λ (xs : List ℕ). entry_words entry ++ 10 ∷ xs) (entries_text entries) ∙ entry_text entry (flat_map entry_line entries)

-- ---- the head

title_word : IsWord (codes "PITJOURNAL")
title_word = tested 48 (codes "PITJOURNAL") refl

budget_header : IsWord (codes "BUDGET:")
budget_header = tested 48 (codes "BUDGET:") refl

entries_header : IsWord (codes "ENTRIES:")
entries_header = tested 48 (codes "ENTRIES:") refl

abbrev head_before : List ℕ → List ℕ → List ℕ → List ℕ → List ℕ → List ℕ
head_before n m b c rest =
    two_words (codes "PITJOURNAL") (codes "1") ++ 10 ∷ (two_words (codes "BLOCKS:") n ++ 10 ∷ (two_words (codes "ARCS:") m ++ 10
    ∷ (two_words (codes "BUDGET:") b ++ 10 ∷ (two_words (codes "ENTRIES:") c ++ 10 ∷ rest))))

head_is : (n m b c rest : List ℕ)
    → (codes "PITJOURNAL 1\nBLOCKS: " ++ n ++ codes "\nARCS: " ++ m ++ codes "\nBUDGET: " ++ b ++ codes "\nENTRIES: " ++ c ++ codes "\n") ++ rest ≡ head_before n m b c rest
head_is n m b c rest = simp append_assoc

head_text : (n m : ℕ) (budget : Option ℕ) (c : ℕ) (rest : List ℕ) → journal_head n m budget c ++ rest ≡ head_before (decimal n) (decimal m) (budget_text budget) (decimal c) rest
unfolding journal_head
head_text n m budget c rest = head_is (decimal n) (decimal m) (budget_text budget) (decimal c) rest

-- ---- the whole text

module _ (graph : Graph) (budget : Option ℕ) (entries : List Entry) (few_blocks : graph.blocks ≤ 2 ^ 22) (few_arcs : length graph.pairs ≤ 2 ^ 26)
    (fits : IsBudget budget) (many : length entries < 2 ^ 64) (seated : AreSeatedBelow (length graph.pairs) entries) where
  abbrev line1 : List ℕ
  line1 = two_words (codes "PITJOURNAL") (codes "1")

  abbrev line2 : List ℕ
  line2 = number_words (codes "BLOCKS:") graph.blocks

  abbrev line3 : List ℕ
  line3 = number_words (codes "ARCS:") (length graph.pairs)

  abbrev line4 : List ℕ
  line4 = two_words (codes "BUDGET:") (budget_text budget)

  abbrev line5 : List ℕ
  line5 = two_words (codes "ENTRIES:") (decimal (length entries))

  abbrev behind : List (List ℕ)
  behind = map entry_words entries

  abbrev all_lines : List (List ℕ)
  all_lines = line1 ∷ line2 ∷ line3 ∷ line4 ∷ line5 ∷ behind

  is_text : journal_text graph.blocks (length graph.pairs) budget entries ≡ text_of all_lines
  is_text =
      head_text graph.blocks (length graph.pairs) budget (length entries) (flat_map entry_line entries)
      ∙ ap (head_before (decimal graph.blocks) (decimal (length graph.pairs)) (budget_text budget) (decimal (length entries))) (sym (entries_text entries))

  all_plain : AreLines all_lines
  all_plain =
      let fifth : AreLines (line5 ∷ behind) = (two_plain (codes "ENTRIES:") (decimal (length entries)) entries_header (numeral (length entries) (omega arith)).word, entries_plain (length graph.pairs) entries few_arcs seated) in
      let fourth : AreLines (line4 ∷ line5 ∷ behind) = (two_plain (codes "BUDGET:") (budget_text budget) budget_header (budget_word budget fits), fifth) in
      let third : AreLines (line3 ∷ line4 ∷ line5 ∷ behind) = (number_line_plain (codes "ARCS:") (length graph.pairs) arcs_word few_arcs, fourth) in
      (title_plain (codes "PITJOURNAL") title_word, (number_line_plain (codes "BLOCKS:") graph.blocks blocks_word (omega arith), third))

  -- what is written of entries under seats and with arcs that there are spells them
  pub written_spells : SpellsJournal graph (journal_text graph.blocks (length graph.pairs) budget entries) (budget_and_entries budget entries)
  written_spells =
      let d = numeral (length entries) (omega arith) in
      let n1 = names 2 (codes "BLOCKS:") graph.blocks blocks_word (omega arith) (omega arith) in
      let n2 = names 3 (codes "ARCS:") (length graph.pairs) arcs_word (omega arith) few_arcs in
      let title : fields_of line1 ≡ codes "PITJOURNAL" ∷ codes "1" ∷ [] = title_fields (codes "PITJOURNAL") title_word (omega arith) in
      let most : fields_of line4 ≡ codes "BUDGET:" ∷ budget_text budget ∷ [] = two_fields (codes "BUDGET:") (budget_text budget) budget_header (omega arith) (budget_word budget fits) (budget_some budget fits) in
      let count : fields_of line5 ≡ codes "ENTRIES:" ∷ decimal (length entries) ∷ [] = two_fields (codes "ENTRIES:") (decimal (length entries)) entries_header (omega arith) d.word d.some in
      let lines = entries_read (length graph.pairs) 6 entries few_arcs seated in
      let one = row_yes 1 line1 (codes "PITJOURNAL") (codes "1" ∷ []) (line2 ∷ line3 ∷ line4 ∷ line5 ∷ behind) title in
      let two = row_yes 2 line2 (codes "BLOCKS:") (n1.field ∷ []) (line3 ∷ line4 ∷ line5 ∷ behind) n1.fields in
      let three = row_yes 3 line3 (codes "ARCS:") (n2.field ∷ []) (line4 ∷ line5 ∷ behind) n2.fields in
      let four = row_yes 4 line4 (codes "BUDGET:") (budget_text budget ∷ []) (line5 ∷ behind) most in
      let five = row_yes 5 line5 (codes "ENTRIES:") (decimal (length entries) ∷ []) behind count in
      record {
        title = row 1 (fields_of line1);
        blocks = row 2 (fields_of line2);
        arcs = row 3 (fields_of line3);
        budget = row 4 (fields_of line4);
        count = row 5 (fields_of line5);
        decisions = lines.0;
        are = ap rows_of is_text ∙ ap (rows_from 1) (lines_text all_lines all_plain) ∙ one
            ∙ ap (λ (rs : List Row). row 1 (fields_of line1) ∷ rs) (two
            ∙ ap (λ (rs : List Row). row 2 (fields_of line2) ∷ rs) (three
            ∙ ap (λ (rs : List Row). row 3 (fields_of line3) ∷ rs) (four
            ∙ ap (λ (rs : List Row). row 4 (fields_of line4) ∷ rs) (five
            ∙ ap (λ (rs : List Row). row 5 (fields_of line5) ∷ rs) lines.1))));
        is_title = title;
        names_blocks = n1;
        names_arcs = n2;
        budget_field = budget_text budget;
        names_budget = most;
        is_budget = budget_read budget fits;
        count_field = decimal (length entries);
        names_count = count;
        is_count = wide_read (length entries) many;
        entries = lines.2;
      }

-- one text, one reading
pub journal_reads_back : JournalReadsBack
journal_reads_back graph budget entries j few_blocks few_arcs fits many seated =
    let text : List ℕ = journal_text graph.blocks (length graph.pairs) budget entries in
    let written = written_spells graph budget entries few_blocks few_arcs fits many seated in
    let own = reads graph (count_of_lines text) (rows_of text) (budget_and_entries budget entries) written in (
      λ s. sym (same_value (budget_and_entries budget entries) j (sym own ∙ reads graph (count_of_lines text) (rows_of text) j s)),
      λ e. subst (SpellsJournal graph text) (sym e) written,
    )
