-- What is written of a certificate spells it: the text line by line, and each line field by field.
use Rattle.std.proofs.Common.{◌≡◌, ℕ, zero, suc, ◌+◌, ◌^◌, ◌<◌, ◌≤◌, Bool, true, false, cond, List, [], ◌∷◌, ◌++◌, length, get_or, map, filter, refl, sym, ap, subst, ◌∙◌, arith, ⊎_elim, append_assoc}
use Rattle.std.specs.Prelude.{ℤ, pos, negsuc, int_lt, unsigned_abs, ◌≤ℤ◌, if◌then◌else◌, codes, decimal}
use Rattle.std.specs.List.{All, flat_map, range_with_len}
use Rattle.std.proofs.lemmas.Int.{ints}
use Rattle.std.proofs.lemmas.Bool.{cases_Bool, cases_eq}
use Rattle.std.proofs.lemmas.List.{get_or_past}
use Rattle.std.proofs.lemmas.List.Elements.{All-append, All-cons}
use Rattle.std.proofs.lemmas.List.Kept.{AllPairs-from_increasing}
use Rattle.minelib_reader.specs.Text.{Row, row, rows_from, rows_of, fields_of}
use Rattle.minelib_reader.proofs.LineLemmas.{row_yes, no_rows}
use Rattle.pit_model.specs.Fixed.{AreFixable, FixedLists}
use Rattle.pit_model.specs.Graph.{Graph, IsGraph, first_of, second_of}
use Rattle.pit_model.specs.Limits.{Between}
use Rattle.pit_model.specs.PitText.{line_of}
use Rattle.csr.proofs.Pigeon.{pigeon}
use Rattle.pit_model.proofs.Members.{members_few, members_below}
use Rattle.optimality.specs.Check.{amount, AreAscending, IsCandidate}
use Rattle.certificate.specs.CertificateText.{carrying, certificate_head, certificate_text, flow_head, flow_line, graph_head, list_text}
use Rattle.certificate.specs.CertificateLines.{fixes_nothing, pit_and_flow}
use Rattle.certificate.specs.CertificateGrammar.{SpellsPitBlock, SpellsPitBlocks, SpellsList, SpellsFormat, SpellsArc, SpellsFlow, SpellsCertificate}
use Rattle.certificate.specs.CertificateGrammar.SpellsFormat.{with_fixed, without_fixed}
use Rattle.certificate.proofs.LinesRead.{nothing_found}
use Rattle.report.specs.HeadLines.{SpellsNumber}
use Rattle.report.proofs.HeadWritten.{whole_read, written, number_words, two_words, two_fields, two_plain, names, number_line_plain, tested, blocks_word, arcs_word}
use Rattle.report.proofs.PlainLines.{IsLine, IsWord, AreLines, word_line, text_of, lines_text, one_word, next_word, numbers_text, digits_read}

-- ---- the lines of blocks

abbrev BlocksRead : ℕ → ℕ → ℕ → List ℕ → List (List ℕ) → Type 0
BlocksRead n from k ids rest =
    (rows : List Row) × (rows_from k (map decimal ids ++ rest) ≡ rows ++ rows_from (k + length ids) rest) × SpellsPitBlocks n from rows ids

blocks_read : (n from k : ℕ) (ids : List ℕ) (rest : List (List ℕ)) → n ≤ 2 ^ 22 → All (λ u. u < n) ids → AreAscending ids → ((i : ℕ) → i < length ids → from ≤ get_or ids i 0) → BlocksRead n from k ids rest
blocks_read n from k [] rest few below rising low =
    let same : k ≡ k + 0 = omega arith in ([], ap (λ i. rows_from i rest) same, tt)
blocks_read n from k (id ∷ ids) rest few below rising low =
    let known = below 0 0 (omega arith) in
    let d = written id (omega arith) in
    let fields = one_word (decimal id) d.word d.some in
    let others = blocks_read n (id + 1) (k + 1) ids rest few
    (λ i e l. below (suc i) e (omega arith))
    (λ i j lt l. rising (suc i) (suc j) (omega arith) (omega arith))
    (λ i l. let up = rising 0 (suc i) (omega arith) (omega arith) in omega arith) in
    let places : k + 1 + length ids ≡ k + suc (length ids) = omega arith in
    let block : SpellsPitBlock n from (row k (fields_of (decimal id))) id = record { field = decimal id; fields = fields; is_id = whole_read id (omega arith); known = known; rising = low 0 (omega arith) } in (
      row k (fields_of (decimal id)) ∷ others.0,
      row_yes k (decimal id) (decimal id) [] (map decimal ids ++ rest) fields
          ∙ ap (λ (rs : List Row). row k (fields_of (decimal id)) ∷ rs) (others.1 ∙ ap (λ i. others.0 ++ rows_from i rest) places),
      (block, others.2),
    )

blocks_plain : (n : ℕ) (ids : List ℕ) (rest : List (List ℕ)) → n ≤ 2 ^ 22 → All (λ u. u < n) ids → AreLines rest → AreLines (map decimal ids ++ rest)
blocks_plain n [] rest few below r = r
blocks_plain n (id ∷ ids) rest few below r =
    let known = below 0 0 (omega arith) in
    (word_line (decimal id) (written id (omega arith)).word, blocks_plain n ids rest few (λ i e l. below (suc i) e (omega arith)) r)

-- ---- the lines of arcs

abbrev arc_words : List (ℕ × ℕ) → List ℤ → ℕ → List ℕ
arc_words pairs flow k = decimal (first_of pairs k) ++ 32 ∷ (decimal (second_of pairs k) ++ 32 ∷ decimal (unsigned_abs (amount flow k)))

pos_abs : (x : ℤ) → pos 0 ≤ℤ x → x ≡ pos (unsigned_abs x)
pos_abs (pos n) h = refl
pos_abs (negsuc n) h = absurd (omega (arith, ints))

above : (x : ℤ) (n : ℕ) → x ≡ pos n → int_lt (pos 0) x ≡ true → 0 < n
above x n e h = grind (arith, ints)

zero_of : (x : ℤ) → pos 0 ≤ℤ x → int_lt (pos 0) x ≡ false → x ≡ pos 0
zero_of x l h = grind (arith, ints)

small_of : (x : ℤ) (n : ℕ) → x ≡ pos n → x ≤ℤ pos (10 ^ 30) → n ≤ 10 ^ 30
small_of x n e h = omega (arith, ints)

-- ---- the head

title_word : IsWord (codes "PITCERT")
title_word = tested 48 (codes "PITCERT") refl

in_word : IsWord (codes "IN:")
in_word = tested 48 (codes "IN:") refl

flow_word : IsWord (codes "FLOW:")
flow_word = tested 48 (codes "FLOW:") refl

forced_word : IsWord (codes "FORCED:")
forced_word = tested 48 (codes "FORCED:") refl

barred_word : IsWord (codes "BARRED:")
barred_word = tested 48 (codes "BARRED:") refl

abbrev title_words : List ℕ → List ℕ
title_words format = two_words (codes "PITCERT") format

abbrev head_before : List ℕ → List ℕ → List ℕ → List ℕ → List ℕ
head_before format n m rest = title_words format ++ 10 ∷ ((codes "BLOCKS:" ++ 32 ∷ n) ++ 10 ∷ ((codes "ARCS:" ++ 32 ∷ m) ++ 10 ∷ rest))

head_is : (format n m rest : List ℕ) → (codes "PITCERT " ++ format ++ codes "\nBLOCKS: " ++ n ++ codes "\nARCS: " ++ m ++ codes "\n") ++ rest ≡ head_before format n m rest
head_is format n m rest = simp append_assoc

head_text : (format : List ℕ) (n m : ℕ) (rest : List ℕ) → graph_head format n m ++ rest ≡ head_before format (decimal n) (decimal m) rest
unfolding graph_head
head_text format n m rest = head_is format (decimal n) (decimal m) rest

-- ---- how many blocks are in a list, and these

abbrev list_lines : List ℕ → List ℕ → List (List ℕ)
list_lines word ids = number_words word (length ids) ∷ map decimal ids

list_is_text : (word ids : List ℕ) (rest : List (List ℕ)) → text_of (list_lines word ids ++ rest) ≡ list_text word ids ++ text_of rest
unfolding list_text
list_is_text word ids rest = ap (λ (xs : List ℕ). number_words word (length ids) ++ 10 ∷ xs) (numbers_text ids rest) ∙ simp append_assoc

-- a list that may be written for n blocks, behind this word
record IsList (n : ℕ) (word ids : List ℕ) : Type 0 where
  few : n ≤ 2 ^ 22
  is_word : IsWord word
  some : 0 < length word
  below : All (λ u. u < n) ids
  rising : AreAscending ids
  short : length ids ≤ n

listed : (n : ℕ) (word ids : List ℕ) → n ≤ 2 ^ 22 → IsWord word → 0 < length word → All (λ u. u < n) ids → AreAscending ids → IsList n word ids
listed n word ids few is_word some below rising = record {
  few = few;
  is_word = is_word;
  some = some;
  below = below;
  rising = rising;
  short = pigeon ids n (λ i j lt l e. let up = rising i j lt l in omega arith) (λ k l. below k 0 l);
}

list_plain : (n : ℕ) (word ids : List ℕ) (rest : List (List ℕ)) → IsList n word ids → AreLines rest → AreLines (list_lines word ids ++ rest)
list_plain n word ids rest is r =
    let few = is.few in
    let short = is.short in
    (number_line_plain word (length ids) is.is_word (omega arith), blocks_plain n ids rest is.few is.below r)

-- the lines of a list, from number k on
record ListRead (n k : ℕ) (word ids : List ℕ) (rest : List (List ℕ)) : Type 0 where
  rows : List Row
  are : rows_from k (list_lines word ids ++ rest) ≡ rows ++ rows_from (k + 1 + length ids) rest
  spelled : SpellsList word n rows ids

list_read : (n k : ℕ) (word ids : List ℕ) (rest : List (List ℕ)) → 0 < k → IsList n word ids → ListRead n k word ids rest
list_read n k word ids rest at is =
    let few = is.few in
    let short = is.short in
    let named = names k word (length ids) is.is_word is.some (omega arith) in
    let others = blocks_read n 0 (k + 1) ids rest is.few is.below is.rising (λ i l. omega arith) in
    record {
      rows = row k (fields_of (number_words word (length ids))) ∷ others.0;
      are = row_yes k (number_words word (length ids)) word (named.field ∷ []) (map decimal ids ++ rest) named.fields
          ∙ ap (λ (rs : List Row). row k (fields_of (number_words word (length ids))) ∷ rs) others.1;
      spelled = record { count = row k (fields_of (number_words word (length ids))); blocks = others.0; are = refl; names = named; few = is.short; spelled = others.2 };
    }

module _ (graph : Graph) (flow : List ℤ) (is : IsGraph graph.blocks graph.pairs) (few : graph.blocks ≤ 2 ^ 22)
    (counted : length flow ≡ length graph.pairs)
    (amounts : (k : ℕ) → k < length flow → Between (pos 0) (amount flow k) (pos (10 ^ 30))) where
  abbrev carries : ℕ → Bool
  carries k = int_lt (pos 0) (amount flow k)

  arc_spelled : (place k : ℕ) → k < length graph.pairs → carries k ≡ true → (from : ℕ) → from ≤ k → SpellsArc graph.pairs from (row place (fields_of (arc_words graph.pairs flow k))) k (amount flow k)
  arc_spelled place k l on from low =
      let within = is.in_range k l in
      let a = within.0 in let b = within.1 in
      let x = amounts k (omega arith) in
      let same = pos_abs (amount flow k) x.0 in
      let size = small_of (amount flow k) (unsigned_abs (amount flow k)) same x.1 in
      let du = written (first_of graph.pairs k) (omega arith) in
      let dp = written (second_of graph.pairs k) (omega arith) in
      let dx = written (unsigned_abs (amount flow k)) size in
      record {
        needs = decimal (first_of graph.pairs k);
        needed = decimal (second_of graph.pairs k);
        number = decimal (unsigned_abs (amount flow k));
        fields = next_word (decimal (first_of graph.pairs k)) (decimal (second_of graph.pairs k) ++ 32 ∷ decimal (unsigned_abs (amount flow k))) du.word du.some
            ∙ ap (λ (fs : List (List ℕ)). decimal (first_of graph.pairs k) ∷ fs) (next_word (decimal (second_of graph.pairs k)) (decimal (unsigned_abs (amount flow k))) dp.word dp.some
            ∙ ap (λ (fs : List (List ℕ)). decimal (second_of graph.pairs k) ∷ fs) (one_word (decimal (unsigned_abs (amount flow k))) dx.word dx.some));
        known = l;
        needs_is = whole_read (first_of graph.pairs k) (omega arith);
        needed_is = whole_read (second_of graph.pairs k) (omega arith);
        rising = low;
        size = unsigned_abs (amount flow k);
        is_size = digits_read 31 (unsigned_abs (amount flow k)) (omega arith) (omega arith) (omega arith);
        some = above (amount flow k) (unsigned_abs (amount flow k)) same on;
        within = size;
        is_amount = same;
      }

  -- an arc below that carries nothing
  lower : (from : ℕ) (rows : List Row) → amount flow from ≡ pos 0 → SpellsFlow graph.pairs (from + 1) rows flow → SpellsFlow graph.pairs from rows flow
  lower from [] none s = λ k l. ⊎_elim (λ (e : k ≡ from). ap (amount flow) e ∙ none) (λ (ne : k ≡ from → ⊥). s k (omega arith)) (cases_eq k from)
  lower from (r ∷ rows) none s =
      let up = s.1.rising in (
        s.0,
        record {
          needs = s.1.needs;
          needed = s.1.needed;
          number = s.1.number;
          fields = s.1.fields;
          known = s.1.known;
          needs_is = s.1.needs_is;
          needed_is = s.1.needed_is;
          rising = omega arith;
          size = s.1.size;
          is_size = s.1.is_size;
          some = s.1.some;
          within = s.1.within;
          is_amount = s.1.is_amount;
        },
        λ k l h. ⊎_elim (λ (e : k ≡ from). ap (amount flow) e ∙ none) (λ (ne : k ≡ from → ⊥). s.2 k (omega arith) h) (cases_eq k from),
        s.3,
      )

  abbrev FlowRead : ℕ → ℕ → List ℕ → Type 0
  FlowRead from place arcs = (rows : List Row) × (rows_from place (map (arc_words graph.pairs flow) arcs) ≡ rows) × (length rows ≡ length arcs) × SpellsFlow graph.pairs from rows flow

  flow_read : (n from place : ℕ) → from + n ≡ length graph.pairs → FlowRead from place (filter carries (range_with_len from n))
  flow_read zero from place size = ([], no_rows place, refl, λ k l. get_or_past flow k (pos 0) (omega arith))
  flow_read (suc n) from place size = ⊎_elim
      (λ (on : carries from ≡ true).
      let others = flow_read n (from + 1) (place + 1) (omega arith) in
      let words = arc_words graph.pairs flow from in
      let arc = arc_spelled place from (omega arith) on from (omega arith) in
      let all : FlowRead from place (from ∷ filter carries (range_with_len (from + 1) n)) = (
        row place (fields_of (arc_words graph.pairs flow from)) ∷ others.0,
        row_yes place (arc_words graph.pairs flow from) arc.needs (arc.needed ∷ arc.number ∷ []) (map (arc_words graph.pairs flow) (filter carries (range_with_len (from + 1) n))) arc.fields
            ∙ ap (λ (rs : List Row). row place (fields_of (arc_words graph.pairs flow from)) ∷ rs) others.1,
        ap suc others.2,
        (from, arc, λ k l h. absurd (omega arith), others.3),
      ) in
      subst (FlowRead from place) (ap (λ (b : Bool). cond b (from ∷ filter carries (range_with_len (from + 1) n)) (filter carries (range_with_len (from + 1) n))) (sym on)) all)
      (λ (off : carries from ≡ false).
      let others = flow_read n (from + 1) place (omega arith) in
      let x = amounts from (omega arith) in
      let all : FlowRead from place (filter carries (range_with_len (from + 1) n)) = (others.0, others.1, others.2, lower from others.0 (zero_of (amount flow from) x.0 off) others.3) in
      subst (FlowRead from place) (ap (λ (b : Bool). cond b (from ∷ filter carries (range_with_len (from + 1) n)) (filter carries (range_with_len (from + 1) n))) (sym off)) all)
      (cases_Bool (carries from))

  arc_plain : (k : ℕ) → k < length graph.pairs → IsLine (arc_words graph.pairs flow k)
  arc_plain k l =
      let within = is.in_range k l in
      let a = within.0 in let b = within.1 in
      let x = amounts k (omega arith) in
      let size = small_of (amount flow k) (unsigned_abs (amount flow k)) (pos_abs (amount flow k) x.0) x.1 in
      let u = decimal (first_of graph.pairs k) in
      let p = decimal (second_of graph.pairs k) in
      let s = decimal (unsigned_abs (amount flow k)) in
      let du = word_line u (written (first_of graph.pairs k) (omega arith)).word in
      let dp = word_line p (written (second_of graph.pairs k) (omega arith)).word in
      let dx = word_line s (written (unsigned_abs (amount flow k)) size).word in
      All-append (λ b. 32 ≤ b) u (32 ∷ (p ++ 32 ∷ s)) du (All-cons (λ b. 32 ≤ b) 32 (p ++ 32 ∷ s) (omega arith) (All-append (λ b. 32 ≤ b) p (32 ∷ s) dp (All-cons (λ b. 32 ≤ b) 32 s (omega arith) dx)))

  arcs_plain : (ks : List ℕ) → All (λ k. k < length graph.pairs) ks → AreLines (map (arc_words graph.pairs flow) ks)
  arcs_plain [] h = tt
  arcs_plain (k ∷ ks) h = (arc_plain k (h 0 0 (omega arith)), arcs_plain ks (λ i e l. h (suc i) e (omega arith)))

  arc_text : (k : ℕ) (rest : List ℕ) → arc_words graph.pairs flow k ++ 10 ∷ rest ≡ flow_line graph.pairs flow k ++ rest
  unfolding flow_line
  arc_text k rest = simp append_assoc

  arcs_text : (ks : List ℕ) → text_of (map (arc_words graph.pairs flow) ks) ≡ flat_map (flow_line graph.pairs flow) ks
  arcs_text [] = refl
  arcs_text (k ∷ ks) = ap (λ (xs : List ℕ). arc_words graph.pairs flow k ++ 10 ∷ xs) (arcs_text ks) ∙ arc_text k (flat_map (flow_line graph.pairs flow) ks)

  -- ---- the whole text

  module _ (lists : FixedLists) (fixable : AreFixable graph.blocks lists) (pit : List ℕ) (few_pairs : length graph.pairs ≤ 2 ^ 26) (below : All (λ u. u < graph.blocks) pit) (rising : AreAscending pit) where
    abbrev arcs : List ℕ
    arcs = carrying flow (length graph.pairs)

    abbrev behind : List (List ℕ)
    behind = number_words (codes "FLOW:") (length arcs) ∷ map (arc_words graph.pairs flow) arcs

    -- the lines of the pit, and those behind them
    abbrev tail : List (List ℕ)
    tail = list_lines (codes "IN:") pit ++ behind

    few_arcs : length arcs ≤ length graph.pairs
    few_arcs = members_few (length graph.pairs) carries

    behind_text : text_of behind ≡ flow_head (length arcs) ++ flat_map (flow_line graph.pairs flow) arcs
    unfolding flow_head
    behind_text = ap (λ (xs : List ℕ). number_words (codes "FLOW:") (length arcs) ++ 10 ∷ xs) (arcs_text arcs) ∙ simp append_assoc

    abbrev head : List ℕ
    head = certificate_head graph lists

    is_text : certificate_text graph lists pit flow ≡ head ++ text_of tail
    is_text =
        let ids : List ℕ = list_text (codes "IN:") pit in
        let middle : List ℕ = flow_head (length arcs) in
        let last : List ℕ = flat_map (flow_line graph.pairs flow) arcs in
        append_assoc (head ++ ids) middle last ∙ append_assoc head ids (middle ++ last)
        ∙ ap (λ (xs : List ℕ). head ++ xs) (sym (list_is_text (codes "IN:") pit behind ∙ ap (λ (xs : List ℕ). list_text (codes "IN:") pit ++ xs) behind_text))

    pit_list : IsList graph.blocks (codes "IN:") pit
    pit_list = listed graph.blocks (codes "IN:") pit few in_word (omega arith) below rising

    tail_plain : AreLines tail
    tail_plain =
        let last : AreLines behind = (number_line_plain (codes "FLOW:") (length arcs) flow_word (let l = few_arcs in omega arith), arcs_plain arcs (members_below (length graph.pairs) carries)) in
        list_plain graph.blocks (codes "IN:") pit behind pit_list last

    abbrev IsSpelled : Type 0
    IsSpelled = SpellsCertificate graph lists (certificate_text graph lists pit flow) (pit_and_flow pit flow)

    -- by its format, and the lines behind the graph's counts
    spells_by : (format : List ℕ) (lines : List (List ℕ)) (fixed : List Row) (place : ℕ) → IsWord format → 0 < length format → 0 < place
        → head ++ text_of tail ≡ graph_head format graph.blocks (length graph.pairs) ++ text_of lines → AreLines lines
        → rows_from 4 lines ≡ fixed ++ rows_from place tail → SpellsFormat graph.blocks lists (row 1 (fields_of (title_words format))) fixed → IsSpelled
    spells_by format lines fixed place is_word some at text plain rows spelled =
        let title = two_fields (codes "PITCERT") format title_word (omega arith) is_word some in
        let n1 = names 2 (codes "BLOCKS:") graph.blocks blocks_word (omega arith) (omega arith) in
        let n2 = names 3 (codes "ARCS:") (length graph.pairs) arcs_word (omega arith) few_pairs in
        let line1 = title_words format in
        let line2 = number_words (codes "BLOCKS:") graph.blocks in
        let line3 = number_words (codes "ARCS:") (length graph.pairs) in
        let line5 = number_words (codes "FLOW:") (length arcs) in
        let inside = list_read graph.blocks place (codes "IN:") pit behind at pit_list in
        let last : ℕ = place + 1 + length pit in
        let amounts = flow_read (length graph.pairs) 0 (last + 1) (omega arith) in
        let fit : length arcs ≤ 2 ^ 26 = (let l = few_arcs in omega arith) in
        let named = names last (codes "FLOW:") (length arcs) flow_word (omega arith) fit in
        let all_plain : AreLines (line1 ∷ line2 ∷ line3 ∷ lines) =
        (two_plain (codes "PITCERT") format title_word is_word, (number_line_plain (codes "BLOCKS:") graph.blocks blocks_word (omega arith), (number_line_plain (codes "ARCS:") (length graph.pairs) arcs_word few_pairs, plain))) in
        let whole : certificate_text graph lists pit flow ≡ text_of (line1 ∷ line2 ∷ line3 ∷ lines) = is_text ∙ text ∙ head_text format graph.blocks (length graph.pairs) (text_of lines) in
        let one = row_yes 1 line1 (codes "PITCERT") (format ∷ []) (line2 ∷ line3 ∷ lines) title in
        let two = row_yes 2 line2 (codes "BLOCKS:") (n1.field ∷ []) (line3 ∷ lines) n1.fields in
        let three = row_yes 3 line3 (codes "ARCS:") (n2.field ∷ []) lines n2.fields in
        let flow_rows = row_yes last line5 (codes "FLOW:") (named.field ∷ []) (map (arc_words graph.pairs flow) arcs) named.fields ∙ ap (λ (rs : List Row). row last (fields_of line5) ∷ rs) amounts.1 in
        record {
          title = row 1 (fields_of line1);
          blocks = row 2 (fields_of line2);
          arcs = row 3 (fields_of line3);
          fixed = fixed;
          inside = inside.rows;
          carrying = row last (fields_of line5);
          amounts = amounts.0;
          are = ap rows_of whole ∙ ap (rows_from 1) (lines_text (line1 ∷ line2 ∷ line3 ∷ lines) all_plain) ∙ one
              ∙ ap (λ (rs : List Row). row 1 (fields_of line1) ∷ rs) (two
              ∙ ap (λ (rs : List Row). row 2 (fields_of line2) ∷ rs) (three
              ∙ ap (λ (rs : List Row). row 3 (fields_of line3) ∷ rs) (rows
              ∙ ap (λ (rs : List Row). fixed ++ rs) (inside.are ∙ ap (λ (rs : List Row). inside.rows ++ rs) flow_rows))));
          format = spelled;
          names_blocks = n1;
          names_arcs = n2;
          pit = inside.spelled;
          names_carrying = subst (λ (n : ℕ). SpellsNumber (codes "FLOW:") n (row last (fields_of line5))) (sym amounts.2) named;
          few_carrying = subst (λ (n : ℕ). n ≤ length graph.pairs) (sym amounts.2) few_arcs;
          flow = amounts.3;
          counted = counted;
        }

    -- the head by whether a block is fixed
    abbrev head_by : Bool → List ℕ
    head_by nothing =
        if nothing then graph_head (codes "1") graph.blocks (length graph.pairs)
        else (graph_head (codes "2") graph.blocks (length graph.pairs) ++ list_text (codes "FORCED:") lists.forced ++ list_text (codes "BARRED:") lists.barred)

    spells_first : fixes_nothing lists ≡ true → IsSpelled
    spells_first none =
        let one = two_fields (codes "PITCERT") (codes "1") title_word (omega arith) (tested 48 (codes "1") refl) (omega arith) in
        let text : head ++ text_of tail ≡ graph_head (codes "1") graph.blocks (length graph.pairs) ++ text_of tail = ap (λ (nothing : Bool). head_by nothing ++ text_of tail) none in
        spells_by (codes "1") tail [] 4 (tested 48 (codes "1") refl) (omega arith) (omega arith) text tail_plain refl (without_fixed one (nothing_found lists none) refl)

    spells_second : fixes_nothing lists ≡ false → IsSpelled
    spells_second some =
        let two = two_fields (codes "PITCERT") (codes "2") title_word (omega arith) (tested 48 (codes "2") refl) (omega arith) in
        let forced_is = listed graph.blocks (codes "FORCED:") lists.forced few forced_word (omega arith) fixable.forced_below (λ i j lt l. AllPairs-from_increasing lists.forced fixable.forced_rising i j 0 lt l) in
        let barred_is = listed graph.blocks (codes "BARRED:") lists.barred few barred_word (omega arith) fixable.barred_below (λ i j lt l. AllPairs-from_increasing lists.barred fixable.barred_rising i j 0 lt l) in
        let forced = list_read graph.blocks 4 (codes "FORCED:") lists.forced (list_lines (codes "BARRED:") lists.barred ++ tail) (omega arith) forced_is in
        let barred = list_read graph.blocks (4 + 1 + length lists.forced) (codes "BARRED:") lists.barred tail (omega arith) barred_is in
        let start : List ℕ = graph_head (codes "2") graph.blocks (length graph.pairs) in
        let f : List ℕ = list_text (codes "FORCED:") lists.forced in
        let b : List ℕ = list_text (codes "BARRED:") lists.barred in
        let lines : List (List ℕ) = list_lines (codes "FORCED:") lists.forced ++ (list_lines (codes "BARRED:") lists.barred ++ tail) in
        let fixed_text : text_of lines ≡ f ++ (b ++ text_of tail) =
        list_is_text (codes "FORCED:") lists.forced (list_lines (codes "BARRED:") lists.barred ++ tail) ∙ ap (λ (xs : List ℕ). f ++ xs) (list_is_text (codes "BARRED:") lists.barred tail) in
        let text : head ++ text_of tail ≡ start ++ text_of lines =
        ap (λ (nothing : Bool). head_by nothing ++ text_of tail) some ∙ append_assoc (start ++ f) b (text_of tail) ∙ append_assoc start f (b ++ text_of tail) ∙ ap (λ (xs : List ℕ). start ++ xs) (sym fixed_text) in
        let plain : AreLines lines = list_plain graph.blocks (codes "FORCED:") lists.forced (list_lines (codes "BARRED:") lists.barred ++ tail) forced_is (list_plain graph.blocks (codes "BARRED:") lists.barred tail barred_is tail_plain) in
        let place : ℕ = 4 + 1 + length lists.forced + 1 + length lists.barred in
        let rows : rows_from 4 lines ≡ (forced.rows ++ barred.rows) ++ rows_from place tail =
        forced.are ∙ ap (λ (rs : List Row). forced.rows ++ rs) barred.are ∙ sym (append_assoc forced.rows barred.rows (rows_from place tail)) in
        spells_by (codes "2") lines (forced.rows ++ barred.rows) place (tested 48 (codes "2") refl) (omega arith) (omega arith) text plain rows
        (with_fixed two forced.rows barred.rows refl forced.spelled barred.spelled)

    pub spells : IsSpelled
    spells = ⊎_elim spells_first spells_second (cases_Bool (fixes_nothing lists))

-- what is written of what may be checked spells it
pub written_spells : (graph : Graph) (lists : FixedLists) (pit : List ℕ) (flow : List ℤ) → IsGraph graph.blocks graph.pairs → graph.blocks ≤ 2 ^ 22 → length graph.pairs ≤ 2 ^ 26
    → AreFixable graph.blocks lists → IsCandidate graph.blocks (length graph.pairs) pit flow → SpellsCertificate graph lists (certificate_text graph lists pit flow) (pit_and_flow pit flow)
written_spells graph lists pit flow is few few_pairs fixable given =
    spells graph flow is few given.counted given.amounts lists fixable pit few_pairs given.below given.rising
