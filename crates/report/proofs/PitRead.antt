-- What is written of a pit spells it, and nothing else: the text line by line, and each line field by field.
use Rattle.std.proofs.Common.{◌≡◌, ℕ, suc, ◌+◌, ◌^◌, ◌<◌, ◌≤◌, List, [], ◌∷◌, ◌++◌, length, map, Option, Some, None, refl, sym, ap, subst, ◌∙◌, arith, append_assoc}
use Rattle.std.specs.Prelude.{ℤ, unsigned_abs, codes, decimal}
use Rattle.std.specs.List.{All, flat_map}
use Rattle.std.proofs.lemmas.List.{append-nil}
use Rattle.std.proofs.lemmas.List.Elements.{All-append, All-cons, All-head, All-tail}
use Rattle.std.proofs.lemmas.Option.{same_Some}
use Rattle.minelib_reader.specs.Number.{whole_of}
use Rattle.minelib_reader.specs.Text.{Row, row, rows_from, rows_of, fields_of}
use Rattle.minelib_reader.proofs.LineLemmas.{row_yes, no_rows}
use Rattle.pit_model.specs.PitText.{line_of, pit_head, pit_text, with_six_decimals}
use Rattle.report.specs.PrintedNumbers.{units_of}
use Rattle.report.specs.HeadLines.{SpellsNumber}
use Rattle.report.specs.PitGrammar.{PitAnswer, PitReadsBack, SpellsMember, SpellsMembers, SpellsMillionths, SpellsPit, SpellsPitRows, pit_answer}
use Rattle.report.proofs.HeadWritten.{whole_read, written, two_words, names, number_line_plain, number_words, tested, blocks_word}
use Rattle.report.proofs.NumbersRead.{one_number, units}
use Rattle.report.proofs.PlainLines.{AreLines, IsLine, IsPlainField, IsWord, text_of, lines_text, next_word, numbers_text, one_field, one_word, word_line}

-- ---- one reading

number_is_one : (word : List ℕ) (n m : ℕ) (r : Row) → SpellsNumber word n r → SpellsNumber word m r → n ≡ m
number_is_one word n m r s t =
    let lines : word ∷ s.field ∷ [] ≡ word ∷ t.field ∷ [] = sym s.fields ∙ t.fields in
    let field : s.field ≡ t.field = cc in
    same_Some n m (sym s.is_number ∙ ap whole_of field ∙ t.is_number)

millionths_are_one : (word : List ℕ) (x y : ℤ) (r : Row) → SpellsMillionths word x r → SpellsMillionths word y r → x ≡ y
millionths_are_one word x y r s t =
    let lines : word ∷ s.field ∷ [] ≡ word ∷ t.field ∷ [] = sym s.fields ∙ t.fields in
    let field : s.field ≡ t.field = cc in
    same_Some x y (sym s.is_number ∙ ap (units_of 6) field ∙ t.is_number)

member_is_one : (r : Row) (u v : ℕ) → SpellsMember r u → SpellsMember r v → u ≡ v
member_is_one r u v s t =
    let lines : s.field ∷ [] ≡ t.field ∷ [] = sym s.fields ∙ t.fields in
    let field : s.field ≡ t.field = cc in
    same_Some u v (sym s.is_id ∙ ap whole_of field ∙ t.is_id)

members_are_one : (rows : List Row) (us vs : List ℕ) → SpellsMembers rows us → SpellsMembers rows vs → us ≡ vs
members_are_one [] [] [] s t = refl
members_are_one [] [] (v ∷ vs) s t = absurd t
members_are_one [] (u ∷ us) vs s t = absurd s
members_are_one (r ∷ rows) [] vs s t = absurd s
members_are_one (r ∷ rows) (u ∷ us) [] s t = absurd t
members_are_one (r ∷ rows) (u ∷ us) (v ∷ vs) s t =
    ap (λ w. w ∷ us) (member_is_one r u v s.0 t.0) ∙ ap (λ (ws : List ℕ). v ∷ ws) (members_are_one rows us vs s.1 t.1)

abbrev five : Row → Row → Row → Row → List Row → List Row
five title blocks count worth members = title ∷ blocks ∷ count ∷ worth ∷ members

one_answer : (rows : List Row) (a b : PitAnswer) → SpellsPitRows rows a → SpellsPitRows rows b → a ≡ b
one_answer rows a b s t =
    let same : five s.title s.blocks s.count s.worth s.members ≡ five t.title t.blocks t.count t.worth t.members = sym s.are ∙ t.are in
    let blocks : s.blocks ≡ t.blocks = cc in
    let worth : s.worth ≡ t.worth = cc in
    let members : s.members ≡ t.members = cc in
    let n = number_is_one (codes "BLOCKS:") a.blocks b.blocks t.blocks (subst (SpellsNumber (codes "BLOCKS:") a.blocks) blocks s.names_blocks) t.names_blocks in
    let x = millionths_are_one (codes "WORTH:") a.worth b.worth t.worth (subst (SpellsMillionths (codes "WORTH:") a.worth) worth s.names_worth) t.names_worth in
    let ids = members_are_one t.members a.pit b.pit (subst (λ (rs : List Row). SpellsMembers rs a.pit) members s.spelled) t.spelled in
    ap (λ m. pit_answer m a.pit a.worth) n ∙ ap (λ (us : List ℕ). pit_answer b.blocks us a.worth) ids ∙ ap (λ y. pit_answer b.blocks b.pit y) x

-- ---- the lines of blocks

abbrev MembersRead : ℕ → List ℕ → Type 0
MembersRead k ids = (rows : List Row) × (rows_from k (map decimal ids) ≡ rows) × SpellsMembers rows ids

members_read : (n k : ℕ) (ids : List ℕ) → n ≤ 2 ^ 22 → All (λ u. u < n) ids → MembersRead k ids
members_read n k [] few below = ([], no_rows k, tt)
members_read n k (id ∷ ids) few below =
    let known = All-head (λ u. u < n) id ids below in
    let d = written id (omega arith) in
    let fields = one_word (decimal id) d.word d.some in
    let others = members_read n (k + 1) ids few (All-tail (λ u. u < n) id ids below) in
    let member : SpellsMember (row k (fields_of (decimal id))) id = record { field = decimal id; fields = fields; is_id = whole_read id (omega arith) } in (
      row k (fields_of (decimal id)) ∷ others.0,
      row_yes k (decimal id) (decimal id) [] (map decimal ids) fields ∙ ap (λ (rs : List Row). row k (fields_of (decimal id)) ∷ rs) others.1,
      (member, others.2),
    )

members_plain : (n : ℕ) (ids : List ℕ) → n ≤ 2 ^ 22 → All (λ u. u < n) ids → AreLines (map decimal ids)
members_plain n [] few below = tt
members_plain n (id ∷ ids) few below =
    let known = All-head (λ u. u < n) id ids below in
    (word_line (decimal id) (written id (omega arith)).word, members_plain n ids few (All-tail (λ u. u < n) id ids below))

-- ---- the head

pit_word : IsWord (codes "PIT")
pit_word = tested 48 (codes "PIT") refl

in_word : IsWord (codes "IN:")
in_word = tested 48 (codes "IN:") refl

worth_word : IsWord (codes "WORTH:")
worth_word = tested 48 (codes "WORTH:") refl

abbrev head_before : List ℕ → List ℕ → List ℕ → List ℕ → List ℕ
head_before n k worth rest =
    codes "PIT" ++ 10 ∷ (two_words (codes "BLOCKS:") n ++ 10 ∷ (two_words (codes "IN:") k ++ 10 ∷ (two_words (codes "WORTH:") worth ++ 10 ∷ rest)))

head_is : (n k worth rest : List ℕ) → (codes "PIT\nBLOCKS: " ++ n ++ codes "\nIN: " ++ k ++ codes "\nWORTH: " ++ worth ++ codes "\n") ++ rest ≡ head_before n k worth rest
head_is n k worth rest = simp append_assoc

head_text : (n k : ℕ) (worth : ℤ) (rest : List ℕ) → pit_head n k worth ++ rest ≡ head_before (decimal n) (decimal k) (with_six_decimals worth) rest
unfolding pit_head
head_text n k worth rest = head_is (decimal n) (decimal k) (with_six_decimals worth) rest

-- ---- the whole text

module _ (n : ℕ) (pit : List ℕ) (worth : ℤ) (few : n ≤ 2 ^ 22) (short : length pit ≤ 2 ^ 22) (below : All (λ u. u < n) pit) (fits : unsigned_abs worth < 10 ^ 64) where
  abbrev line2 : List ℕ
  line2 = number_words (codes "BLOCKS:") n

  abbrev line3 : List ℕ
  line3 = number_words (codes "IN:") (length pit)

  abbrev line4 : List ℕ
  line4 = two_words (codes "WORTH:") (with_six_decimals worth)

  abbrev all_lines : List (List ℕ)
  all_lines = codes "PIT" ∷ line2 ∷ line3 ∷ line4 ∷ map decimal pit

  is_text : pit_text n pit worth ≡ text_of all_lines
  is_text =
      let members : flat_map line_of pit ≡ text_of (map decimal pit) =
      sym (append-nil (flat_map line_of pit)) ∙ sym (numbers_text pit []) ∙ ap text_of (append-nil (map decimal pit)) in
      head_text n (length pit) worth (flat_map line_of pit)
      ∙ ap (head_before (decimal n) (decimal (length pit)) (with_six_decimals worth)) members

  all_plain : AreLines all_lines
  all_plain =
      let number = one_number 6 worth fits in
      let fourth : IsLine line4 =
      All-append (λ b. 32 ≤ b) (codes "WORTH:") (32 ∷ with_six_decimals worth) (word_line (codes "WORTH:") worth_word)
      (All-cons (λ b. 32 ≤ b) 32 (with_six_decimals worth) (omega arith) (λ k d l. let low = number.plain k d l in omega arith)) in (
        word_line (codes "PIT") pit_word,
        (
          number_line_plain (codes "BLOCKS:") n blocks_word (omega arith),
          (number_line_plain (codes "IN:") (length pit) in_word (omega arith), (fourth, members_plain n pit few below)),
        ),
      )

  pub written_spells : SpellsPit (pit_text n pit worth) (pit_answer n pit worth)
  written_spells =
      let number = one_number 6 worth fits in
      let n1 = names 2 (codes "BLOCKS:") n blocks_word (omega arith) (omega arith) in
      let n2 = names 3 (codes "IN:") (length pit) in_word (omega arith) (omega arith) in
      let title : fields_of (codes "PIT") ≡ codes "PIT" ∷ [] = one_word (codes "PIT") pit_word (omega arith) in
      let value : fields_of line4 ≡ codes "WORTH:" ∷ with_six_decimals worth ∷ [] =
      next_word (codes "WORTH:") (with_six_decimals worth) worth_word (omega arith)
      ∙ ap (λ (fs : List (List ℕ)). codes "WORTH:" ∷ fs) (one_field (with_six_decimals worth) number.plain number.some) in
      let lines = members_read n 5 pit few below in
      let one = row_yes 1 (codes "PIT") (codes "PIT") [] (line2 ∷ line3 ∷ line4 ∷ map decimal pit) title in
      let two = row_yes 2 line2 (codes "BLOCKS:") (n1.field ∷ []) (line3 ∷ line4 ∷ map decimal pit) n1.fields in
      let three = row_yes 3 line3 (codes "IN:") (n2.field ∷ []) (line4 ∷ map decimal pit) n2.fields in
      let four = row_yes 4 line4 (codes "WORTH:") (with_six_decimals worth ∷ []) (map decimal pit) value in
      record {
        title = row 1 (fields_of (codes "PIT"));
        blocks = row 2 (fields_of line2);
        count = row 3 (fields_of line3);
        worth = row 4 (fields_of line4);
        members = lines.0;
        are = ap rows_of is_text ∙ ap (rows_from 1) (lines_text all_lines all_plain) ∙ one
            ∙ ap (λ (rs : List Row). row 1 (fields_of (codes "PIT")) ∷ rs) (two
            ∙ ap (λ (rs : List Row). row 2 (fields_of line2) ∷ rs) (three
            ∙ ap (λ (rs : List Row). row 3 (fields_of line3) ∷ rs) (four
            ∙ ap (λ (rs : List Row). row 4 (fields_of line4) ∷ rs) lines.1)));
        is_title = title;
        names_blocks = n1;
        names_count = n2;
        names_worth = record { field = with_six_decimals worth; fields = value; is_number = units 6 worth fits };
        spelled = lines.2;
      }

pub pit_reads_back : PitReadsBack
pit_reads_back n pit worth a few short below fits =
    let text : List ℕ = pit_text n pit worth in
    let written = written_spells n pit worth few short below fits in (
      λ s. one_answer (rows_of text) a (pit_answer n pit worth) s written,
      λ e. subst (SpellsPit text) (sym e) written,
    )
