-- A line that is spelled passes its checks, and a line that passes them is spelled.
use Rattle.std.proofs.Common.{◌≡◌, ℕ, ◌≤◌, ◌+◌, ◌^◌, Bool, true, false, eqb, leb, ltb, ◌&&◌, List, [], ◌∷◌, length, Some, Ok, refl, sym, ap, subst, ◌∙◌, eq-eqb}
use Rattle.std.specs.Prelude.{ℤ, pos, codes, if◌then◌else◌, IsTrue, ◌↔◌}
use Rattle.std.proofs.lemmas.Bool.{false≢true, eqb-true, leb-true, ltb-true, le-leb, lt-ltb, and_parts, and_from}
use Rattle.faults.specs.declared.refusal.Refusal.TheVariants.{OverLimit, NotWhole, IdOutOfPlace, WrongFieldCount, CountsDiffer}
use Rattle.minelib_reader.specs.Checks.{◌>>=◌, ok_if}
use Rattle.std.specs.Option.{ok_or}
use Rattle.minelib_reader.specs.Text.{Row, two_of}
use Rattle.minelib_reader.specs.Upit.{are_words}
use Rattle.minelib_reader.specs.Number.{whole_of, digits_of}
use Rattle.minelib_reader.proofs.CheckLemmas.{passed, passing, same_value, value_there, test_holds, both_fields}
use Rattle.std.proofs.lemmas.Option.{same_Some}
use Rattle.pit_model.specs.Fixed.{FixedLists}
use Rattle.pit_model.specs.Graph.{AreRising}
use Rattle.mine_graph.specs.FixedBlocks.{lists_of, no_lists}
use Rattle.faults.specs.declared.source.Source.TheVariants.{Certificate}
use Rattle.report.specs.HeadLines.{three_of, title_line, number_line, SpellsNumber}
use Rattle.report.proofs.HeadRead.{pair_found, three_fields, reads_number, reads_title, number_found, title_found}
use Rattle.certificate.specs.declared.due.CertificateLine.{CertificateLine}
use Rattle.certificate.specs.declared.due.CertificateLine.TheVariants.{Head, Block}
use Rattle.certificate.specs.declared.due.Head.TheVariants.{FixedBlock}
use Rattle.certificate.specs.declared.due.Kind.{Kind}
use Rattle.certificate.specs.CertificateLines.{in_certificate, one_of, arc_of, count_line, id_line, arc_line, is_empty, fixes_nothing, list_of, kind_word, first_format, format_line, fixed_count_line, fixed_id_line, fixed_block_line, inside_line}
use Rattle.certificate.specs.CertificateGrammar.{SpellsPitBlock, SpellsArc}
use Rattle.certificate.proofs.ArcOf.{arc_found, arc_is}

-- ---- what is spelled is read

pub reads_count : (word : List ℕ) (n most : ℕ) (r : Row) → SpellsNumber word n r → n ≤ most → count_line word most r ≡ Ok n
unfolding count_line
reads_count word n most r s few = rw (reads_number Certificate word n r s, le-leb n most few) refl

pub reads_id : (n from : ℕ) (r : Row) (id : ℕ) → SpellsPitBlock n from r id → id_line n from r ≡ Ok id
unfolding id_line
reads_id n from r id s =
    let place : (ltb id n && leb from id) ≡ true = and_from (ltb id n) (leb from id) (lt-ltb id n s.known) (le-leb from id s.rising) in
    rw (s.fields, s.is_id, place) refl

pub reads_arc : (pairs : List (ℕ × ℕ)) (from : ℕ) (r : Row) (arc : ℕ) (x : ℤ) → AreRising pairs → (s : SpellsArc pairs from r arc x) → arc_line pairs from r ≡ Ok (arc, s.size)
unfolding arc_line
reads_arc pairs from r arc x rising s =
    let limit : (ltb 0 s.size && leb s.size (10 ^ 30)) ≡ true = and_from (ltb 0 s.size) (leb s.size (10 ^ 30)) (lt-ltb 0 s.size s.some) (le-leb s.size (10 ^ 30) s.within) in
    rw (s.fields, s.needs_is, s.needed_is, arc_found pairs arc rising s.known, le-leb from arc s.rising, s.is_size, limit) refl

pub nothing_named : (lists : FixedLists) → lists ≡ no_lists → fixes_nothing lists ≡ true
nothing_named lists is = ap fixes_nothing is

pub reads_first_format : (lists : FixedLists) (r : Row) → r.fields ≡ codes "PITCERT" ∷ codes "1" ∷ [] → lists ≡ no_lists → format_line lists r ≡ Ok false
unfolding format_line first_format
reads_first_format lists r fields none =
    let other : are_words (codes "PITCERT") (codes "2") (two_of r.fields) ≡ false = ap (λ (fs : List (List ℕ)). are_words (codes "PITCERT") (codes "2") (two_of fs)) fields in
    rw (other, reads_title Certificate (codes "PITCERT") r fields, nothing_named lists none) refl

pub reads_second_format : (lists : FixedLists) (r : Row) → r.fields ≡ codes "PITCERT" ∷ codes "2" ∷ [] → format_line lists r ≡ Ok true
unfolding format_line
reads_second_format lists r fields = rw fields refl

pub reads_fixed_count : (n : ℕ) (lists : FixedLists) (kind : Kind) (r : Row) → SpellsNumber (kind_word kind) (length (list_of lists kind)) r → length (list_of lists kind) ≤ n
    → fixed_count_line n lists kind r ≡ Ok (Head (FixedBlock kind 0 0))
unfolding fixed_count_line
reads_fixed_count n lists kind r s few =
    rw (reads_count (kind_word kind) (length (list_of lists kind)) n r s few, eq-eqb (length (list_of lists kind)) (length (list_of lists kind)) refl) refl

reads_fixed_id : (n from id : ℕ) (r : Row) → SpellsPitBlock n from r id → fixed_id_line n from id r ≡ Ok id
unfolding fixed_id_line
reads_fixed_id n from id r s = rw (reads_id n from r id s, eq-eqb id id refl) refl

pub reads_fixed_block : (n : ℕ) (lists : FixedLists) (kind : Kind) (at from id : ℕ) (r : Row) → SpellsPitBlock n from r id
    → fixed_block_line n lists kind at from (Some id) r ≡ Ok (Head (FixedBlock kind (at + 1) (id + 1)))
unfolding fixed_block_line
reads_fixed_block n lists kind at from id r s = rw (reads_fixed_id n from id r s) refl

pub reads_inside : (n count : ℕ) (r : Row) → SpellsNumber (codes "IN:") count r → count ≤ n → inside_line n r ≡ Ok (Block count 0)
unfolding inside_line
reads_inside n count r s few = rw (reads_count (codes "IN:") count n r s few) refl

-- ---- what is read is spelled

pub count_found : (word : List ℕ) (most : ℕ) (r : Row) (n : ℕ) → count_line word most r ≡ Ok n → SpellsNumber word n r × (n ≤ most)
unfolding count_line
count_found word most r n e =
    let a = passed (number_line Certificate word r) (λ m. ok_if (leb m most) (in_certificate OverLimit r.line) >>= λ few. passing m) n e in
    let b = passed (ok_if (leb a.value most) (in_certificate OverLimit r.line)) (λ few. passing a.value) n a.behind in
    let is = same_value a.value n b.behind in (
      subst (λ (m : ℕ). SpellsNumber word m r) is (number_found Certificate word r a.value a.here),
      subst (λ (m : ℕ). m ≤ most) is (leb-true a.value most (test_holds (leb a.value most) (in_certificate OverLimit r.line) b.value b.here)),
    )

nothing_is : (forced barred : List ℕ) → (is_empty forced && is_empty barred) ≡ true → lists_of forced barred ≡ no_lists
nothing_is [] [] e = refl
nothing_is [] (id ∷ barred) e = absurd cc
nothing_is (id ∷ forced) barred e = absurd cc

pub nothing_found : (lists : FixedLists) → fixes_nothing lists ≡ true → lists ≡ no_lists
nothing_found lists e = nothing_is lists.forced lists.barred e

-- so a test of the lists is this one
pub is_nothing : (lists : FixedLists) (b : Bool) → IsTrue b ↔ (lists ≡ no_lists) → b ≡ fixes_nothing lists
is_nothing lists true is = sym (nothing_named lists (is.0 refl))
is_nothing lists false is = sym (by_test (fixes_nothing lists) refl)
  where
    by_test : (b : Bool) → fixes_nothing lists ≡ b → fixes_nothing lists ≡ false
    by_test true h = absurd (false≢true (is.1 (nothing_found lists h)))
    by_test false h = h

-- format 1 where nothing is fixed, or format 2
abbrev pub IsFormat : FixedLists → Row → Bool → Type 0
IsFormat lists r true = r.fields ≡ codes "PITCERT" ∷ codes "2" ∷ []
IsFormat lists r false = (r.fields ≡ codes "PITCERT" ∷ codes "1" ∷ []) × (lists ≡ no_lists)

first_format_found : (lists : FixedLists) (r : Row) (names_fixed : Bool) → first_format lists r ≡ Ok names_fixed → IsFormat lists r names_fixed
unfolding first_format
first_format_found lists r names_fixed e =
    let a = passed (title_line Certificate (codes "PITCERT") r) (λ title. ok_if (fixes_nothing lists) (in_certificate CountsDiffer r.line) >>= λ none. passing false) names_fixed e in
    let b = passed (ok_if (fixes_nothing lists) (in_certificate CountsDiffer r.line)) (λ none. passing false) names_fixed a.behind in
    let all : IsFormat lists r false = (
      title_found Certificate (codes "PITCERT") r a.value a.here,
      nothing_found lists (test_holds (fixes_nothing lists) (in_certificate CountsDiffer r.line) b.value b.here),
    ) in
    subst (IsFormat lists r) (same_value false names_fixed b.behind) all

pub format_found : (lists : FixedLists) (r : Row) (names_fixed : Bool) → format_line lists r ≡ Ok names_fixed → IsFormat lists r names_fixed
unfolding format_line
format_found lists r names_fixed e = by_title (are_words (codes "PITCERT") (codes "2") (two_of r.fields)) refl e
  where
    by_title : (b : Bool) → are_words (codes "PITCERT") (codes "2") (two_of r.fields) ≡ b → (if b then Ok true else first_format lists r) ≡ Ok names_fixed → IsFormat lists r names_fixed
    by_title true is h = subst (IsFormat lists r) (same_value true names_fixed h) (both_fields r.fields (codes "PITCERT", codes "2") (pair_found (codes "PITCERT") (codes "2") (two_of r.fields) is))
    by_title false is h = first_format_found lists r names_fixed h

pub fixed_count_found : (n : ℕ) (lists : FixedLists) (kind : Kind) (r : Row) (due : CertificateLine) → fixed_count_line n lists kind r ≡ Ok due
    → SpellsNumber (kind_word kind) (length (list_of lists kind)) r × (length (list_of lists kind) ≤ n) × (Head (FixedBlock kind 0 0) ≡ due)
unfolding fixed_count_line
fixed_count_found n lists kind r due e =
    let a = passed (count_line (kind_word kind) n r) (λ count. ok_if (eqb count (length (list_of lists kind))) (in_certificate CountsDiffer r.line) >>= λ same. passing (Head (FixedBlock kind 0 0))) due e in
    let b = passed (ok_if (eqb a.value (length (list_of lists kind))) (in_certificate CountsDiffer r.line)) (λ same. passing (Head (FixedBlock kind 0 0))) due a.behind in
    let is = eqb-true a.value (length (list_of lists kind)) (test_holds (eqb a.value (length (list_of lists kind))) (in_certificate CountsDiffer r.line) b.value b.here) in
    let f = count_found (kind_word kind) n r a.value a.here in (
      subst (λ (m : ℕ). SpellsNumber (kind_word kind) m r) is f.0,
      subst (λ (m : ℕ). m ≤ n) is f.1,
      same_value (Head (FixedBlock kind 0 0)) due b.behind,
    )

pub inside_found : (n : ℕ) (r : Row) (due : CertificateLine) → inside_line n r ≡ Ok due → (count : ℕ) × SpellsNumber (codes "IN:") count r × (count ≤ n) × (Block count 0 ≡ due)
unfolding inside_line
inside_found n r due e =
    let a = passed (count_line (codes "IN:") n r) (λ count. passing (Block count 0)) due e in
    let f = count_found (codes "IN:") n r a.value a.here in
    (a.value, f.0, f.1, same_value (Block a.value 0) due a.behind)

one : (fs : List (List ℕ)) (f : List ℕ) → one_of fs ≡ Some f → fs ≡ f ∷ []
one [] f e = absurd cc
one (a ∷ []) f e = ap (λ (x : List ℕ). x ∷ []) (same_Some a f e)
one (a ∷ b ∷ fs) f e = absurd cc

pub id_found : (n from : ℕ) (r : Row) (id : ℕ) → id_line n from r ≡ Ok id → SpellsPitBlock n from r id
unfolding id_line
id_found n from r id e =
    let place = λ (k : ℕ). ok_if (ltb k n && leb from k) (in_certificate IdOutOfPlace r.line) in
    let last = λ (k : ℕ). place k >>= λ u. passing k in
    let a = passed (ok_or (one_of r.fields) (in_certificate WrongFieldCount r.line)) (λ field. ok_or (whole_of field) (in_certificate NotWhole r.line) >>= last) id e in
    let b = passed (ok_or (whole_of a.value) (in_certificate NotWhole r.line)) last id a.behind in
    let c = passed (place b.value) (λ u. passing b.value) id b.behind in
    let parts = and_parts (ltb b.value n) (leb from b.value) (test_holds (ltb b.value n && leb from b.value) (in_certificate IdOutOfPlace r.line) c.value c.here) in
    let all : SpellsPitBlock n from r b.value = record {
      field = a.value;
      fields = one r.fields a.value (value_there (one_of r.fields) (in_certificate WrongFieldCount r.line) a.value a.here);
      is_id = value_there (whole_of a.value) (in_certificate NotWhole r.line) b.value b.here;
      known = ltb-true b.value n parts.0;
      rising = leb-true from b.value parts.1;
    } in
    subst (λ (k : ℕ). SpellsPitBlock n from r k) (same_value b.value id c.behind) all

fixed_id_found : (n from id : ℕ) (r : Row) (named : ℕ) → fixed_id_line n from id r ≡ Ok named → SpellsPitBlock n from r id × (id ≡ named)
unfolding fixed_id_line
fixed_id_found n from id r named e =
    let a = passed (id_line n from r) (λ k. ok_if (eqb k id) (in_certificate CountsDiffer r.line) >>= λ same. passing k) named e in
    let b = passed (ok_if (eqb a.value id) (in_certificate CountsDiffer r.line)) (λ same. passing a.value) named a.behind in
    let is = eqb-true a.value id (test_holds (eqb a.value id) (in_certificate CountsDiffer r.line) b.value b.here) in
    (subst (λ (k : ℕ). SpellsPitBlock n from r k) is (id_found n from r a.value a.here), sym is ∙ same_value a.value named b.behind)

pub fixed_block_found : (n : ℕ) (lists : FixedLists) (kind : Kind) (at from id : ℕ) (r : Row) (due : CertificateLine) → fixed_block_line n lists kind at from (Some id) r ≡ Ok due
    → SpellsPitBlock n from r id × (Head (FixedBlock kind (at + 1) (id + 1)) ≡ due)
unfolding fixed_block_line
fixed_block_found n lists kind at from id r due e =
    let a = passed (fixed_id_line n from id r) (λ named. passing (Head (FixedBlock kind (at + 1) (named + 1)))) due e in
    let f = fixed_id_found n from id r a.value a.here in
    (f.0, ap (λ (k : ℕ). Head (FixedBlock kind (at + 1) (k + 1))) f.1 ∙ same_value (Head (FixedBlock kind (at + 1) (a.value + 1))) due a.behind)

abbrev Three : Type 0
Three = List ℕ × List ℕ × List ℕ

pub arc_line_found : (pairs : List (ℕ × ℕ)) (from : ℕ) (r : Row) (arc : ℕ × ℕ) → arc_line pairs from r ≡ Ok arc → SpellsArc pairs from r arc.0 (pos arc.1)
unfolding arc_line
arc_line_found pairs from r arc e =
    let limit = λ (k x : ℕ). ok_if (ltb 0 x && leb x (10 ^ 30)) (in_certificate OverLimit r.line) >>= λ u. passing (k, x) in
    let amount = λ (p : Three) (k : ℕ) (u : Unit {0}). ok_or (digits_of 31 p.2) (in_certificate NotWhole r.line) >>= limit k in
    let place = λ (p : Three) (k : ℕ). ok_if (leb from k) (in_certificate IdOutOfPlace r.line) >>= amount p k in
    let number = λ (p : Three) (u v : ℕ). ok_or (arc_of pairs u v) (in_certificate IdOutOfPlace r.line) >>= place p in
    let needed = λ (p : Three) (u : ℕ). ok_or (whole_of p.1) (in_certificate NotWhole r.line) >>= number p u in
    let a = passed (ok_or (three_of r.fields) (in_certificate WrongFieldCount r.line)) (λ p. ok_or (whole_of p.0) (in_certificate NotWhole r.line) >>= needed p) arc e in
    let b = passed (ok_or (whole_of a.value.0) (in_certificate NotWhole r.line)) (needed a.value) arc a.behind in
    let c = passed (ok_or (whole_of a.value.1) (in_certificate NotWhole r.line)) (number a.value b.value) arc b.behind in
    let d = passed (ok_or (arc_of pairs b.value c.value) (in_certificate IdOutOfPlace r.line)) (place a.value) arc c.behind in
    let f = passed (ok_if (leb from d.value) (in_certificate IdOutOfPlace r.line)) (amount a.value d.value) arc d.behind in
    let g = passed (ok_or (digits_of 31 a.value.2) (in_certificate NotWhole r.line)) (limit d.value) arc f.behind in
    let h = passed (ok_if (ltb 0 g.value && leb g.value (10 ^ 30)) (in_certificate OverLimit r.line)) (λ u. passing (d.value, g.value)) arc g.behind in
    let is = arc_is pairs b.value c.value d.value (value_there (arc_of pairs b.value c.value) (in_certificate IdOutOfPlace r.line) d.value d.here) in
    let within = and_parts (ltb 0 g.value) (leb g.value (10 ^ 30)) (test_holds (ltb 0 g.value && leb g.value (10 ^ 30)) (in_certificate OverLimit r.line) h.value h.here) in
    let all : SpellsArc pairs from r d.value (pos g.value) = record {
      needs = a.value.0;
      needed = a.value.1;
      number = a.value.2;
      fields = three_fields r.fields a.value (value_there (three_of r.fields) (in_certificate WrongFieldCount r.line) a.value a.here);
      known = is.0;
      needs_is = value_there (whole_of a.value.0) (in_certificate NotWhole r.line) b.value b.here ∙ ap (λ (n : ℕ). Some n) (sym is.1);
      needed_is = value_there (whole_of a.value.1) (in_certificate NotWhole r.line) c.value c.here ∙ ap (λ (n : ℕ). Some n) (sym is.2);
      rising = leb-true from d.value (test_holds (leb from d.value) (in_certificate IdOutOfPlace r.line) f.value f.here);
      size = g.value;
      is_size = value_there (digits_of 31 a.value.2) (in_certificate NotWhole r.line) g.value g.here;
      some = ltb-true 0 g.value within.0;
      within = leb-true g.value (10 ^ 30) within.1;
      is_amount = refl;
    } in
    subst (λ (x : ℕ × ℕ). SpellsArc pairs from r x.0 (pos x.1)) (same_value (d.value, g.value) arc h.behind) all
