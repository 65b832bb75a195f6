-- A line of the head that is spelled passes its checks, and one that passes them is spelled.
use Rattle.std.proofs.Common.{◌≡◌, ℕ, true, eqb, List, [], ◌∷◌, Option, Some, None, Ok, refl, ap, subst, ◌∙◌, eq-eqb}
use Rattle.std.specs.Prelude.{codes}
use Rattle.std.specs.Str.{bytes_eq}
use Rattle.std.specs.Option.{ok_or}
use Rattle.std.proofs.lemmas.Bool.{eqb-true, and_parts}
use Rattle.std.proofs.lemmas.Option.{same_Some}
use Rattle.std.proofs.lemmas.Slice.Eq.{bytes_eq-Decides}
use Rattle.faults.specs.declared.refusal.Refusal.TheVariants.{WrongHeader, NotWhole, CountsDiffer}
use Rattle.faults.specs.declared.source.Source.{Source}
use Rattle.faults.specs.Refused.{at_line}
use Rattle.minelib_reader.specs.Checks.{◌>>=◌, ok_if}
use Rattle.minelib_reader.specs.Text.{Row, two_of}
use Rattle.minelib_reader.specs.Number.{whole_of}
use Rattle.minelib_reader.specs.Upit.{are_words}
use Rattle.minelib_reader.proofs.CheckLemmas.{passed, passing, same_value, value_there, test_holds, both_fields}
use Rattle.report.specs.HeadLines.{three_of, title_line, field_line, number_line, same_line, SpellsNumber}

abbrev Three : Type 0
Three = List ℕ × List ℕ × List ℕ

pub three_fields : (fs : List (List ℕ)) (p : Three) → three_of fs ≡ Some p → fs ≡ p.0 ∷ p.1 ∷ p.2 ∷ []
three_fields [] p e = absurd cc
three_fields (a ∷ []) p e = absurd cc
three_fields (a ∷ b ∷ []) p e = absurd cc
three_fields (a ∷ b ∷ c ∷ []) p e = ap (λ (x : Three). x.0 ∷ x.1 ∷ x.2 ∷ []) (same_Some (a, b, c) p e)
three_fields (a ∷ b ∷ c ∷ d ∷ fs) p e = absurd cc

pub pair_found : (x y : List ℕ) (o : Option (List ℕ × List ℕ)) → are_words x y o ≡ true → o ≡ Some (x, y)
pair_found x y None e = absurd cc
pair_found x y (Some p) e =
    let parts = and_parts (bytes_eq p.0 x) (bytes_eq p.1 y) e in
    ap (λ (a : List ℕ). Some (a, p.1)) ((bytes_eq-Decides p.0 x).0 parts.0) ∙ ap (λ (b : List ℕ). Some (x, b)) ((bytes_eq-Decides p.1 y).0 parts.1)

module _ (source : Source) (word : List ℕ) where
  -- ---- what is spelled is read

  same_word : bytes_eq word word ≡ true
  same_word = (bytes_eq-Decides word word).1 refl

  pub reads_title : (r : Row) → r.fields ≡ word ∷ codes "1" ∷ [] → title_line source word r ≡ Ok tt
  unfolding title_line
  reads_title r is = rw (is, same_word) refl

  pub reads_field : (field : List ℕ) (r : Row) → r.fields ≡ word ∷ field ∷ [] → field_line source word r ≡ Ok field
  unfolding field_line
  reads_field field r is = rw (is, same_word) refl

  pub reads_number : (n : ℕ) (r : Row) → SpellsNumber word n r → number_line source word r ≡ Ok n
  unfolding number_line
  reads_number n r s = rw (reads_field s.field r s.fields, s.is_number) refl

  pub reads_same : (n : ℕ) (r : Row) → SpellsNumber word n r → same_line source word n r ≡ Ok tt
  unfolding same_line
  reads_same n r s = rw (reads_number n r s, eq-eqb n n refl) refl

  -- ---- what is read is spelled

  pub title_found : (r : Row) (u : Unit {0}) → title_line source word r ≡ Ok u → r.fields ≡ word ∷ codes "1" ∷ []
  unfolding title_line
  title_found r u e = both_fields r.fields (word, codes "1")
      (pair_found word (codes "1") (two_of r.fields) (test_holds (are_words word (codes "1") (two_of r.fields)) (at_line source WrongHeader r.line) u e))

  pub field_found : (field : List ℕ) (r : Row) → field_line source word r ≡ Ok field → r.fields ≡ word ∷ field ∷ []
  unfolding field_line
  field_found field r e =
      let last = λ (pair : List ℕ × List ℕ) (u : Unit {0}). passing pair.1 in
      let a = passed (ok_or (two_of r.fields) (at_line source WrongHeader r.line)) (λ pair. ok_if (bytes_eq pair.0 word) (at_line source WrongHeader r.line) >>= last pair) field e in
      let b = passed (ok_if (bytes_eq a.value.0 word) (at_line source WrongHeader r.line)) (last a.value) field a.behind in
      let header = (bytes_eq-Decides a.value.0 word).0 (test_holds (bytes_eq a.value.0 word) (at_line source WrongHeader r.line) b.value b.here) in
      both_fields r.fields a.value (value_there (two_of r.fields) (at_line source WrongHeader r.line) a.value a.here)
      ∙ ap (λ (x : List ℕ). x ∷ a.value.1 ∷ []) header ∙ ap (λ (x : List ℕ). word ∷ x ∷ []) (same_value a.value.1 field b.behind)

  pub number_found : (r : Row) (n : ℕ) → number_line source word r ≡ Ok n → SpellsNumber word n r
  unfolding number_line
  number_found r n e =
      let a = passed (field_line source word r) (λ field. ok_or (whole_of field) (at_line source NotWhole r.line)) n e in
      record {
        field = a.value;
        fields = field_found a.value r a.here;
        is_number = value_there (whole_of a.value) (at_line source NotWhole r.line) n a.behind;
      }

  pub same_found : (count : ℕ) (r : Row) (u : Unit {0}) → same_line source word count r ≡ Ok u → SpellsNumber word count r
  unfolding same_line
  same_found count r u e =
      let a = passed (number_line source word r) (λ n. ok_if (eqb n count) (at_line source CountsDiffer r.line)) u e in
      let is = eqb-true a.value count (test_holds (eqb a.value count) (at_line source CountsDiffer r.line) u a.behind) in
      subst (λ (n : ℕ). SpellsNumber word n r) is (number_found r a.value a.here)
