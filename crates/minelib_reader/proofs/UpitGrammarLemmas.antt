-- What the grammar of a model spells is read, and what is read is spelled: each line by itself, then all of them.
use Rattle.std.proofs.Common.{◌≡◌, ℕ, ℤ, zero, suc, ◌+◌, ◌≤◌, true, eqb, leb, List, [], ◌∷◌, length, Option, Some, None, Result, Ok, refl, sym, ap, subst, ◌∙◌, eq-eqb}
use Rattle.std.proofs.lemmas.Bool.{eqb-true, leb-true, le-leb, and_parts}
use Rattle.std.specs.Str.{bytes_eq}
use Rattle.std.specs.Prelude.{codes}
use Rattle.faults.specs.declared.refusal.Refusal.TheVariants.{WrongHeader, OverLimit, NotWhole, NotDecimal, IdOutOfPlace, WrongFieldCount}
use Rattle.faults.specs.declared.fault.Fault.{Fault}
use Rattle.minelib_reader.specs.Checks.{◌>>=◌, ok_if}
use Rattle.std.specs.Option.{ok_or}
use Rattle.minelib_reader.specs.Text.{Row, two_of}
use Rattle.minelib_reader.specs.Number.{whole_of, decimal_of}
use Rattle.pit_model.specs.Size.{most_blocks}
use Rattle.minelib_reader.specs.Upit.{Upit, upit, starts_by, is_word, are_words, in_model, due, name_line, type_line, blocks_line, objective_line, value_line, values_from, ended, header_of, upit_of_rows}
use Rattle.minelib_reader.specs.UpitGrammar.{SpellsValue, SpellsValues, SpellsHeader, SpellsRows}
use Rattle.minelib_reader.proofs.CheckLemmas.{passed, passing, same_value, value_there, test_holds, both_fields}
use Rattle.std.proofs.lemmas.Slice.Eq.{bytes_eq-Decides}

-- ---- what is spelled is read

reads_value : (i : ℕ) (r : Row) (v : ℤ) → SpellsValue i r v → value_line i r ≡ Ok v
unfolding value_line
reads_value i r v s = rw (s.fields, s.is_id, s.is_value, eq-eqb i i refl) refl

reads_values : (count i : ℕ) (rows : List Row) (vs : List ℤ) → SpellsValues i rows vs → values_from count i (length vs) rows ≡ Ok (vs, [])
unfolding values_from
reads_values count i [] [] s = refl
reads_values count i [] (v ∷ vs) s = absurd s
reads_values count i (r ∷ rows) [] s = absurd s
reads_values count i (r ∷ rows) (v ∷ vs) s = rw (reads_value i r v s.0, reads_values count (i + 1) rows vs s.1) refl

reads_header : (count : ℕ) (a b c d : Row) (rows : List Row) (n : ℕ) → SpellsHeader a b c d n → header_of count (a ∷ b ∷ c ∷ d ∷ rows) ≡ Ok (n, rows)
unfolding header_of name_line type_line blocks_line objective_line
reads_header count a b c d rows n s = rw (s.name, s.kind, s.blocks, s.is_number, le-leb n most_blocks s.few, s.objective) refl

pub reads : (count : ℕ) (rows : List Row) (m : Upit) → SpellsRows rows m → upit_of_rows count rows ≡ Ok m
unfolding upit_of_rows
reads count [] m s = absurd s
reads count (a ∷ []) m s = absurd s
reads count (a ∷ b ∷ []) m s = absurd s
reads count (a ∷ b ∷ c ∷ []) m s = absurd s
reads count (a ∷ b ∷ c ∷ d ∷ rows) m s =
    let values : values_from count 0 m.n rows ≡ Ok (m.values, []) = ap (λ (k : ℕ). values_from count 0 k rows) (sym s.1) ∙ reads_values count 0 rows m.values s.2 in
    rw (reads_header count a b c d rows m.n s.0, values) refl

-- ---- what is read is spelled

pub due_ok : (count : ℕ) (rows : List Row) (x : Row × List Row) → due count rows ≡ Ok x → rows ≡ x.0 ∷ x.1
due_ok count [] x e = absurd cc
due_ok count (r ∷ rows) x e = ap (λ (y : Row × List Row). y.0 ∷ y.1) (same_value (r, rows) x e)

value_found : (i : ℕ) (r : Row) (v : ℤ) → value_line i r ≡ Ok v → SpellsValue i r v
unfolding value_line
value_found i r v e =
    let last = λ (pair : List ℕ × List ℕ) (u : Unit {0}). ok_or (decimal_of pair.1) (in_model NotDecimal r.line) in
    let place = λ (pair : List ℕ × List ℕ) (id : ℕ). ok_if (eqb id i) (in_model IdOutOfPlace r.line) >>= last pair in
    let a = passed (ok_or (two_of r.fields) (in_model WrongFieldCount r.line)) (λ pair. ok_or (whole_of pair.0) (in_model NotWhole r.line) >>= place pair) v e in
    let b = passed (ok_or (whole_of a.value.0) (in_model NotWhole r.line)) (place a.value) v a.behind in
    let c = passed (ok_if (eqb b.value i) (in_model IdOutOfPlace r.line)) (last a.value) v b.behind in
    let is_i = eqb-true b.value i (test_holds (eqb b.value i) (in_model IdOutOfPlace r.line) c.value c.here) in
    record {
      id = a.value.0;
      text = a.value.1;
      fields = both_fields r.fields a.value (value_there (two_of r.fields) (in_model WrongFieldCount r.line) a.value a.here);
      is_id = value_there (whole_of a.value.0) (in_model NotWhole r.line) b.value b.here ∙ ap (λ (n : ℕ). Some n) is_i;
      is_value = value_there (decimal_of a.value.1) (in_model NotDecimal r.line) v c.behind;
    }

values_found : (count i k : ℕ) (rows : List Row) (vs : List ℤ) → values_from count i k rows ≡ Ok (vs, []) → (length vs ≡ k) × SpellsValues i rows vs
unfolding values_from
values_found count i zero rows vs e =
    let q = same_value (([], rows)) (vs, []) e in
    subst (λ (x : List ℤ × List Row). (length x.0 ≡ 0) × SpellsValues i rows x.0) q (subst (λ (x : List ℤ × List Row). (length x.0 ≡ 0) × SpellsValues i x.1 []) (sym q) (ap length (ap (λ (x : List ℤ × List Row). x.0) (sym q)), tt))
values_found count i (suc k) [] vs e = absurd cc
values_found count i (suc k) (r ∷ rows) vs e =
    let a = passed (value_line i r) (λ v. values_from count (i + 1) k rows >>= λ others. Ok (v ∷ others.0, others.1)) (vs, []) e in
    let b = passed (values_from count (i + 1) k rows) (λ others. Ok (a.value ∷ others.0, others.1)) (vs, []) a.behind in
    let q = same_value (a.value ∷ b.value.0, b.value.1) (vs, []) b.behind in
    let none : b.value.1 ≡ [] = ap (λ (x : List ℤ × List Row). x.1) q in
    let ih = values_found count (i + 1) k rows b.value.0 (b.here ∙ ap (λ (x : List Row). Ok (b.value.0, x)) none) in
    subst (λ (x : List ℤ). (length x ≡ suc k) × SpellsValues i (r ∷ rows) x) (ap (λ (x : List ℤ × List Row). x.0) q) (ap suc ih.0, (value_found i r a.value a.here, ih.1))

starts : (w : List ℕ) (fs : List (List ℕ)) → starts_by w fs ≡ true → (others : List (List ℕ)) × (fs ≡ w ∷ others)
starts w [] e = absurd cc
starts w (f ∷ fs) e = (fs, ap (λ (x : List ℕ). x ∷ fs) ((bytes_eq-Decides f w).0 e))

word : (w : List ℕ) (fs : List (List ℕ)) → is_word w fs ≡ true → fs ≡ w ∷ []
word w [] e = absurd cc
word w (f ∷ []) e = ap (λ (x : List ℕ). x ∷ []) ((bytes_eq-Decides f w).0 e)
word w (f ∷ g ∷ fs) e = absurd cc

pair_found : (x y : List ℕ) (o : Option (List ℕ × List ℕ)) → are_words x y o ≡ true → o ≡ Some (x, y)
pair_found x y None e = absurd cc
pair_found x y (Some p) e =
    let parts = and_parts (bytes_eq p.0 x) (bytes_eq p.1 y) e in
    ap (λ (a : List ℕ). Some (a, p.1)) ((bytes_eq-Decides p.0 x).0 parts.0) ∙ ap (λ (b : List ℕ). Some (x, b)) ((bytes_eq-Decides p.1 y).0 parts.1)

name_found : (r : Row) (u : Unit {0}) → name_line r ≡ Ok u → (others : List (List ℕ)) × (r.fields ≡ codes "NAME:" ∷ others)
unfolding name_line
name_found r u e = starts (codes "NAME:") r.fields (test_holds (starts_by (codes "NAME:") r.fields) (in_model WrongHeader r.line) u e)

type_found : (r : Row) (u : Unit {0}) → type_line r ≡ Ok u → r.fields ≡ codes "TYPE:" ∷ codes "UPIT" ∷ []
unfolding type_line
type_found r u e = both_fields r.fields (codes "TYPE:", codes "UPIT") (pair_found (codes "TYPE:") (codes "UPIT") (two_of r.fields) (test_holds (are_words (codes "TYPE:") (codes "UPIT") (two_of r.fields)) (in_model WrongHeader r.line) u e))

blocks_found : (r : Row) (n : ℕ) → blocks_line r ≡ Ok n → (number : List ℕ) × (r.fields ≡ codes "NBLOCKS:" ∷ number ∷ []) × (whole_of number ≡ Some n) × (n ≤ most_blocks)
unfolding blocks_line
blocks_found r n e =
    let limit = λ (k : ℕ). ok_if (leb k most_blocks) (in_model OverLimit r.line) in
    let last = λ (k : ℕ). limit k >>= λ few. passing k in
    let number = λ (pair : List ℕ × List ℕ) (u : Unit {0}). ok_or (whole_of pair.1) (in_model NotWhole r.line) >>= last in
    let a = passed (ok_or (two_of r.fields) (in_model WrongHeader r.line)) (λ pair. ok_if (bytes_eq pair.0 (codes "NBLOCKS:")) (in_model WrongHeader r.line) >>= number pair) n e in
    let b = passed (ok_if (bytes_eq a.value.0 (codes "NBLOCKS:")) (in_model WrongHeader r.line)) (number a.value) n a.behind in
    let c = passed (ok_or (whole_of a.value.1) (in_model NotWhole r.line)) last n b.behind in
    let d = passed (limit c.value) (λ few. passing c.value) n c.behind in
    let is_n = same_value c.value n d.behind in
    let header = (bytes_eq-Decides a.value.0 (codes "NBLOCKS:")).0 (test_holds (bytes_eq a.value.0 (codes "NBLOCKS:")) (in_model WrongHeader r.line) b.value b.here) in (
      a.value.1,
      both_fields r.fields a.value (value_there (two_of r.fields) (in_model WrongHeader r.line) a.value a.here) ∙ ap (λ (x : List ℕ). x ∷ a.value.1 ∷ []) header,
      value_there (whole_of a.value.1) (in_model NotWhole r.line) c.value c.here ∙ ap (λ (k : ℕ). Some k) is_n,
      subst (λ (k : ℕ). k ≤ most_blocks) is_n (leb-true c.value most_blocks (test_holds (leb c.value most_blocks) (in_model OverLimit r.line) d.value d.here)),
    )

objective_found : (r : Row) (u : Unit {0}) → objective_line r ≡ Ok u → r.fields ≡ codes "OBJECTIVE_FUNCTION:" ∷ []
unfolding objective_line
objective_found r u e = word (codes "OBJECTIVE_FUNCTION:") r.fields (test_holds (is_word (codes "OBJECTIVE_FUNCTION:") r.fields) (in_model WrongHeader r.line) u e)

-- the header's steps, from the last to the first
abbrev pub Next : Type 0
Next = Row × List Row

abbrev pub Header : Type 0
Header = Result (ℕ × List Row) Fault

abbrev pub after_objective : ℕ → Next → Header
after_objective n d = objective_line d.0 >>= λ objective. Ok (n, d.1)

abbrev pub after_number : ℕ → Next → ℕ → Header
after_number count c n = due count c.1 >>= after_objective n

abbrev pub after_blocks : ℕ → Next → Header
after_blocks count c = blocks_line c.0 >>= after_number count c

abbrev pub after_kind : ℕ → Next → Unit {0} → Header
after_kind count b u = due count b.1 >>= after_blocks count

abbrev pub after_type : ℕ → Next → Header
after_type count b = type_line b.0 >>= after_kind count b

abbrev pub after_title : ℕ → Next → Unit {0} → Header
after_title count a u = due count a.1 >>= after_type count

abbrev pub after_name : ℕ → Next → Header
after_name count a = name_line a.0 >>= after_title count a

-- the four lines of a header that was read, each with what it gave
pub record HeaderLines (count : ℕ) (rows : List Row) (n : ℕ) (rest : List Row) : Type 0 where
  pub a : Row
  pub b : Row
  pub c : Row
  pub d : Row
  pub are : rows ≡ a ∷ b ∷ c ∷ d ∷ rest
  pub name : name_line a ≡ Ok tt
  pub kind : type_line b ≡ Ok tt
  pub blocks : blocks_line c ≡ Ok n
  pub objective : objective_line d ≡ Ok tt

pub header_lines : (count : ℕ) (rows : List Row) (n : ℕ) (rest : List Row) → header_of count rows ≡ Ok (n, rest) → HeaderLines count rows n rest
unfolding header_of
header_lines count rows n rest e =
    let a = passed (due count rows) (after_name count) (n, rest) e in
    let u = passed (name_line a.value.0) (after_title count a.value) (n, rest) a.behind in
    let b = passed (due count a.value.1) (after_type count) (n, rest) u.behind in
    let v = passed (type_line b.value.0) (after_kind count b.value) (n, rest) b.behind in
    let c = passed (due count b.value.1) (after_blocks count) (n, rest) v.behind in
    let m = passed (blocks_line c.value.0) (after_number count c.value) (n, rest) c.behind in
    let d = passed (due count c.value.1) (after_objective m.value) (n, rest) m.behind in
    let w = passed (objective_line d.value.0) (λ objective. Ok (m.value, d.value.1)) (n, rest) d.behind in
    let q = same_value (m.value, d.value.1) (n, rest) w.behind in
    let lines : rows ≡ a.value.0 ∷ b.value.0 ∷ c.value.0 ∷ d.value.0 ∷ d.value.1 =
    due_ok count rows a.value a.here ∙ ap (λ (x : List Row). a.value.0 ∷ x) (due_ok count a.value.1 b.value b.here)
    ∙ ap (λ (x : List Row). a.value.0 ∷ b.value.0 ∷ x) (due_ok count b.value.1 c.value c.here) ∙ ap (λ (x : List Row). a.value.0 ∷ b.value.0 ∷ c.value.0 ∷ x) (due_ok count c.value.1 d.value d.here) in
    subst (λ (x : ℕ × List Row). HeaderLines count rows x.0 x.1) q (record { a = a.value.0; b = b.value.0; c = c.value.0; d = d.value.0; are = lines; name = u.here; kind = v.here; blocks = m.here; objective = w.here })

header_found : (count : ℕ) (rows : List Row) (n : ℕ) (rest : List Row) → (h : HeaderLines count rows n rest) → SpellsHeader h.a h.b h.c h.d n
header_found count rows n rest h =
    let name = name_found h.a tt h.name in
    let number = blocks_found h.c n h.blocks in
    record {
      others = name.0;
      name = name.1;
      kind = type_found h.b tt h.kind;
      number = number.0;
      blocks = number.1;
      is_number = number.2;
      few = number.3;
      objective = objective_found h.d tt h.objective;
    }

pub none_left : (rows : List Row) (u : Unit {0}) → ended rows ≡ Ok u → rows ≡ []
none_left [] u e = refl
none_left (r ∷ rows) u e = absurd cc

-- the steps of a whole reading that succeeded
pub record AllSteps (count : ℕ) (rows : List Row) (m : Upit) : Type 0 where
  pub rest : List Row
  pub header : header_of count rows ≡ Ok (m.n, rest)
  pub values : values_from count 0 m.n rest ≡ Ok (m.values, [])

pub all_steps : (count : ℕ) (rows : List Row) (m : Upit) → upit_of_rows count rows ≡ Ok m → AllSteps count rows m
unfolding upit_of_rows
all_steps count rows m e =
    let a = passed (header_of count rows) (λ header. values_from count 0 header.0 header.1 >>= λ values. ended values.1 >>= λ end. Ok (upit header.0 values.0)) m e in
    let b = passed (values_from count 0 a.value.0 a.value.1) (λ values. ended values.1 >>= λ end. Ok (upit a.value.0 values.0)) m a.behind in
    let c = passed (ended b.value.1) (λ end. Ok (upit a.value.0 b.value.0)) m b.behind in
    let q : upit a.value.0 b.value.0 ≡ m = same_value (upit a.value.0 b.value.0) m c.behind in
    let none = none_left b.value.1 c.value c.here in
    subst (λ (x : Upit). AllSteps count rows x) q (record { rest = a.value.1; header = a.here; values = b.here ∙ ap (λ (x : List Row). Ok (b.value.0, x)) none })

pub spelled : (count : ℕ) (rows : List Row) (m : Upit) → upit_of_rows count rows ≡ Ok m → SpellsRows rows m
spelled count rows m e =
    let s = all_steps count rows m e in
    let h = header_lines count rows m.n s.rest s.header in
    let v = values_found count 0 m.n s.rest m.values s.values in
    subst (λ (x : List Row). SpellsRows x m) (sym h.are) (header_found count rows m.n s.rest h, v.0, v.1)
