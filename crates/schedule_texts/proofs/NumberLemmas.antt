-- The numbers of a line are read one a turn, and a line is its word and then its numbers.
use Rattle.std.proofs.Common.{◌≡◌, ℕ, ℤ, suc, ◌-◌, List, [], ◌∷◌, ◌++◌, length, Result, Ok, Err, refl, sym, ap, ◌∙◌, append_assoc}
use Rattle.std.proofs.lemmas.List.{append-nil}
use Rattle.faults.specs.declared.fault.Fault.{Fault}
use Rattle.minelib_reader.specs.Checks.{◌>>=◌}
use Rattle.minelib_reader.proofs.CheckLemmas.{passed, same_value}
use Rattle.std.specs.Prelude.{◌==◌, IfOk, true}
use Rattle.std.specs.Str.{bytes_eq}
use Rattle.std.proofs.lemmas.Bool.{eqb-true}
use Rattle.minelib_reader.specs.Text.{Row}
use Rattle.schedule_texts.specs.declared.section.Columns.{Columns}
use Rattle.schedule_texts.specs.declared.word.Word.{Word}
use Rattle.schedule_texts.specs.Words.{text_of}
use Rattle.schedule_texts.specs.Section.{AddsNumbers, own_fields, section_line, numeric_field, numeric_fields}

abbrev Numbers : Type 0
Numbers = Result (List ℤ) Fault

abbrev pub with_front : List ℤ → Numbers → Numbers
with_front front read = read >>= λ vs. Ok (front ++ vs)

-- what a loop over the fields keeps: the numbers read so far stand behind those of the lines before
pub record SoFar (line wholes : ℕ) (rest : List (List ℕ)) (total : Numbers) (old now : List ℤ) : Type 0 where
  pub own : List ℤ
  pub read : with_front own (numeric_fields line wholes rest) ≡ total
  pub pushed : now ≡ old ++ own

regroup : (front : List ℤ) (v : ℤ) (read : Numbers) → with_front front (read >>= λ vs. Ok (v ∷ vs)) ≡ with_front (front ++ v ∷ []) read
regroup front v (Ok vs) = ap (λ (xs : List ℤ). Ok xs) (simp append_assoc)
regroup front v (Err e) = refl

pub begins : (line wholes : ℕ) (rest : List (List ℕ)) (old : List ℤ) → SoFar line wholes rest (numeric_fields line wholes rest) old old
begins line wholes rest old = record { own = []; read = same (numeric_fields line wholes rest); pushed = sym (append-nil old) }
  where
    same : (r : Numbers) → with_front [] r ≡ r
    same (Ok vs) = refl
    same (Err e) = refl

pub goes_on : (line wholes : ℕ) (f : List ℕ) (rest : List (List ℕ)) (total : Numbers) (old now : List ℤ) (v : ℤ) → SoFar line wholes (f ∷ rest) total old now → numeric_field line wholes f ≡ Ok v → SoFar line (wholes - 1) rest total old (now ++ v ∷ [])
unfolding numeric_fields
goes_on line wholes f rest total old now v s h = record {
  own = s.own ++ v ∷ [];
  read = let one : with_front s.own (numeric_fields line wholes (f ∷ rest)) ≡ with_front (s.own ++ v ∷ []) (numeric_fields line (wholes - 1) rest) = rw h (regroup s.own v (numeric_fields line (wholes - 1) rest)) in sym one ∙ s.read;
  pushed = ap (λ (xs : List ℤ). xs ++ v ∷ []) s.pushed ∙ append_assoc old s.own (v ∷ []);
}

pub stops : (e : Fault) (line wholes : ℕ) (f : List ℕ) (rest : List (List ℕ)) (total : Numbers) (old now : List ℤ) → SoFar line wholes (f ∷ rest) total old now → numeric_field line wholes f ≡ Err e → total ≡ Err e
unfolding numeric_fields
stops e line wholes f rest total old now s h =
    let one : with_front s.own (numeric_fields line wholes (f ∷ rest)) ≡ Err e = rw h refl in sym s.read ∙ one

pub ends : (line wholes : ℕ) (total : Numbers) (old now : List ℤ) → (s : SoFar line wholes [] total old now) → total ≡ Ok s.own
unfolding numeric_fields
ends line wholes total old now s = sym s.read ∙ ap (λ (xs : List ℤ). Ok xs) (append-nil s.own)

-- as many numbers are read as fields write them
pub length_numbers : (line wholes : ℕ) (fields : List (List ℕ)) (vs : List ℤ) → numeric_fields line wholes fields ≡ Ok vs → length vs ≡ length fields
unfolding numeric_fields
length_numbers line wholes [] vs h = ap length (sym (same_value [] vs h))
length_numbers line wholes (f ∷ fields) vs h =
    let a = passed (numeric_field line wholes f) (λ v. numeric_fields line (wholes - 1) fields >>= λ others. Ok (v ∷ others)) vs h in
    let b = passed (numeric_fields line (wholes - 1) fields) (λ others. Ok (a.value ∷ others)) vs a.behind in
    ap length (sym (same_value (a.value ∷ b.value) vs b.behind)) ∙ ap suc (length_numbers line (wholes - 1) fields b.value b.here)

-- a line whose word, number and width are right adds its numbers
pub line_added : (word : Word) (columns : Columns) (place : ℕ) (r : Row) (first : List ℕ) (others fields : List (List ℕ)) (own old new : List ℤ) → r.fields ≡ first ∷ others → bytes_eq first (text_of word) ≡ true
    → own_fields columns.numbered place r.line others ≡ Ok fields → (length fields == columns.width) ≡ true → numeric_fields r.line columns.wholes fields ≡ Ok own → new ≡ old ++ own → AddsNumbers word columns place r old new
unfolding section_line
line_added word columns place r first others fields own old new are named after wide numbers added = record {
  own = own;
  read = rw (are, named, after, wide, numbers) refl;
  added = added;
  wide = length_numbers r.line columns.wholes fields own numbers ∙ eqb-true (length fields) columns.width wide;
}

pub if_ok_map : {A E : Type 0} (P Q : A → Type 0) (r : Result A E) → ((x : A) → P x → Q x) → IfOk r P → IfOk r Q
if_ok_map P Q (Ok x) next p = next x p
if_ok_map P Q (Err e) next p = tt
