-- A text that is read piece by piece: the lines and rows of the parts are those of the whole.
use Rattle.std.proofs.Common.{◌≡◌, ℕ, ◌+◌, Bool, true, false, cond, eqb, List, [], ◌∷◌, ◌++◌, length, refl, sym, ap, ◌∙◌, append_assoc, arith, length-append}
use Rattle.std.proofs.lemmas.List.{append-nil}
use Rattle.std.specs.List.{slice_split, onto_first}
use Rattle.std.specs.Str.Lines.{lines, lines_of_parts, strip_carriage_return}
use Rattle.minelib_reader.specs.Device.{Progress}
use Rattle.minelib_reader.specs.Pieces.{EndsLine, IsPiece}
use Rattle.minelib_reader.specs.Text.{Row, rows_at, lines_at, rows_from, with_row, fields_of}
use Rattle.minelib_reader.proofs.LineLemmas.{some_parts}

-- behind what was kept, a text was read, and this is all of it
pub record Gathers (old new : Progress) (before piece : List ℕ) : Type 0 where
  pub text : List ℕ
  pub bytes : new.bytes ≡ old.bytes ++ text
  pub failures : new.failures ≡ old.failures
  pub allowance : new.allowance + length text ≡ old.allowance
  pub all : before ++ text ≡ piece

-- nothing is read yet
pub gathers_none : (old : Progress) (before piece : List ℕ) → before ≡ piece → Gathers old old before piece
gathers_none old before piece same = record { text = []; bytes = sym (append-nil old.bytes); failures = refl; allowance = omega arith; all = append-nil before ∙ same }

-- the text has ended
pub gathers_all : (old mid new : Progress) (AtEnd : Type 0) (before piece kept : List ℕ) → Gathers old mid before piece → kept ≡ [] → new.bytes ≡ mid.bytes → new.failures ≡ mid.failures → new.allowance ≡ mid.allowance
    → AtEnd → IsPiece old new AtEnd before piece kept true
gathers_all old mid new AtEnd before piece kept g none bytes failures allowance ended = record {
  text = g.text;
  bytes = bytes ∙ g.bytes;
  failures = failures ∙ g.failures;
  allowance = omega (arith, allowance, g.allowance);
  parts = g.all ∙ sym (append-nil piece) ∙ ap (λ (k : List ℕ). piece ++ k) (sym none);
  last = λ _. (ended, none);
  more = λ not. absurd cc;
}

-- more was read, up to a line's end and behind it
pub gathers_piece : (old mid new : Progress) (AtEnd : Type 0) (before piece ended kept : List ℕ) → Gathers old mid before piece → EndsLine ended
    → new.bytes ≡ mid.bytes ++ (ended ++ kept) → new.failures ≡ mid.failures → new.allowance + length (ended ++ kept) ≡ mid.allowance → IsPiece old new AtEnd before (piece ++ ended) kept false
gathers_piece old mid new AtEnd before piece ended kept g (front, ends) bytes failures allowance = record {
  text = g.text ++ (ended ++ kept);
  bytes = bytes ∙ ap (λ (bs : List ℕ). bs ++ (ended ++ kept)) g.bytes ∙ append_assoc old.bytes g.text (ended ++ kept);
  failures = failures ∙ g.failures;
  allowance = omega (arith, allowance, g.allowance, length-append g.text (ended ++ kept));
  parts = sym (append_assoc before g.text (ended ++ kept)) ∙ ap (λ (bs : List ℕ). bs ++ (ended ++ kept)) g.all ∙ sym (append_assoc piece ended kept);
  last = λ not. absurd cc;
  more = λ _. ((piece ++ front, ap (λ (bs : List ℕ). piece ++ bs) ends ∙ sym (append_assoc piece front (10 ∷ []))), omega (arith, length-append g.text (ended ++ kept), length-append ended kept, ap length ends, length-append front (10 ∷ [])));
}

abbrev is_newline : ℕ → Bool
is_newline b = eqb b 10

-- the parts of a text that a newline ends, and those behind it
onto_more : (x : ℕ) (part : List ℕ) (parts more : List (List ℕ)) → onto_first x ((part ∷ parts) ++ more) ≡ onto_first x (part ∷ parts) ++ more
onto_more x part parts more = refl

split_more : (v : Bool) (x : ℕ) (front behind more : List (List ℕ)) (part : List ℕ) (parts : List (List ℕ)) → front ≡ part ∷ parts → behind ≡ front ++ more
    → cond v ([] ∷ behind) (onto_first x behind) ≡ cond v ([] ∷ front) (onto_first x front) ++ more
split_more true x front behind more part parts some are = ap (λ (ps : List (List ℕ)). [] ∷ ps) are
split_more false x front behind more part parts some are =
    ap (onto_first x) (are ∙ ap (λ (ps : List (List ℕ)). ps ++ more) some) ∙ onto_more x part parts more ∙ ap (λ (ps : List (List ℕ)). onto_first x ps ++ more) (sym some)

split_at_newline : (xs ys : List ℕ) → slice_split is_newline (xs ++ 10 ∷ ys) ≡ slice_split is_newline xs ++ slice_split is_newline ys
split_at_newline [] ys = refl
split_at_newline (x ∷ xs) ys =
    let some = some_parts is_newline xs in
    split_more (is_newline x) x (slice_split is_newline xs) (slice_split is_newline (xs ++ 10 ∷ ys)) (slice_split is_newline ys) some.0 some.1 some.2 (split_at_newline xs ys)

-- the lines of parts that a newline ends, and those of the parts behind
ended : List (List ℕ) → List (List ℕ)
ended [] = []
ended (x ∷ xs) = strip_carriage_return x ∷ ended xs

lines_of_more : (parts : List (List ℕ)) (part : List ℕ) (more : List (List ℕ)) → lines_of_parts (parts ++ part ∷ more) ≡ ended parts ++ lines_of_parts (part ∷ more)
unfolding ended
lines_of_more [] part more = refl
lines_of_more (x ∷ []) part more = refl
lines_of_more (x ∷ y ∷ ys) part more = ap (λ (ls : List (List ℕ)). strip_carriage_return x ∷ ls) (lines_of_more (y ∷ ys) part more)

lines_split : (front behind : List ℕ) → lines (front ++ 10 ∷ behind) ≡ ended (slice_split is_newline front) ++ lines behind
lines_split front behind =
    let some = some_parts is_newline behind in
    ap lines_of_parts (split_at_newline front behind ∙ ap (λ (ps : List (List ℕ)). slice_split is_newline front ++ ps) some.2)
    ∙ lines_of_more (slice_split is_newline front) some.0 some.1
    ∙ ap (λ (ps : List (List ℕ)). ended (slice_split is_newline front) ++ lines_of_parts ps) (sym some.2)

lines_behind : (front behind : List ℕ) → lines ((front ++ 10 ∷ []) ++ behind) ≡ lines (front ++ 10 ∷ []) ++ lines behind
lines_behind front behind =
    ap lines (append_assoc front (10 ∷ []) behind) ∙ lines_split front behind
    ∙ ap (λ (ls : List (List ℕ)). ls ++ lines behind) (sym (append-nil (ended (slice_split is_newline front))) ∙ sym (lines_split front []))

with_more : (k : ℕ) (fields : List (List ℕ)) (rows more : List Row) → with_row k fields (rows ++ more) ≡ with_row k fields rows ++ more
with_more k [] rows more = refl
with_more k (f ∷ fs) rows more = refl

rows_more : (k : ℕ) (ls more : List (List ℕ)) → rows_from k (ls ++ more) ≡ rows_from k ls ++ rows_from (k + length ls) more
unfolding rows_from
rows_more k [] more = ap (λ (i : ℕ). rows_from i more) (omega arith)
rows_more k (l ∷ ls) more =
    ap (with_row k (fields_of l)) (rows_more (k + 1) ls more ∙ ap (λ (i : ℕ). rows_from (k + 1) ls ++ rows_from i more) (omega arith))
    ∙ with_more k (fields_of l) (rows_from (k + 1) ls) (rows_from (k + length (l ∷ ls)) more)

-- the rows of a piece, and those of what comes behind it
pub rows_behind : (k : ℕ) (piece behind : List ℕ) → EndsLine piece → rows_at k (piece ++ behind) ≡ rows_at k piece ++ rows_at (lines_at k piece) behind
rows_behind k piece behind (front, ends) =
    ap (λ (p : List ℕ). rows_at k (p ++ behind)) ends ∙ ap (rows_from (k + 1)) (lines_behind front behind)
    ∙ ap (λ (p : List ℕ). rows_from (k + 1) (lines p ++ lines behind)) (sym ends)
    ∙ rows_more (k + 1) (lines piece) (lines behind)
    ∙ ap (λ (i : ℕ). rows_at k piece ++ rows_from i (lines behind)) (omega arith)
