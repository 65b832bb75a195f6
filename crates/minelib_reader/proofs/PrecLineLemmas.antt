-- Reading the lines of a precedence file one after the other, as a loop does.
use Rattle.std.proofs.Common.{◌≡◌, ℕ, suc, ◌+◌, List, [], ◌∷◌, ◌++◌, length, Result, Ok, Err, refl, sym, ap, ◌∙◌, append_assoc, arith, length-append}
use Rattle.std.proofs.lemmas.List.{append-nil, length-map}
use Rattle.faults.specs.declared.fault.Fault.{Fault}
use Rattle.minelib_reader.specs.Checks.{◌>>=◌}
use Rattle.minelib_reader.specs.Text.{Row}
use Rattle.minelib_reader.specs.Marks.{AddsLine, AddsRows, with_pairs}
use Rattle.minelib_reader.specs.Prec.{need_of, needs_from, front_of, needs_line, pairs_of_line, pairs_from}
use Rattle.minelib_reader.proofs.CheckLemmas.{passed, same_value}

-- as many predecessors are read as fields name them
pub length_needs : (n id line : ℕ) (seen : List ℕ) (fields : List (List ℕ)) (ps : List ℕ) → needs_from n id line seen fields ≡ Ok ps → length ps ≡ length fields
unfolding needs_from
length_needs n id line seen [] ps h = ap length (sym (same_value [] ps h))
length_needs n id line seen (f ∷ fields) ps h =
    let a = passed (need_of n id line seen f) (λ p. needs_from n id line (seen ++ p ∷ []) fields >>= λ others. Ok (p ∷ others)) ps h in
    let b = passed (needs_from n id line (seen ++ a.value ∷ []) fields) (λ others. Ok (a.value ∷ others)) ps a.behind in
    ap length (sym (same_value (a.value ∷ b.value) ps b.behind)) ∙ ap suc (length_needs n id line (seen ++ a.value ∷ []) fields b.value b.here)

-- so many pairs are added as fields name predecessors
pub named : (n id line : ℕ) (seen : List ℕ) (fields : List (List ℕ)) (ps : List ℕ) (old new : List (ℕ × ℕ)) → needs_from n id line seen fields ≡ Ok ps → new ≡ old ++ pairs_of_line id ps → length new ≡ length old + length fields
named n id line seen fields ps old new h pushed =
    let pair_with : ℕ → ℕ × ℕ = λ p. (id, p) in
    let size : length (pairs_of_line id ps) ≡ length ps = length-map ps pair_with in
    omega (arith, ap length pushed, length-append old (pairs_of_line id ps), size, length_needs n id line seen fields ps h)

pub front_stops : (e : Fault) (n from total : ℕ) (r : Row) → front_of n from total r ≡ Err e → needs_line n from total r ≡ Err e
unfolding needs_line
front_stops e n from total r h = rw h refl

pub needs_stop : (e : Fault) (n from total : ℕ) (r : Row) (front : ℕ × ℕ × List (List ℕ)) → front_of n from total r ≡ Ok front → needs_from n front.0 r.line [] front.2 ≡ Err e → needs_line n from total r ≡ Err e
unfolding needs_line
needs_stop e n from total r front f h = rw (f, h) refl

pub line_added : (n from total : ℕ) (r : Row) (front : ℕ × ℕ × List (List ℕ)) (ps : List ℕ) (old new : List (ℕ × ℕ)) → front_of n from total r ≡ Ok front → needs_from n front.0 r.line [] front.2 ≡ Ok ps
    → front.1 ≡ length front.2 → new ≡ old ++ pairs_of_line front.0 ps → AddsLine n from total r old new (front.0 + 1) (total + front.1)
unfolding needs_line
line_added n from total r front ps old new f h count pairs = record {
  id = front.0;
  needs = ps;
  read = rw (f, h) refl;
  pairs = pairs;
  next = refl;
  sum = ap (λ (k : ℕ). total + k) (count ∙ sym (length_needs n front.0 r.line [] front.2 ps h));
}

abbrev Pairs : Type 0
Pairs = Result (List (ℕ × ℕ)) Fault

regroup : (old more : List (ℕ × ℕ)) (read : Pairs) → with_pairs old (read >>= λ others. Ok (more ++ others)) ≡ with_pairs (old ++ more) read
regroup old more (Ok ps) = ap (λ (xs : List (ℕ × ℕ)). Ok xs) (sym (append_assoc old more ps))
regroup old more (Err e) = refl

pub begin : (read : Pairs) → with_pairs [] read ≡ read
begin (Ok ps) = refl
begin (Err e) = refl

pub go_on : (n from total from' total' : ℕ) (rows rest : List Row) (r : Row) (old new : List (ℕ × ℕ)) (all : Pairs) → rows ≡ r ∷ rest → AddsLine n from total r old new from' total'
    → with_pairs old (pairs_from n from total rows) ≡ all → with_pairs new (pairs_from n from' total' rest) ≡ all
unfolding pairs_from
go_on n from total from' total' rows rest r old new all are a so_far =
    let behind = pairs_from n (a.id + 1) (total + length a.needs) rest in
    let one : with_pairs old (pairs_from n from total rows) ≡ with_pairs (old ++ pairs_of_line a.id a.needs) behind = rw (are, a.read) (regroup old (pairs_of_line a.id a.needs) behind) in
    ap (λ (x : List (ℕ × ℕ)). with_pairs x (pairs_from n from' total' rest)) a.pairs
    ∙ ap (λ (k : ℕ). with_pairs (old ++ pairs_of_line a.id a.needs) (pairs_from n k total' rest)) a.next
    ∙ ap (λ (k : ℕ). with_pairs (old ++ pairs_of_line a.id a.needs) (pairs_from n (a.id + 1) k rest)) a.sum
    ∙ sym one ∙ so_far

pub stop : (e : Fault) (n from total : ℕ) (rows rest : List Row) (r : Row) (old : List (ℕ × ℕ)) (all : Pairs) → rows ≡ r ∷ rest → needs_line n from total r ≡ Err e → with_pairs old (pairs_from n from total rows) ≡ all → all ≡ Err e
unfolding pairs_from
stop e n from total rows rest r old all are h so_far =
    let one : with_pairs old (pairs_from n from total rows) ≡ Err e = rw (are, h) refl in sym so_far ∙ one

-- one row more was added to some
pub row_added : (n from total from' total' from'' total'' : ℕ) (all rows rest : List Row) (r : Row) (old mid new : List (ℕ × ℕ)) → rows ≡ r ∷ rest → AddsLine n from' total' r mid new from'' total''
    → ((behind : List Row) → with_pairs mid (pairs_from n from' total' (rows ++ behind)) ≡ with_pairs old (pairs_from n from total (all ++ behind)))
    → (behind : List Row) → with_pairs new (pairs_from n from'' total'' (rest ++ behind)) ≡ with_pairs old (pairs_from n from total (all ++ behind))
row_added n from total from' total' from'' total'' all rows rest r old mid new are a so_far behind =
    go_on n from' total' from'' total'' (rows ++ behind) (rest ++ behind) r mid new (with_pairs old (pairs_from n from total (all ++ behind))) (ap (λ (rs : List Row). rs ++ behind) are) a (so_far behind)

-- the rows of a whole text were added to none
pub all_added : (n from total : ℕ) (rows : List Row) (new : List (ℕ × ℕ)) → AddsRows n 0 0 rows [] new from total → pairs_from n 0 0 rows ≡ Ok new
unfolding pairs_from
all_added n from total rows new added =
    let one : with_pairs new (pairs_from n from total []) ≡ Ok new = ap (λ (ps : List (ℕ × ℕ)). Ok ps) (append-nil new) in
    ap (pairs_from n 0 0) (sym (append-nil rows)) ∙ sym (begin (pairs_from n 0 0 (rows ++ []))) ∙ sym (added []) ∙ one
