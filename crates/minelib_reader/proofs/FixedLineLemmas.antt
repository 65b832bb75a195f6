-- Reading the lines of a file of fixed blocks one after the other, as a loop does.
use Rattle.std.proofs.Common.{◌≡◌, ℕ, ◌+◌, Bool, true, false, List, [], ◌∷◌, ◌++◌, Result, Ok, Err, refl, sym, ap, ◌∙◌, append_assoc}
use Rattle.std.proofs.lemmas.List.{append-nil}
use Rattle.faults.specs.declared.fault.Fault.{Fault}
use Rattle.pit_model.specs.Fixed.{FixedLists}
use Rattle.minelib_reader.specs.Checks.{◌>>=◌}
use Rattle.minelib_reader.specs.Text.{Row}
use Rattle.minelib_reader.specs.Fixed.{fixed_line, fixed_lists, fixed_from, with_block}

abbrev Lists : Type 0
Lists = Result FixedLists Fault

-- the lists read before, and those still read
abbrev joined : FixedLists → FixedLists → FixedLists
joined front behind = fixed_lists (front.forced ++ behind.forced) (front.barred ++ behind.barred)

abbrev pub with_lists : FixedLists → Lists → Lists
with_lists front read = read >>= λ lists. Ok (joined front lists)

-- the lists with a block more at the end of one of them
abbrev pub pushed : Bool → ℕ → FixedLists → FixedLists
pushed true id lists = fixed_lists (lists.forced ++ id ∷ []) lists.barred
pushed false id lists = fixed_lists lists.forced (lists.barred ++ id ∷ [])

regroup_one : (is_forced : Bool) (id : ℕ) (front behind : FixedLists) → joined front (with_block is_forced id behind) ≡ joined (pushed is_forced id front) behind
regroup_one true id front behind = ap (λ (xs : List ℕ). fixed_lists xs (front.barred ++ behind.barred)) (sym (append_assoc front.forced (id ∷ []) behind.forced))
regroup_one false id front behind = ap (λ (xs : List ℕ). fixed_lists (front.forced ++ behind.forced) xs) (sym (append_assoc front.barred (id ∷ []) behind.barred))

regroup : (is_forced : Bool) (id : ℕ) (front : FixedLists) (read : Lists) → with_lists front (read >>= λ others. Ok (with_block is_forced id others)) ≡ with_lists (pushed is_forced id front) read
regroup is_forced id front (Ok lists) = ap (λ (x : FixedLists). Ok x) (regroup_one is_forced id front lists)
regroup is_forced id front (Err e) = refl

pub begin : (read : Lists) → with_lists (fixed_lists [] []) read ≡ read
begin (Ok lists) = refl
begin (Err e) = refl

pub go_on : (n from : ℕ) (rows rest : List Row) (r : Row) (line : Bool × ℕ) (front : FixedLists) (all : Lists) → rows ≡ r ∷ rest → fixed_line n from r ≡ Ok line
    → with_lists front (fixed_from n from rows) ≡ all → with_lists (pushed line.0 line.1 front) (fixed_from n (line.1 + 1) rest) ≡ all
unfolding fixed_from
go_on n from rows rest r line front all are h so_far =
    let behind = fixed_from n (line.1 + 1) rest in
    let one : with_lists front (fixed_from n from rows) ≡ with_lists (pushed line.0 line.1 front) behind = rw (are, h) (regroup line.0 line.1 front behind) in
    sym one ∙ so_far

pub stop : (e : Fault) (n from : ℕ) (rows rest : List Row) (r : Row) (front : FixedLists) (all : Lists) → rows ≡ r ∷ rest → fixed_line n from r ≡ Err e
    → with_lists front (fixed_from n from rows) ≡ all → all ≡ Err e
unfolding fixed_from
stop e n from rows rest r front all are h so_far =
    let one : with_lists front (fixed_from n from rows) ≡ Err e = rw (are, h) refl in sym so_far ∙ one

pub end : (n from : ℕ) (rows : List Row) (front : FixedLists) (all : Lists) → rows ≡ [] → with_lists front (fixed_from n from rows) ≡ all → all ≡ Ok front
unfolding fixed_from
end n from rows front all none so_far =
    let one : with_lists front (fixed_from n from rows) ≡ Ok (joined front (fixed_lists [] [])) = rw none refl in
    sym so_far ∙ one
    ∙ ap (λ (xs : List ℕ). Ok (fixed_lists xs (front.barred ++ []))) (append-nil front.forced)
    ∙ ap (λ (xs : List ℕ). Ok (fixed_lists front.forced xs)) (append-nil front.barred)
