-- What a text is refused for lies in the text: never a seat that was refused, nor a budget, nor a clash of fixed blocks.
use Rattle.std.proofs.Common.{◌≡◌, ℕ, zero, suc, ◌+◌, ◌++◌, length, Bool, true, false, refl, subst, List, [], ◌∷◌, Option, Some, None, take}
use Rattle.std.specs.Prelude.{ℤ, ◌-◌, Result, Ok, Err, nat_lt, nat_le, ◌==◌, not, ◌&&◌, codes}
use Rattle.std.specs.Str.{bytes_eq}
use Rattle.minelib_reader.specs.Number.{whole_of, decimal_of, signed_of}
use Rattle.std.specs.List.{slice_get}
use Rattle.faults.specs.declared.fault.Fault.{Fault}
use Rattle.faults.specs.declared.refusal.Refusal.{Refusal}
use Rattle.faults.specs.declared.refusal.Refusal.TheVariants.{NoSeat, Exhausted, FixedClash}
use Rattle.minelib_reader.specs.Checks.{◌>>=◌, ok_if}
use Rattle.std.specs.Result.{result_err}
use Rattle.minelib_reader.specs.Text.{two_of, two_and_more, Row, rows_of, count_of_lines, four_and_more}
use Rattle.pit_model.specs.Size.{most_blocks, most_pairs}
use Rattle.minelib_reader.specs.Upit.{name_line, type_line, blocks_line, objective_line, value_line}
use Rattle.minelib_reader.specs.UpitFault.{model_line_fault, place_fault, blocks_named, IsFirstUpitFault}
use Rattle.pit_model.specs.Fixed.{is_among}
use Rattle.minelib_reader.specs.Prec.{need_of, needs_from, front_of, needs_line}
use Rattle.minelib_reader.specs.Fixed.{is_forced_by, fixed_line}
use Rattle.minelib_reader.specs.FixedFault.{IsFirstFixedFault, fixed_line_fault, from_behind as fixed_from_behind}
use Rattle.minelib_reader.specs.Table.{Place}
use Rattle.minelib_reader.specs.Blocks.{most_columns, is_coordinate, width_line, coordinate_of, front_of as place_front, attribute_of, attributes_of, block_line}
use Rattle.minelib_reader.specs.BlocksFault.{IsFirstTableFault, block_line_fault, width_named}
use Rattle.minelib_reader.specs.PrecFault.{IsFirstPrecFault, needs_line_fault, from_behind, total_behind}

abbrev pub IsOfText : Refusal → Type 0
IsOfText NoSeat = ⊥
IsOfText (Exhausted count) = ⊥
IsOfText (FixedClash block) = ⊥
IsOfText _ = Unit {0}

abbrev pub FailsOfText : {X : Type 0} → Result X Fault → Type 0
FailsOfText (Ok x) = Unit {0}
FailsOfText (Err e) = IsOfText e.refusal

abbrev pub MaybeOfText : Option Fault → Type 0
MaybeOfText None = Unit {0}
MaybeOfText (Some e) = IsOfText e.refusal

-- by cases on a step
pub by_option : {X P : Type 0} (o : Option X) → (o ≡ None → P) → ((x : X) → o ≡ Some x → P) → P
by_option None none some = none refl
by_option (Some x) none some = some x refl

pub by_test : {P : Type 0} (b : Bool) → (b ≡ false → P) → (b ≡ true → P) → P
by_test false fails passes = fails refl
by_test true fails passes = passes refl

pub check_of_text : (e : Fault) (b : Bool) → IsOfText e.refusal → FailsOfText (ok_if b e)
check_of_text e true is = tt
check_of_text e false is = is

pub maybe_of_text : {X : Type 0} (m : Result X Fault) → FailsOfText m → MaybeOfText (result_err m)
maybe_of_text (Ok x) is = tt
maybe_of_text (Err e) is = is

name_of_text : (r : Row) → FailsOfText (name_line r)
unfolding name_line
name_of_text r = check_of_text _ _ tt

type_of_text : (r : Row) → FailsOfText (type_line r)
unfolding type_line
type_of_text r = check_of_text _ _ tt

objective_of_text : (r : Row) → FailsOfText (objective_line r)
unfolding objective_line
objective_of_text r = check_of_text _ _ tt

blocks_of_text : (r : Row) → FailsOfText (blocks_line r)
unfolding blocks_line
blocks_of_text r =
    by_option (two_of r.fields) (λ e. rw e tt) (λ pair e. rw e
    (by_test (bytes_eq pair.0 (codes "NBLOCKS:")) (λ e2. rw e2 tt) (λ e2. rw e2
    (by_option (whole_of pair.1) (λ e3. rw e3 tt) (λ n e3. rw e3
    (by_test (nat_le n most_blocks) (λ e4. rw e4 tt) (λ e4. rw e4 tt)))))))

value_of_text : (i : ℕ) (r : Row) → FailsOfText (value_line i r)
unfolding value_line
value_of_text i r =
    by_option (two_of r.fields) (λ e. rw e tt) (λ pair e. rw e
    (by_option (whole_of pair.0) (λ e2. rw e2 tt) (λ id e2. rw e2
    (by_test (id == i) (λ e3. rw e3 tt) (λ e3. rw e3
    (by_option (decimal_of pair.1) (λ e4. rw e4 tt) (λ x e4. rw e4 tt)))))))

need_of_text : (n id line : ℕ) (seen field : List ℕ) → FailsOfText (need_of n id line seen field)
unfolding need_of
need_of_text n id line seen field =
    by_option (whole_of field) (λ e. rw e tt) (λ p e. rw e
    (by_test (nat_lt p n) (λ e2. rw e2 tt) (λ e2. rw e2
    (by_test (not (p == id)) (λ e3. rw e3 tt) (λ e3. rw e3
    (by_test (not (is_among seen p)) (λ e4. rw e4 tt) (λ e4. rw e4 tt)))))))

-- of two steps
pub then_of_text : {A B : Type 0} (m : Result A Fault) (f : A → Result B Fault) → FailsOfText m → ((x : A) → FailsOfText (f x)) → FailsOfText (m >>= f)
then_of_text (Ok x) f m all = all x
then_of_text (Err e) f m all = m

needs_of_text : (n id line : ℕ) (seen : List ℕ) (fields : List (List ℕ)) → FailsOfText (needs_from n id line seen fields)
unfolding needs_from
needs_of_text n id line seen [] = tt
needs_of_text n id line seen (field ∷ fields) =
    then_of_text (need_of n id line seen field) (λ p. needs_from n id line (seen ++ p ∷ []) fields >>= (λ others. Ok (p ∷ others)))
    (need_of_text n id line seen field)
    (λ p. then_of_text (needs_from n id line (seen ++ p ∷ []) fields) (λ others. Ok (p ∷ others)) (needs_of_text n id line (seen ++ p ∷ []) fields) (λ others. tt))

front_of_text : (n from total : ℕ) (r : Row) → FailsOfText (front_of n from total r)
unfolding front_of
front_of_text n from total r =
    by_option (two_and_more r.fields) (λ e. rw e tt) (λ parts e. rw e
    (by_option (whole_of parts.0) (λ e2. rw e2 tt) (λ id e2. rw e2
    (by_test (nat_lt id n && nat_le from id) (λ e3. rw e3 tt) (λ e3. rw e3
    (by_option (whole_of parts.1) (λ e4. rw e4 tt) (λ count e4. rw e4
    (by_test (length parts.2 == count) (λ e5. rw e5 tt) (λ e5. rw e5
    (by_test (nat_le (total + count) most_pairs) (λ e6. rw e6 tt) (λ e6. rw e6 tt)))))))))))

line_of_text : (n from total : ℕ) (r : Row) → FailsOfText (needs_line n from total r)
unfolding needs_line
line_of_text n from total r =
    then_of_text (front_of n from total r) (λ front. needs_from n front.0 r.line [] front.2 >>= (λ needs. Ok (front.0, needs)))
    (front_of_text n from total r)
    (λ front. then_of_text (needs_from n front.0 r.line [] front.2) (λ needs. Ok (front.0, needs)) (needs_of_text n front.0 r.line [] front.2) (λ needs. tt))

-- a line of a model, by its place
row_of_text : (n place : ℕ) (r : Row) → MaybeOfText (model_line_fault n place r)
row_of_text n zero r = maybe_of_text (name_line r) (name_of_text r)
row_of_text n (suc zero) r = maybe_of_text (type_line r) (type_of_text r)
row_of_text n (suc (suc zero)) r = maybe_of_text (blocks_line r) (blocks_of_text r)
row_of_text n (suc (suc (suc zero))) r = maybe_of_text (objective_line r) (objective_of_text r)
row_of_text n (suc (suc (suc (suc i)))) r = by_test (nat_lt i n) (λ e. rw e tt) (λ e. rw e (maybe_of_text (value_line i r) (value_of_text i r)))

place_of_text : (count n place : ℕ) (o : Option Row) → MaybeOfText (place_fault count n place o)
place_of_text count n place None = by_test (nat_lt place (n + 4)) (λ e. rw e tt) (λ e. rw e tt)
place_of_text count n place (Some r) = row_of_text n place r

prec_row_of_text : (n from total : ℕ) (o : Option Row) → MaybeOfText (needs_line_fault n from total o)
prec_row_of_text n from total None = tt
prec_row_of_text n from total (Some r) = maybe_of_text (needs_line n from total r) (line_of_text n from total r)

pub upit_fault_of_text : (text : List ℕ) (e : Fault) → IsFirstUpitFault text e → IsOfText e.refusal
upit_fault_of_text text e is =
    subst MaybeOfText is.here (place_of_text (count_of_lines text) (blocks_named (slice_get (rows_of text) 2)) is.place (slice_get (rows_of text) is.place))

pub prec_fault_of_text : (n : ℕ) (text : List ℕ) (e : Fault) → IsFirstPrecFault n text e → IsOfText e.refusal
prec_fault_of_text n text e is =
    subst MaybeOfText is.here
    (prec_row_of_text n (from_behind 0 (take is.place (rows_of text))) (total_behind 0 (take is.place (rows_of text))) (slice_get (rows_of text) is.place))

-- a line of a file of fixed blocks
fixed_line_of_text : (n from : ℕ) (r : Row) → FailsOfText (fixed_line n from r)
unfolding fixed_line
fixed_line_of_text n from r =
    by_option (two_of r.fields) (λ e. rw e tt) (λ pair e. rw e
    (by_option (is_forced_by pair.0) (λ e2. rw e2 tt) (λ is_forced e2. rw e2
    (by_option (whole_of pair.1) (λ e3. rw e3 tt) (λ id e3. rw e3
    (by_test (nat_lt id n && nat_le from id) (λ e4. rw e4 tt) (λ e4. rw e4 tt)))))))

fixed_row_of_text : (n from : ℕ) (o : Option Row) → MaybeOfText (fixed_line_fault n from o)
fixed_row_of_text n from None = tt
fixed_row_of_text n from (Some r) = maybe_of_text (fixed_line n from r) (fixed_line_of_text n from r)

pub fixed_fault_of_text : (n : ℕ) (text : List ℕ) (e : Fault) → IsFirstFixedFault n text e → IsOfText e.refusal
fixed_fault_of_text n text e is = subst MaybeOfText is.here (fixed_row_of_text n (fixed_from_behind 0 (take is.place (rows_of text))) (slice_get (rows_of text) is.place))

-- a line of a block model
width_of_text : (r : Row) → FailsOfText (width_line r)
unfolding width_line
width_of_text r =
    by_test (nat_le 4 (length r.fields)) (λ e. rw e tt) (λ e. rw e
    (by_test (nat_le (length r.fields - 4) most_columns) (λ e2. rw e2 tt) (λ e2. rw e2 tt)))

coordinate_of_text : (line : ℕ) (field : List ℕ) → FailsOfText (coordinate_of line field)
unfolding coordinate_of
coordinate_of_text line field =
    by_option (signed_of field) (λ e. rw e tt) (λ c e. rw e
    (by_test (is_coordinate c) (λ e2. rw e2 tt) (λ e2. rw e2 tt)))

place_of_text_line : (line : ℕ) (fields : List ℕ × List ℕ × List ℕ) (others : List (List ℕ)) → FailsOfText {X = Place × List (List ℕ)} (coordinate_of line fields.0 >>= (λ x. coordinate_of line fields.1 >>= (λ y. coordinate_of line fields.2 >>= (λ z. Ok ((x, y, z), others)))))
place_of_text_line line fields others =
    let placed : ℤ → ℤ → ℤ → Result (Place × List (List ℕ)) Fault = λ x y z. Ok ((x, y, z), others) in
    then_of_text (coordinate_of line fields.0) (λ x. coordinate_of line fields.1 >>= (λ y. coordinate_of line fields.2 >>= (λ z. placed x y z))) (coordinate_of_text line fields.0)
    (λ x. then_of_text (coordinate_of line fields.1) (λ y. coordinate_of line fields.2 >>= (λ z. placed x y z)) (coordinate_of_text line fields.1)
    (λ y. then_of_text (coordinate_of line fields.2) (λ z. placed x y z) (coordinate_of_text line fields.2) (λ z. tt)))

place_front_of_text : (width i : ℕ) (r : Row) → FailsOfText (place_front width i r)
unfolding place_front
place_front_of_text width i r =
    by_option (four_and_more r.fields) (λ e. rw e tt) (λ parts e. rw e
    (by_test (length parts.4 == width) (λ e2. rw e2 tt) (λ e2. rw e2
    (by_option (whole_of parts.0) (λ e3. rw e3 tt) (λ id e3. rw e3
    (by_test (id == i) (λ e4. rw e4 tt) (λ e4. rw e4
    (by_test (nat_lt id most_blocks) (λ e5. rw e5 tt) (λ e5. rw e5
    (place_of_text_line r.line (parts.1, parts.2, parts.3) parts.4))))))))))

attribute_of_text : (line : ℕ) (field : List ℕ) → FailsOfText (attribute_of line field)
unfolding attribute_of
attribute_of_text line field = by_option (decimal_of field) (λ e. rw e tt) (λ x e. rw e tt)

attributes_of_text : (line : ℕ) (fields : List (List ℕ)) → FailsOfText (attributes_of line fields)
unfolding attributes_of
attributes_of_text line [] = tt
attributes_of_text line (field ∷ fields) =
    then_of_text (attribute_of line field) (λ value. attributes_of line fields >>= (λ others. Ok (value ∷ others))) (attribute_of_text line field)
    (λ value. then_of_text (attributes_of line fields) (λ others. Ok (value ∷ others)) (attributes_of_text line fields) (λ others. tt))

block_of_text : (width i : ℕ) (r : Row) → FailsOfText (block_line width i r)
unfolding block_line
block_of_text width i r =
    then_of_text (place_front width i r) (λ front. attributes_of r.line front.1 >>= (λ attributes. Ok (front.0, attributes))) (place_front_of_text width i r)
    (λ front. then_of_text (attributes_of r.line front.1) (λ attributes. Ok (front.0, attributes)) (attributes_of_text r.line front.1) (λ attributes. tt))

table_row_of_text : (width k : ℕ) (o : Option Row) → MaybeOfText (block_line_fault width k o)
table_row_of_text width k None = tt
table_row_of_text width zero (Some r) = maybe_of_text (width_line r >>= (λ w. block_line w 0 r)) (then_of_text (width_line r) (λ w. block_line w 0 r) (width_of_text r) (λ w. block_of_text w 0 r))
table_row_of_text width (suc k) (Some r) = maybe_of_text (block_line width (suc k) r) (block_of_text width (suc k) r)

pub table_fault_of_text : (text : List ℕ) (e : Fault) → IsFirstTableFault text e → IsOfText e.refusal
table_fault_of_text text e is =
    subst MaybeOfText is.here (table_row_of_text (width_named (rows_of text)) is.place (slice_get (rows_of text) is.place))
