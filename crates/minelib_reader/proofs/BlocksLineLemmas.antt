-- Reading the attributes of a line, and the lines of a block model file, one after the other, as loops do.
use Rattle.std.proofs.Common.{◌≡◌, ℕ, ℤ, suc, ◌+◌, ◌*◌, ◌^◌, ◌<◌, arith, length-append, List, [], ◌∷◌, ◌++◌, length, Result, Ok, Err, refl, sym, ap, ◌∙◌, append_assoc}
use Rattle.std.proofs.lemmas.List.{append-nil}
use Rattle.faults.specs.declared.fault.Fault.{Fault}
use Rattle.pit_model.specs.Size.{most_blocks}
use Rattle.minelib_reader.specs.Checks.{◌>>=◌}
use Rattle.minelib_reader.specs.Text.{Row}
use Rattle.std.specs.List.{All}
use Rattle.minelib_reader.specs.Number.{IsBounded}
use Rattle.minelib_reader.specs.Table.{Place, IsWhole}
use Rattle.minelib_reader.specs.Added.{AddsBlock}
use Rattle.minelib_reader.specs.Blocks.{attribute_of, attributes_of, front_of, block_line, blocks_from}
use Rattle.minelib_reader.proofs.CheckLemmas.{passed, same_value}

abbrev Attributes : Type 0
Attributes = Result (List ℤ) Fault

abbrev pub with_front : List ℤ → Attributes → Attributes
with_front front read = read >>= λ vs. Ok (front ++ vs)

-- what a loop over the fields keeps: the attributes read so far stand behind those of the lines before
pub record SoFar (line : ℕ) (rest : List (List ℕ)) (total : Attributes) (old now : List ℤ) : Type 0 where
  pub own : List ℤ
  pub read : with_front own (attributes_of line rest) ≡ total
  pub pushed : now ≡ old ++ own

regroup : (front : List ℤ) (v : ℤ) (read : Attributes) → with_front front (read >>= λ vs. Ok (v ∷ vs)) ≡ with_front (front ++ v ∷ []) read
regroup front v (Ok vs) = ap (λ (xs : List ℤ). Ok xs) (simp append_assoc)
regroup front v (Err e) = refl

pub begins : (line : ℕ) (rest : List (List ℕ)) (old : List ℤ) → SoFar line rest (attributes_of line rest) old old
begins line rest old = record { own = []; read = same (attributes_of line rest); pushed = sym (append-nil old) }
  where
    same : (r : Attributes) → with_front [] r ≡ r
    same (Ok vs) = refl
    same (Err e) = refl

pub goes_on : (line : ℕ) (f : List ℕ) (rest : List (List ℕ)) (total : Attributes) (old now : List ℤ) (v : ℤ) → SoFar line (f ∷ rest) total old now → attribute_of line f ≡ Ok v → SoFar line rest total old (now ++ v ∷ [])
unfolding attributes_of
goes_on line f rest total old now v s h = record {
  own = s.own ++ v ∷ [];
  read = let one : with_front s.own (attributes_of line (f ∷ rest)) ≡ with_front (s.own ++ v ∷ []) (attributes_of line rest) = rw h (regroup s.own v (attributes_of line rest)) in sym one ∙ s.read;
  pushed = ap (λ (xs : List ℤ). xs ++ v ∷ []) s.pushed ∙ append_assoc old s.own (v ∷ []);
}

pub stops : (e : Fault) (line : ℕ) (f : List ℕ) (rest : List (List ℕ)) (total : Attributes) (old now : List ℤ) → SoFar line (f ∷ rest) total old now → attribute_of line f ≡ Err e → total ≡ Err e
unfolding attributes_of
stops e line f rest total old now s h =
    let one : with_front s.own (attributes_of line (f ∷ rest)) ≡ Err e = rw h refl in sym s.read ∙ one

pub ends : (line : ℕ) (total : Attributes) (old now : List ℤ) → (s : SoFar line [] total old now) → total ≡ Ok s.own
unfolding attributes_of
ends line total old now s = sym s.read ∙ ap (λ (xs : List ℤ). Ok xs) (append-nil s.own)

-- as many attributes are read as fields write them
pub length_attributes : (line : ℕ) (fields : List (List ℕ)) (vs : List ℤ) → attributes_of line fields ≡ Ok vs → length vs ≡ length fields
unfolding attributes_of
length_attributes line [] vs h = ap length (sym (same_value [] vs h))
length_attributes line (f ∷ fields) vs h =
    let a = passed (attribute_of line f) (λ v. attributes_of line fields >>= λ others. Ok (v ∷ others)) vs h in
    let b = passed (attributes_of line fields) (λ others. Ok (a.value ∷ others)) vs a.behind in
    ap length (sym (same_value (a.value ∷ b.value) vs b.behind)) ∙ ap suc (length_attributes line fields b.value b.here)

pub front_stops : (e : Fault) (width i : ℕ) (r : Row) → front_of width i r ≡ Err e → block_line width i r ≡ Err e
unfolding block_line
front_stops e width i r h = rw h refl

pub attributes_stop : (e : Fault) (width i : ℕ) (r : Row) (front : Place × List (List ℕ)) → front_of width i r ≡ Ok front → attributes_of r.line front.1 ≡ Err e → block_line width i r ≡ Err e
unfolding block_line
attributes_stop e width i r front f h = rw (f, h) refl

pub block_added : (width i : ℕ) (r : Row) (front : Place × List (List ℕ)) (own old new : List ℤ) → front_of width i r ≡ Ok front → attributes_of r.line front.1 ≡ Ok own → length front.1 ≡ width → new ≡ old ++ own
    → AddsBlock width i r front.0 old new
unfolding block_line
block_added width i r front own old new f h wide added = record {
  own = own;
  read = rw (f, h) refl;
  added = added;
  wide = length_attributes r.line front.1 own h ∙ wide;
}

abbrev Blocks : Type 0
Blocks = Result (List Place × List ℤ) Fault

-- the blocks read before, and those still read
abbrev pub with_blocks : List Place → List ℤ → Blocks → Blocks
with_blocks places attributes read = read >>= λ b. Ok (places ++ b.0, attributes ++ b.1)

regroup_blocks : (places : List Place) (attributes own : List ℤ) (p : Place) (read : Blocks) → with_blocks places attributes (read >>= λ b. Ok (p ∷ b.0, own ++ b.1)) ≡ with_blocks (places ++ p ∷ []) (attributes ++ own) read
regroup_blocks places attributes own p (Ok b) =
    ap (λ (ps : List Place). Ok (ps, attributes ++ (own ++ b.1))) (sym (append_assoc places (p ∷ []) b.0))
    ∙ ap (λ (vs : List ℤ). Ok ((places ++ p ∷ []) ++ b.0, vs)) (sym (append_assoc attributes own b.1))
regroup_blocks places attributes own p (Err e) = refl

pub begin : (read : Blocks) → with_blocks [] [] read ≡ read
begin (Ok b) = refl
begin (Err e) = refl

pub go_on : (width i i' : ℕ) (rows rest : List Row) (r : Row) (places : List Place) (place : Place) (old new : List ℤ) (all : Blocks) → rows ≡ r ∷ rest → i' ≡ i + 1 → AddsBlock width i r place old new
    → with_blocks places old (blocks_from width i rows) ≡ all → with_blocks (places ++ place ∷ []) new (blocks_from width i' rest) ≡ all
unfolding blocks_from
go_on width i i' rows rest r places place old new all are next a so_far =
    let behind = blocks_from width (i + 1) rest in
    let one : with_blocks places old (blocks_from width i rows) ≡ with_blocks (places ++ place ∷ []) (old ++ a.own) behind = rw (are, a.read) (regroup_blocks places old a.own place behind) in
    ap (λ (vs : List ℤ). with_blocks (places ++ place ∷ []) vs (blocks_from width i' rest)) a.added
    ∙ ap (λ (k : ℕ). with_blocks (places ++ place ∷ []) (old ++ a.own) (blocks_from width k rest)) next
    ∙ sym one ∙ so_far

pub stop : (e : Fault) (width i : ℕ) (rows rest : List Row) (r : Row) (places : List Place) (old : List ℤ) (all : Blocks) → rows ≡ r ∷ rest → block_line width i r ≡ Err e
    → with_blocks places old (blocks_from width i rows) ≡ all → all ≡ Err e
unfolding blocks_from
stop e width i rows rest r places old all are h so_far =
    let one : with_blocks places old (blocks_from width i rows) ≡ Err e = rw (are, h) refl in sym so_far ∙ one

pub end : (width i : ℕ) (rows : List Row) (places : List Place) (old : List ℤ) (all : Blocks) → rows ≡ [] → with_blocks places old (blocks_from width i rows) ≡ all → all ≡ Ok (places, old)
unfolding blocks_from
end width i rows places old all none so_far =
    let one : with_blocks places old (blocks_from width i rows) ≡ Ok (places ++ [], old ++ []) = rw none refl in
    sym so_far ∙ one ∙ ap (λ (ps : List Place). Ok (ps, old ++ [])) (append-nil places) ∙ ap (λ (vs : List ℤ). Ok (places, vs)) (append-nil old)

-- one block more, with its attributes, keeps the limits
pub stays_whole : (width : ℕ) (r : Row) (places : List Place) (place : Place) (old new : List ℤ) → IsWhole width places old → length places < most_blocks → AddsBlock width (length places) r place old new
    → All (IsBounded (10 ^ 18)) new → IsWhole width (places ++ place ∷ []) new
stays_whole width r places place old new whole lt a small =
    let size = length-append places (place ∷ []) in
    let full : length new ≡ length places * width + width = ap length a.added ∙ length-append old a.own ∙ ap (λ (k : ℕ). k + length a.own) whole.full ∙ ap (λ (k : ℕ). length places * width + k) a.wide in
    let times : length (places ++ place ∷ []) * width ≡ (length places + 1) * width = ap (λ (k : ℕ). k * width) size in
    record { narrow = whole.narrow; few = omega (arith, lt, size); full = full ∙ sym (times ∙ one_more (length places) width); small = small }
  where
    one_more : (n w : ℕ) → (n + 1) * w ≡ n * w + w
    one_more n w = omega arith
