-- The reading of a block model file fails by the fault of the least line that breaks a check, and only where one does.
-- Its idea: each line is checked by its place and the width alone, and the width is known where the first line passes.
use Rattle.std.proofs.Common.{◌≡◌, ℕ, zero, suc, ◌+◌, ◌-◌, leb, List, [], ◌∷◌, ◌++◌, length, Option, Some, None, Result, Ok, Err, refl, ap, ◌∙◌, arith, inl, inr, ℤ}
use Rattle.std.specs.List.{slice_get}
use Rattle.faults.specs.declared.fault.Fault.{Fault}
use Rattle.faults.specs.declared.refusal.Refusal.TheVariants.{OverLimit, WrongFieldCount}
use Rattle.minelib_reader.specs.Checks.{◌>>=◌, ok_if}
use Rattle.std.specs.Result.{result_err}
use Rattle.faults.specs.FirstFault.{IsFirstFault}
use Rattle.minelib_reader.specs.Text.{Row}
use Rattle.minelib_reader.specs.Table.{Place, Table, table}
use Rattle.minelib_reader.specs.Blocks.{most_columns, in_blocks, width_line, block_line, blocks_from, as_table, table_of_rows}
use Rattle.minelib_reader.specs.BlocksFault.{block_line_fault, fault_in_rows}
use Rattle.minelib_reader.proofs.CheckLemmas.{passed, stopped, passing, same_value}
use Rattle.minelib_reader.proofs.FirstFaultLemmas.{no_fault, that_fault, none_before_next}

-- the width that the first line gives is the one that it names
pub width_is : (r : Row) (w : ℕ) → width_line r ≡ Ok w → length r.fields - 4 ≡ w
unfolding width_line
width_is r w e =
    let few = λ (u : Unit {0}). ok_if (leb (length r.fields - 4) most_columns) (in_blocks OverLimit r.line) >>= λ v. passing (length r.fields - 4) in
    let a = passed (ok_if (leb 4 (length r.fields)) (in_blocks WrongFieldCount r.line)) few w e in
    let b = passed (ok_if (leb (length r.fields - 4) most_columns) (in_blocks OverLimit r.line)) (λ v. passing (length r.fields - 4)) w a.behind in
    same_value (length r.fields - 4) w b.behind

-- the fault of block i + k, where the blocks from i on are those of the rows
abbrev pub block_fault : ℕ → ℕ → Option Row → Option Fault
block_fault width i None = None
block_fault width i (Some r) = result_err (block_line width i r)

abbrev pub fault_from : ℕ → ℕ → List Row → ℕ → Option Fault
fault_from width i rows k = block_fault width (i + k) (slice_get rows k)

abbrev Blocks : Type 0
Blocks = Result (List Place × List ℤ) Fault

abbrev onto : Place × List ℤ → List Place × List ℤ → Blocks
onto block others = passing (block.0 ∷ others.0, block.1 ++ others.1)

from_next : (width i : ℕ) (r : Row) (rows : List Row) (k : ℕ) → fault_from width i (r ∷ rows) (suc k) ≡ fault_from width (i + 1) rows k
from_next width i r rows k = let same : i + suc k ≡ i + 1 + k = omega arith in ap (λ (j : ℕ). block_fault width j (slice_get rows k)) same

from_first : (width i : ℕ) (r : Row) (rows : List Row) → fault_from width i (r ∷ rows) 0 ≡ result_err (block_line width i r)
from_first width i r rows = let same : i + 0 ≡ i = omega arith in ap (λ (j : ℕ). result_err (block_line width j r)) same

blocks_fail : (width i : ℕ) (rows : List Row) (e : Fault) → blocks_from width i rows ≡ Err e → IsFirstFault (fault_from width i rows) e
unfolding blocks_from
blocks_fail width i [] e h = absurd cc
blocks_fail width i (r ∷ rows) e h =
    elim (stopped (block_line width i r) (λ block. blocks_from width (i + 1) rows >>= onto block) e h) [
      | inl stop ↦ record { place = 0; none_before = λ j lt. absurd (omega (arith, lt)); here = from_first width i r rows ∙ that_fault (block_line width i r) e stop }
      | inr go ↦
          elim (stopped (blocks_from width (i + 1) rows) (onto go.value) e go.behind) [
            | inl stop ↦
                let first = blocks_fail width (i + 1) rows e stop in
                let same = from_next width i r rows in
                record {
                  place = suc first.place;
                  none_before = none_before_next (fault_from width i (r ∷ rows)) (fault_from width (i + 1) rows) first.place (from_first width i r rows ∙ no_fault (block_line width i r) go.value go.here) same first.none_before;
                  here = same first.place ∙ first.here;
                }
            | inr end ↦ absurd (let no = end.behind in cc)
          ]
    ]

blocks_clear : (width i : ℕ) (rows : List Row) (b : List Place × List ℤ) → blocks_from width i rows ≡ Ok b → (k : ℕ) → fault_from width i rows k ≡ None
unfolding blocks_from
blocks_clear width i [] b h zero = refl
blocks_clear width i [] b h (suc k) = refl
blocks_clear width i (r ∷ rows) b h k =
    let a = passed (block_line width i r) (λ block. blocks_from width (i + 1) rows >>= onto block) b h in
    let d = passed (blocks_from width (i + 1) rows) (onto a.value) b a.behind in
    let behind = blocks_clear width (i + 1) rows d.value d.here in
    none_before_next (fault_from width i (r ∷ rows)) (fault_from width (i + 1) rows) k (from_first width i r rows ∙ no_fault (block_line width i r) a.value a.here) (from_next width i r rows) (λ j lt. behind j) k (omega arith)

-- where the first line gives the width, the faults of the text are those of its blocks
same_faults_by : (r : Row) (rows : List Row) (w : ℕ) → width_line r ≡ Ok w → (k : ℕ) → block_line_fault w k (slice_get (r ∷ rows) k) ≡ block_fault w k (slice_get (r ∷ rows) k)
same_faults_by r rows w e zero = ap (λ (x : Result ℕ Fault). result_err (x >>= λ v. block_line v 0 r)) e
same_faults_by r rows w e (suc k) = later (slice_get rows k)
  where
    later : (o : Option Row) → block_line_fault w (suc k) o ≡ block_fault w (suc k) o
    later None = refl
    later (Some x) = refl

from_start : (w k : ℕ) (o : Option Row) → block_fault w k o ≡ block_fault w (0 + k) o
from_start w k o = let same : k ≡ 0 + k = omega arith in ap (λ (j : ℕ). block_fault w j o) same

same_faults : (r : Row) (rows : List Row) (w : ℕ) → width_line r ≡ Ok w → (k : ℕ) → fault_in_rows (r ∷ rows) k ≡ fault_from w 0 (r ∷ rows) k
same_faults r rows w e k = ap (λ (v : ℕ). block_line_fault v k (slice_get (r ∷ rows) k)) (width_is r w e) ∙ same_faults_by r rows w e k ∙ from_start w k (slice_get (r ∷ rows) k)

abbrev with_width : ℕ → List Place × List ℤ → Result Table Fault
with_width w b = passing (table w b.0 b.1)

pub fails_first : (rows : List Row) (e : Fault) → table_of_rows rows ≡ Err e → IsFirstFault (fault_in_rows rows) e
unfolding table_of_rows blocks_from
fails_first [] e h = absurd cc
fails_first (r ∷ rows) e h =
    elim (stopped (width_line r) (λ w. as_table w (blocks_from w 0 (r ∷ rows))) e h) [
      | inl stop ↦ record { place = 0; none_before = λ j lt. absurd (omega (arith, lt)); here = ap (λ (x : Result ℕ Fault). result_err (x >>= λ v. block_line v 0 r)) stop }
      | inr go ↦
          elim (stopped (blocks_from go.value 0 (r ∷ rows)) (with_width go.value) e go.behind) [
            | inl stop ↦
                let first = blocks_fail go.value 0 (r ∷ rows) e stop in
                let same = same_faults r rows go.value go.here in
                record { place = first.place; none_before = λ j lt. same j ∙ first.none_before j lt; here = same first.place ∙ first.here }
            | inr end ↦ absurd (let no = end.behind in cc)
          ]
    ]

pub clear_where_read : (rows : List Row) (t : Table) → table_of_rows rows ≡ Ok t → (k : ℕ) → fault_in_rows rows k ≡ None
unfolding table_of_rows
clear_where_read [] t h zero = refl
clear_where_read [] t h (suc k) = refl
clear_where_read (r ∷ rows) t h k =
    let a = passed (width_line r) (λ w. as_table w (blocks_from w 0 (r ∷ rows))) t h in
    let b = passed (blocks_from a.value 0 (r ∷ rows)) (with_width a.value) t a.behind in
    same_faults r rows a.value a.here k ∙ blocks_clear a.value 0 (r ∷ rows) b.value b.here k
