-- The arcs that shared rows spell.
use Rattle.std.proofs.Common.{◌≡◌, ℕ, ◌+◌, ◌-◌, ◌<◌, ◌≤◌, sym, ap, subst, ◌∙◌, arith, List, get_or, length}
use Rattle.std.proofs.lemmas.List.{same_lists, get_or_default}
use Rattle.std.proofs.lemmas.List.FromFn.{get_or-map-range_with_len, length-map-range_with_len}
use Rattle.pit_model.specs.Graph.{first_of, second_of}
use Rattle.csr.specs.Rows.{row_at, pairs_of, IsCsr}
use Rattle.csr.specs.Shared.{target_after, shared_target, shared_targets, AreShared, LeadTo}
use Rattle.csr.proofs.Begun.{begun_rise, csr_grows, csr_offsets, csr_row}
use Rattle.csr.proofs.Offsets.{AreOffsets}
use Rattle.csr.proofs.Spelled.{length-pairs_of, pairs_of-at, row_at-begins, row_at-between, row_at-ends, second_at}

pub length-shared : (offsets patterns differences : List ℕ) → length (shared_targets offsets patterns differences) ≡ get_or offsets (length patterns) 0
unfolding shared_targets
length-shared offsets patterns differences = length-map-range_with_len (λ k. shared_target offsets patterns differences (row_at offsets k) k) 0 (get_or offsets (length patterns) 0)

shared-at : (offsets patterns differences : List ℕ) (k : ℕ) → k < get_or offsets (length patterns) 0 → get_or (shared_targets offsets patterns differences) k 0 ≡ shared_target offsets patterns differences (row_at offsets k) k
unfolding shared_targets
shared-at offsets patterns differences k l = get_or-map-range_with_len (λ k. shared_target offsets patterns differences (row_at offsets k) k) 0 (get_or offsets (length patterns) 0) k k 0 l (let e : 0 + k ≡ k = omega arith in e)

-- the row of a place, and where it begins and ends
row_of : (offsets : List ℕ) (n places k : ℕ) → IsCsr n places offsets → k < places
    → (row_at offsets k < n) × (get_or offsets (row_at offsets k) 0 ≤ k) × (k < get_or offsets (row_at offsets k + 1) 0)
row_of offsets n places k rows l =
    let size = rows.count in
    let rise = begun_rise offsets places (csr_grows offsets n places rows) in
    let below = csr_row offsets n places rows k l in
    let first = rows.first in
    (below, row_at-begins offsets rise k (omega arith) (omega arith), row_at-ends offsets rise k (omega arith))

-- rows whose patterns lead to the targets share them
pub shared_is : (offsets patterns differences targets : List ℕ) → IsCsr (length patterns) (length targets) offsets
    → ((u : ℕ) → u < length patterns → LeadTo differences (get_or patterns u 0) u targets (get_or offsets u 0) (get_or offsets (u + 1) 0))
    → shared_targets offsets patterns differences ≡ targets
shared_is offsets patterns differences targets rows lead =
    let size = length-shared offsets patterns differences in
    let last = rows.last in
    same_lists (shared_targets offsets patterns differences) targets (omega arith)
    (λ k d l.
    let at = row_of offsets (length patterns) (length targets) k rows (omega arith) in
    get_or_default (shared_targets offsets patterns differences) k d 0 l
    ∙ shared-at offsets patterns differences k (omega arith)
    ∙ lead (row_at offsets k) at.0 k at.1 at.2
    ∙ get_or_default targets k 0 d (omega arith))

module _ (offsets patterns differences : List ℕ) (are : AreShared offsets patterns differences) where
  pub shared_rows : IsCsr (length patterns) (length (shared_targets offsets patterns differences)) offsets
  shared_rows = subst (λ places. IsCsr (length patterns) places offsets) (sym (length-shared offsets patterns differences)) are.rows

  pub length-shared_pairs : length (pairs_of offsets (shared_targets offsets patterns differences)) ≡ get_or offsets (length patterns) 0
  length-shared_pairs = length-pairs_of offsets (shared_targets offsets patterns differences) ∙ length-shared offsets patterns differences

  pub shared_offsets : AreOffsets (pairs_of offsets (shared_targets offsets patterns differences)) offsets (length patterns)
  shared_offsets = csr_offsets offsets (shared_targets offsets patterns differences) (length patterns) shared_rows

  -- the row of an arc is that of its block
  pub shared_place : (u k : ℕ) → k < length (pairs_of offsets (shared_targets offsets patterns differences)) → first_of (pairs_of offsets (shared_targets offsets patterns differences)) k ≡ u
      → (u < length patterns) × (get_or offsets u 0 ≤ k) × (k < get_or offsets (u + 1) 0)
  shared_place u k l own =
      let long = length-pairs_of offsets (shared_targets offsets patterns differences) in
      let at = row_of offsets (length patterns) (length (shared_targets offsets patterns differences)) k shared_rows (omega arith) in
      let row : row_at offsets k ≡ u = sym (ap (λ (q : ℕ × ℕ). q.0) (pairs_of-at offsets (shared_targets offsets patterns differences) k (omega arith))) ∙ own in
      subst (λ v. (v < length patterns) × (get_or offsets v 0 ≤ k) × (k < get_or offsets (v + 1) 0)) row at

  -- the place of a difference of a row
  pub difference_inside : (u k : ℕ) → u < length patterns → get_or offsets u 0 ≤ k → k < get_or offsets (u + 1) 0 → get_or patterns u 0 + (k - get_or offsets u 0) < length differences
  difference_inside u k below from to = let inside = are.inside u below in omega arith

  pub shared-in : (u k : ℕ) → u < length patterns → get_or offsets u 0 ≤ k → k < get_or offsets (u + 1) 0
      → get_or (shared_targets offsets patterns differences) k 0 ≡ target_after u (get_or differences (get_or patterns u 0 + (k - get_or offsets u 0)) 0)
  shared-in u k below from to =
      let size = are.rows.count in
      let rise = begun_rise offsets (get_or offsets (length patterns) 0) (csr_grows offsets (length patterns) (get_or offsets (length patterns) 0) are.rows) in
      let inside : k < get_or offsets (length patterns) 0 = omega (arith, rise (u + 1) (length patterns) (omega arith) (omega arith)) in
      let row : row_at offsets k ≡ u = row_at-between offsets rise u k (omega arith) from to in
      shared-at offsets patterns differences k inside ∙ ap (λ v. shared_target offsets patterns differences v k) row

  pub second_shared : (u k : ℕ) → u < length patterns → get_or offsets u 0 ≤ k → k < get_or offsets (u + 1) 0
      → second_of (pairs_of offsets (shared_targets offsets patterns differences)) k ≡ target_after u (get_or differences (get_or patterns u 0 + (k - get_or offsets u 0)) 0)
  second_shared u k below from to =
      let size = are.rows.count in
      let long = length-shared offsets patterns differences in
      let rise = begun_rise offsets (get_or offsets (length patterns) 0) (csr_grows offsets (length patterns) (get_or offsets (length patterns) 0) are.rows) in
      second_at offsets (shared_targets offsets patterns differences) k (omega (arith, rise (u + 1) (length patterns) (omega arith) (omega arith))) ∙ shared-in u k below from to

  -- lists with the targets of the arcs are the same
  pub targets_are : (targets : List ℕ) → length targets ≡ length (pairs_of offsets (shared_targets offsets patterns differences))
      → ((k : ℕ) → k < length (pairs_of offsets (shared_targets offsets patterns differences)) → get_or targets k 0 ≡ second_of (pairs_of offsets (shared_targets offsets patterns differences)) k)
      → targets ≡ shared_targets offsets patterns differences
  targets_are targets count each =
      let long = length-pairs_of offsets (shared_targets offsets patterns differences) in
      same_lists targets (shared_targets offsets patterns differences) (omega arith)
      (λ k d l.
      get_or_default targets k d 0 l
      ∙ each k (omega arith)
      ∙ second_at offsets (shared_targets offsets patterns differences) k (omega arith)
      ∙ get_or_default (shared_targets offsets patterns differences) k 0 d (omega arith))
