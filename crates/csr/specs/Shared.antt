-- Rows that share their differences: the target of an arc is its block plus a difference, modulo 2^32.
use Rattle.std.specs.Prelude.{◌≡◌, ℕ, ◌+◌, ◌-◌, ◌%◌, ◌^◌, ◌<◌, ◌≤◌, List, length, map, get_or}
use Rattle.std.specs.List.{range_with_len}
use Rattle.csr.specs.Rows.{row_at, IsCsr}

-- the target that lies a difference after a block
abbrev pub target_after : ℕ → ℕ → ℕ
target_after block difference = (block + difference) % 2 ^ 32

-- the target at place k, which lies in row u: the differences of row u begin at its pattern
abbrev pub shared_target : List ℕ → List ℕ → List ℕ → ℕ → ℕ → ℕ
shared_target offsets patterns differences u k = target_after u (get_or differences (get_or patterns u 0 + (k - get_or offsets u 0)) 0)

-- the targets of all rows, one for each place
unfoldable pub shared_targets : List ℕ → List ℕ → List ℕ → List ℕ
shared_targets offsets patterns differences = map (λ k. shared_target offsets patterns differences (row_at offsets k) k) (range_with_len 0 (get_or offsets (length patterns) 0))

-- a pattern for each row, with a difference for each of its places
pub record AreShared (offsets patterns differences : List ℕ) : Type 0 where
  pub rows : IsCsr (length patterns) (get_or offsets (length patterns) 0) offsets
  pub inside : (u : ℕ) → u < length patterns → get_or patterns u 0 + (get_or offsets (u + 1) 0 - get_or offsets u 0) ≤ length differences

-- the differences from `pattern` on lead from a block to the targets from `begin` up to `end`
abbrev pub LeadTo : List ℕ → ℕ → ℕ → List ℕ → ℕ → ℕ → Type 0
LeadTo differences pattern block targets begin end = (k : ℕ) → begin ≤ k → k < end → target_after block (get_or differences (pattern + (k - begin)) 0) ≡ get_or targets k 0
