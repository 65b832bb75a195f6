-- Compressed sparse rows: an offset for each row, the targets of all rows, and the arcs that they spell.
use Rattle.std.specs.Prelude.{◌≡◌, ℕ, suc, ◌+◌, ◌-◌, ◌<◌, ◌≤◌, leb, List, length, map, get_or}
use Rattle.std.specs.List.{range_with_len}
use Rattle.pit_model.specs.Graph.{second_of}
use Rattle.csr.specs.Count.{count}

-- the row that a place lies in: the number of rows that end at it or before
unfoldable pub row_at : List ℕ → ℕ → ℕ
row_at offsets k = count (length offsets - 1) (λ v. leb (get_or offsets (suc v) 0) k)

-- the arcs that rows spell: an arc for each place, from its row to the target there
unfoldable pub pairs_of : List ℕ → List ℕ → List (ℕ × ℕ)
pairs_of offsets targets = map (λ k. (row_at offsets k, get_or targets k 0)) (range_with_len 0 (length targets))

-- the offsets of rows over places: row u has the places from its offset up to, and without, the offset of row u + 1; the first
-- row begins at place 0, and the last ends at the last place
pub record IsCsr (rows places : ℕ) (offsets : List ℕ) : Type 0 where
  pub count : length offsets ≡ rows + 1
  pub first : get_or offsets 0 0 ≡ 0
  pub rising : (u : ℕ) → u < rows → get_or offsets u 0 ≤ get_or offsets (u + 1) 0
  pub last : get_or offsets rows 0 ≡ places

-- rows as they grow: the closed ones have the first places, and the open row all places after them
pub record IsGrowing (offsets : List ℕ) (places : ℕ) : Type 0 where
  pub closed : IsCsr (length offsets - 1) (get_or offsets (length offsets - 1) 0) offsets
  pub within : get_or offsets (length offsets - 1) 0 ≤ places

-- the target of each arc stands at the arc's place
pub record AreTargets (pairs : List (ℕ × ℕ)) (targets : List ℕ) : Type 0 where
  pub count : length targets ≡ length pairs
  pub each : (k : ℕ) → k < length pairs → get_or targets k 0 ≡ second_of pairs k

-- the targets from one place to another rise
abbrev pub RowRises : List ℕ → ℕ → ℕ → Type 0
RowRises targets begin end = (k : ℕ) → begin < k → k < end → get_or targets (k - 1) 0 < get_or targets k 0

-- the targets of each row rise
abbrev pub RowsRise : List ℕ → List ℕ → Type 0
RowsRise offsets targets = (u : ℕ) → u + 1 < length offsets → RowRises targets (get_or offsets u 0) (get_or offsets (u + 1) 0)
