-- What the reading of a precedence file keeps: the marks of the blocks seen on a line, and the pairs so far.
use Rattle.std.specs.Prelude.{◌≡◌, ℕ, ◌+◌, ◌<◌, ◌≤◌, ◌==◌, ◌++◌, List, [], length, slice_index, Result, Ok}
use Rattle.std.specs.List.{All}
use Rattle.faults.specs.declared.fault.Fault.{Fault}
use Rattle.pit_model.specs.Fixed.{is_among}
use Rattle.pit_model.specs.Graph.{Graph}
use Rattle.minelib_reader.specs.Prec.{needs_from, needs_line, pairs_from, pairs_of_line}
use Rattle.minelib_reader.specs.Checks.{◌>>=◌}
use Rattle.minelib_reader.specs.Text.{Row}

-- the marks id + 1 stand at the blocks that were seen on the line of block id
abbrev pub AreMarked : ℕ → ℕ → List ℕ → List ℕ → Type 0
AreMarked n id marks seen = (p : ℕ) → p < n → (slice_index marks p == id + 1) ≡ is_among seen p

-- the blocks seen before, and those still read
abbrev pub with_seen : List ℕ → Result (List ℕ) Fault → Result (List ℕ) Fault
with_seen seen read = read >>= λ ps. Ok (seen ++ ps)

-- the first fields name blocks whose pairs were added: what all fields give are these, and what the fields left give behind them
pub record AddsFirst (n id : ℕ) (fields left : List (List ℕ)) (old new : List (ℕ × ℕ)) : Type 0 where
  pub seen : List ℕ
  pub read : (line : ℕ) → with_seen seen (needs_from n id line seen left) ≡ needs_from n id line [] fields
  pub below : All (λ p. p < n) seen
  pub pairs : new ≡ old ++ pairs_of_line id seen

-- the line is lawful, its pairs stand behind those before, and this is the least id and the sum behind it
pub record AddsLine (n from total : ℕ) (r : Row) (old new : List (ℕ × ℕ)) (from_after total_after : ℕ) : Type 0 where
  pub id : ℕ
  pub needs : List ℕ
  pub read : needs_line n from total r ≡ Ok (id, needs)
  pub pairs : new ≡ old ++ pairs_of_line id needs
  pub next : from_after ≡ id + 1
  pub sum : total_after ≡ total + length needs

-- the rows of the lines before: they are of blocks below the least id that the next line may have, and their pairs are so many
pub record AreRowsSoFar (n from total : ℕ) (needs : Graph) : Type 0 where
  pub closed : needs.blocks ≤ from
  pub known : from ≤ n
  pub count : length needs.pairs ≡ total

-- the pairs read before, and those still read
abbrev pub with_pairs : List (ℕ × ℕ) → Result (List (ℕ × ℕ)) Fault → Result (List (ℕ × ℕ)) Fault
with_pairs front read = read >>= λ pairs. Ok (front ++ pairs)

-- the rows are lawful, and whatever rows come behind them, the pairs of all are those that were added and what is read from there on
abbrev pub AddsRows : ℕ → ℕ → ℕ → List Row → List (ℕ × ℕ) → List (ℕ × ℕ) → ℕ → ℕ → Type 0
AddsRows n from total rows old new from_after total_after =
    (behind : List Row) → with_pairs new (pairs_from n from_after total_after behind) ≡ with_pairs old (pairs_from n from total (rows ++ behind))
