-- The cycle that a refusal names goes round: each of its blocks needs the next, the last needs the first, and none stands twice.
use Rattle.std.specs.Prelude.{◌≡◌, ℕ, ◌+◌, ◌-◌, ◌<◌, List, length, get_or}
use Rattle.pit_model.specs.Graph.{first_of, second_of}
use Rattle.pit_model.specs.Cycle.{IsCycleList}

-- a block needs another
abbrev pub Needs : List (ℕ × ℕ) → ℕ → ℕ → Type 0
Needs pairs u p = (k : ℕ) × (k < length pairs) × (first_of pairs k ≡ u) × (second_of pairs k ≡ p)

pub record GoesRound (pairs : List (ℕ × ℕ)) (cycle : List ℕ) : Type 0 where
  pub some : 0 < length cycle
  pub next : (i : ℕ) → i + 1 < length cycle → Needs pairs (get_or cycle i 0) (get_or cycle (i + 1) 0)
  pub round : Needs pairs (get_or cycle (length cycle - 1) 0) (get_or cycle 0 0)
  pub apart : (i j : ℕ) → i < j → j < length cycle → get_or cycle i 0 ≡ get_or cycle j 0 → ⊥

-- the law: so does each such list
abbrev pub CycleGoesRound : Type 0
CycleGoesRound = (pairs : List (ℕ × ℕ)) (n : ℕ) (cycle : List ℕ) → IsCycleList pairs n cycle → GoesRound pairs cycle
