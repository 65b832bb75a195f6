-- Which pairs were seen, by the last block that named each.
use Rattle.std.specs.Prelude.{◌≡◌, ◌⊎◌, ℕ, ◌+◌, ◌<◌, ◌≤◌, List, length, get_or}
use Rattle.pit_model.specs.Graph.{first_of, second_of}

-- of the first `count` pairs: each second block knows the last block that named it, and no pair stands twice
pub record AreNamed (pairs : List (ℕ × ℕ)) (named : List ℕ) (count : ℕ) : Type 0 where
  pub most : (i : ℕ) → i < count → first_of pairs i + 1 ≤ get_or named (second_of pairs i) 0
  pub by : (p : ℕ) → (get_or named p 0 ≡ 0) ⊎ ((i : ℕ) × (i < count) × (second_of pairs i ≡ p) × (first_of pairs i + 1 ≡ get_or named p 0))
  pub apart : (i j : ℕ) → i < j → j < count → get_or pairs i (0, 0) ≡ get_or pairs j (0, 0) → ⊥

-- the pair of this number stands before
abbrev pub IsRepeated : List (ℕ × ℕ) → ℕ → Type 0
IsRepeated pairs k = (i : ℕ) × (i < k) × (k < length pairs) × (get_or pairs i (0, 0) ≡ get_or pairs k (0, 0))
