-- What rows say of the arcs that they spell.
use Rattle.std.proofs.Common.{◌≡◌, ℕ, ◌+◌, ◌<◌, ◌≤◌, List, length, get_or}
use Rattle.pit_model.specs.Graph.{first_of}
use Rattle.csr.specs.Rows.{AreTargets}

-- the arcs of block v stand from its offset up to, and without, that of v + 1
pub record AreOffsets (pairs : List (ℕ × ℕ)) (offsets : List ℕ) (n : ℕ) : Type 0 where
  pub size : length offsets ≡ n + 1
  pub rises : (v : ℕ) → v < n → (get_or offsets v 0 ≤ get_or offsets (v + 1) 0) × (get_or offsets (v + 1) 0 ≤ length pairs)
  pub owns : (v k : ℕ) → v < n → get_or offsets v 0 ≤ k → k < get_or offsets (v + 1) 0 → first_of pairs k ≡ v
  pub found : (v k : ℕ) → v < n → k < length pairs → first_of pairs k ≡ v → (get_or offsets v 0 ≤ k) × (k < get_or offsets (v + 1) 0)

-- rows of blocks below n that spell these arcs
pub record Spell (pairs : List (ℕ × ℕ)) (offsets targets : List ℕ) (n : ℕ) : Type 0 where
  pub begin : AreOffsets pairs offsets n
  pub hold : AreTargets pairs targets
