-- The samples by which the row of a place is found.
use Rattle.std.specs.Prelude.{◌≡◌, ℕ, ◌*◌, ◌<◌, ◌≤◌, List, length, get_or}
use Rattle.pit_model.specs.Graph.{first_of}

-- the first of every 64th pair
pub record AreRowSamples (pairs : List (ℕ × ℕ)) (row_samples : List ℕ) : Type 0 where
  pub enough : length pairs ≤ length row_samples * 64
  pub each : (i : ℕ) → i < length row_samples → (i * 64 < length pairs) × (get_or row_samples i 0 ≡ first_of pairs (i * 64))
