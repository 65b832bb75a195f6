-- The pairs among the blocks with one label, by the places of these blocks in their list.
use Rattle.std.specs.Prelude.{◌≡◌, ℕ, ◌<◌, ◌==◌, nat_lt, Bool, ◌&&◌, List, get_or}
use Rattle.pit_model.specs.Graph.{first_of, second_of}

-- the first `count` blocks of a list know their place in it
abbrev pub IsPlaced : List ℕ → ℕ → List ℕ → Type 0
IsPlaced blocks count places = (i : ℕ) → i < count → get_or places (get_or blocks i 0) 0 ≡ i

abbrev pub has_label : List ℕ → ℕ → ℕ → Bool
has_label labels label u = get_or labels u 0 == label

-- both blocks of a pair have the label
abbrev pub is_inside : List (ℕ × ℕ) → List ℕ → ℕ → ℕ → Bool
is_inside pairs labels label k = has_label labels label (first_of pairs k) && has_label labels label (second_of pairs k)

-- and the block that needs is below a bound
abbrev pub is_inside_before : List (ℕ × ℕ) → List ℕ → ℕ → ℕ → ℕ → Bool
is_inside_before pairs labels label bound k = is_inside pairs labels label k && nat_lt (first_of pairs k) bound

-- a pair of the whole, by the places of its blocks
abbrev pub placed_pair : List (ℕ × ℕ) → List ℕ → ℕ → ℕ × ℕ
placed_pair pairs places k = (get_or places (first_of pairs k) 0, get_or places (second_of pairs k) 0)
