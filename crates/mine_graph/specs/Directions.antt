-- Pairs that all lead the same way: such pairs have no cycle.
use Rattle.std.specs.Prelude.{ℕ, ◌<◌, List, length}
use Rattle.pit_model.specs.Graph.{first_of, second_of}

-- each block needs blocks of lower numbers alone
abbrev pub NeedLower : List (ℕ × ℕ) → Type 0
NeedLower pairs = (k : ℕ) → k < length pairs → second_of pairs k < first_of pairs k

-- each block needs blocks of higher numbers alone
abbrev pub NeedHigher : List (ℕ × ℕ) → Type 0
NeedHigher pairs = (k : ℕ) → k < length pairs → first_of pairs k < second_of pairs k
