-- The cycle that the rows of arrays have, or that they have none.
use Rattle.std.specs.Prelude.{◌≡◌, ℕ, ◌<◌, List, length, get_or}
use Rattle.pit_model.specs.Cycle.{IsCycleList}
use Rattle.pit_model.specs.Graph.{Graph, IsGraph}
use Rattle.arrays.specs.Encoded.{EncodesGraph, EncodesPairs}

-- the rows encode a graph without a cycle
pub record EncodeNoCycle (blocks : ℕ) (starts needs : List ℕ) : Type 0 where
  pub graph : Graph
  pub encoded : EncodesGraph blocks starts needs graph
  pub is_graph : IsGraph graph.blocks graph.pairs

-- the array begins with the cycle of the rows, which has so many blocks, as far as there is room
pub record WritesCycle (blocks : ℕ) (starts needs room : List ℕ) (count : ℕ) : Type 0 where
  pub pairs : List (ℕ × ℕ)
  pub encoded : EncodesPairs starts needs pairs
  pub cycle : List ℕ
  pub is_cycle : IsCycleList pairs blocks cycle
  pub counted : length cycle ≡ count
  pub front : (i : ℕ) → i < count → i < length room → get_or room i 0 ≡ get_or cycle i 0
