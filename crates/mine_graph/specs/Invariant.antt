-- What a graph and an instance in memory keep true of their parts.
use Rattle.std.specs.Prelude.{◌≡◌, ℕ, ◌^◌, ◌<◌, ◌≤◌, ℤ, pos, neg_ℤ, ◌≤ℤ◌, List, length, get_or}
use Rattle.pit_model.specs.Size.{most_blocks, most_pairs}
use Rattle.pit_model.specs.Graph.{Graph, IsGraph}
use Rattle.mine_graph.specs.RowSamples.{AreRowSamples}

-- a graph within the limits
pub record GraphInvariant (blocks : ℕ) (predecessors : Graph) (row_samples : List ℕ) : Type 0 where
  pub few_blocks : blocks ≤ most_blocks
  pub few_arcs : length predecessors.pairs ≤ most_pairs
  pub rows : predecessors.blocks ≡ blocks
  pub graph : IsGraph blocks predecessors.pairs
  pub sampled : AreRowSamples predecessors.pairs row_samples

-- a value for each block, each within 10^23 of 0
pub record AreWithinLimits (blocks : ℕ) (values : List ℤ) : Type 0 where
  pub count : length values ≡ blocks
  pub low : (u : ℕ) → u < blocks → neg_ℤ (pos (10 ^ 23)) ≤ℤ get_or values u (pos 0)
  pub high : (u : ℕ) → u < blocks → get_or values u (pos 0) ≤ℤ pos (10 ^ 23)
