-- The parts of a graph, as a list in memory.
use Rattle.std.specs.Prelude.{◌≡◌, ℕ, ◌<◌, ◌+◌, ◌-◌, ◌==◌, List, length, get_or, map, take, drop}
use Rattle.std.specs.List.{range_with_len}
use Rattle.pit_model.specs.Graph.{Graph}
use Rattle.pit_model.specs.Mine.{members}
use Rattle.pit_model.specs.Part.{IsPart, IsClass, StandsAt}
use Rattle.csr.specs.Rows.{IsCsr}
use Rattle.mine_graph.specs.declared.part.Part.{Part}
use Rattle.mine_graph.specs.Renumbered.{has_label}

abbrev pub least_block : Part → ℕ
least_block part = get_or part.blocks.items 0 0

-- each class of connected blocks, in the order of their least blocks, with the pairs among them; `label` tells of each block
-- in which part it lies
pub record AreParts (whole : Graph) (parts : List Part) : Type 0 where
  pub label : ℕ → ℕ
  pub labelled : (u : ℕ) → u < whole.blocks → label u < length parts
  pub each : (i : ℕ) (part : Part) → StandsAt parts i part → IsPart whole (λ u. label u == i) part.blocks.items part.graph
  pub classes : (i : ℕ) (part : Part) → StandsAt parts i part → IsClass whole (λ u. label u == i) (least_block part)
  pub in_order : (i j : ℕ) (p q : Part) → i < j → StandsAt parts i p → StandsAt parts j q → least_block p < least_block q

-- each block beside its label
abbrev pub labelled : List ℕ → List (ℕ × ℕ)
labelled labels = map (λ (u : ℕ). (u, get_or labels u 0)) (range_with_len 0 (length labels))

-- row v holds the blocks with label v, rising
pub record HoldMembers (labels offsets targets : List ℕ) : Type 0 where
  pub rows : IsCsr (length labels) (length targets) offsets
  pub row : (v : ℕ) → v < length labels
      → take (get_or offsets (v + 1) 0 - get_or offsets v 0) (drop (get_or offsets v 0) targets) ≡ members (length labels) (has_label labels v)
