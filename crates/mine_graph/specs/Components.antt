-- Connected components, while they are found: a label for each block, which is the number of blocks where the block has no
-- component yet.
use Rattle.std.specs.Prelude.{◌≡◌, ◌⊎◌, ℕ, ◌<◌, ◌≤◌, true, false, List, length, get_or}
use Rattle.pit_model.specs.Graph.{Graph, first_of, second_of}
use Rattle.pit_model.specs.Part.{IsClass}
use Rattle.mine_graph.specs.Renumbered.{has_label}
use Rattle.mine_graph.specs.declared.breadth_first.BreadthFirst.{BreadthFirst}
use Rattle.mine_graph.specs.BreadthFirst.{HasNeighbours, IsTrail, is_visited}

abbrev pub label_of : List ℕ → ℕ → ℕ
label_of labels u = get_or labels u 0

abbrev pub IsUnlabelled : List ℕ → ℕ → Type 0
IsUnlabelled labels u = label_of labels u ≡ length labels

-- the visited blocks have a component, one of so many, and the others have none
pub record HaveComponents (pairs : List (ℕ × ℕ)) (search : BreadthFirst) (labels : List ℕ) (count : ℕ) : Type 0 where
  pub trail : IsTrail search
  pub whole : HasNeighbours pairs search
  pub size : length search.marks.items ≡ length labels
  pub some : (u : ℕ) → is_visited search u ≡ true → label_of labels u < count
  pub none : (u : ℕ) → u < length labels → is_visited search u ≡ false → IsUnlabelled labels u

-- so many components are found, those of all blocks below `next`, numbered in the order of their least blocks
pub record AreComponents (graph : Graph) (labels : List ℕ) (count next : ℕ) : Type 0 where
  pub size : length labels ≡ graph.blocks
  pub few : count ≤ next
  pub passed : (u : ℕ) → u < next → label_of labels u < count
  pub either : (u : ℕ) → u < graph.blocks → IsUnlabelled labels u ⊎ (label_of labels u < count)
  pub together : (k : ℕ) → k < length graph.pairs → label_of labels (first_of graph.pairs k) ≡ label_of labels (second_of graph.pairs k)
  pub rooted : (i : ℕ) → i < count → (root : ℕ) × (root < next) × IsClass graph (has_label labels i) root
  pub rising : (i u : ℕ) → i < label_of labels u → u < graph.blocks → label_of labels u < count → (v : ℕ) × (v < u) × (label_of labels v ≡ i)
