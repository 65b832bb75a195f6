-- Labels of blocks, and what is kept to find the first pair that leads from a strong block to a weak one.
use Rattle.std.specs.Prelude.{◌≡◌, ℕ, ◌<◌, nat_lt, Bool, true, false, not, ◌&&◌, List, length, get_or}
use Rattle.pit_model.specs.Direction.{IsReversed}
use Rattle.pit_model.specs.Graph.{Graph, first_of, second_of}
use Rattle.norm_tree.specs.declared.index.Index.{Index}

-- a graph, and which of its blocks are strong
pub record Labelled : Type 0 where
  pub graph : Graph
  pub strong : List Bool

abbrev pub with_labels : Graph → List Bool → Labelled
with_labels graph strong = record { graph = graph; strong = strong }

abbrev pub label : List Bool → ℕ → Bool
label strong u = get_or strong u false

-- the pair leads from a strong block to a weak one
abbrev pub is_candidate : Labelled → ℕ → Bool
is_candidate l k = nat_lt k (length l.graph.pairs) && label l.strong (first_of l.graph.pairs k) && not (label l.strong (second_of l.graph.pairs k))

-- no such pair leads from a block below the bound
abbrev pub IsClosedBelow : Labelled → ℕ → Type 0
IsClosedBelow l bound = (k : ℕ) → first_of l.graph.pairs k < bound → is_candidate l k ≡ false

-- each block from which such a pair leads is marked
abbrev pub AreSourcesMarked : Labelled → List Bool → Type 0
AreSourcesMarked l marks = (k : ℕ) → is_candidate l k ≡ true → get_or marks (first_of l.graph.pairs k) false ≡ true

-- the index marks these blocks, and has the transposed graph
pub record IsIndexed (graph : Graph) (strong : List Bool) (index : Index) : Type 0 where
  pub sized : length strong ≡ graph.blocks
  pub room : length index.marks ≡ graph.blocks
  pub marked : AreSourcesMarked (with_labels graph strong) index.marks
  pub reversed : IsReversed graph index.users
