-- The parts of an instance, each solved by itself, and what stands of them in the answer for the whole.
use Rattle.std.specs.Prelude.{◌≡◌, ◌⊎◌, ℕ, ◌<◌, ◌==◌, ℤ, Bool, true, List, length, get_or}
use Rattle.pit_model.specs.Graph.{Graph}
use Rattle.pit_model.specs.Mine.{Instance, value, arcs, source, target}
use Rattle.pit_model.specs.Limits.{IsInstance}
use Rattle.pit_model.specs.Part.{IsPart, IsRenumbered, StandsAt}
use Rattle.mine_graph.specs.declared.part.Part.{Part}
use Rattle.optimality.specs.Certificate.{IsCertificateOf}
use Rattle.optimality.specs.Check.{has, amount}
use Rattle.merging.specs.declared.solved_part.SolvedPart.{SolvedPart}

abbrev pub graph_of_instance : Instance → Graph
graph_of_instance mine = record { blocks = mine.blocks; pairs = mine.pairs }

abbrev pub IsPartOf : Instance → Part → Type 0
IsPartOf mine part = (set : ℕ → Bool) × IsPart (graph_of_instance mine) set part.blocks.items part.graph

-- an instance of the part, with its values in the whole, and its answer
pub record IsSolvedPart (mine : Instance) (part : Part) (solved : SolvedPart) : Type 0 where
  pub blocks : solved.blocks.items ≡ part.blocks.items
  pub graph : graph_of_instance solved.mine ≡ part.graph
  pub values : (u : ℕ) → u < solved.mine.blocks → value solved.mine u ≡ value mine (get_or part.blocks.items u 0)
  pub instance : IsInstance solved.mine
  pub answer : IsCertificateOf solved.mine solved.certificate

-- the solved parts of an instance: `label` tells of each block in which part it lies, and no pair joins two parts
pub record AreSolved (mine : Instance) (parts : List SolvedPart) : Type 0 where
  pub label : ℕ → ℕ
  pub labelled : (u : ℕ) → u < mine.blocks → label u < length parts
  pub together : (k : ℕ) → k < arcs mine → label (source mine k) ≡ label (target mine k)
  pub each : (i : ℕ) (p : SolvedPart) → StandsAt parts i p → IsPart (graph_of_instance mine) (λ u. label u == i) p.blocks.items (graph_of_instance p.mine)
  pub values : (i : ℕ) (p : SolvedPart) → StandsAt parts i p → (u : ℕ) → u < p.mine.blocks → value p.mine u ≡ value mine (get_or p.blocks.items u 0)
  pub instances : (i : ℕ) (p : SolvedPart) → StandsAt parts i p → IsInstance p.mine
  pub answers : (i : ℕ) (p : SolvedPart) → StandsAt parts i p → IsCertificateOf p.mine p.certificate

-- the block of a list that a place of another list names
abbrev pub named : List ℕ → List ℕ → ℕ → ℕ
named blocks pit i = get_or blocks (get_or pit i 0) 0

-- the blocks that the first places of a pit name were marked, and no others
pub record ArePitMarks (blocks pit : List ℕ) (count : ℕ) (before marks : List Bool) : Type 0 where
  pub size : length marks ≡ length before
  pub grows : (v : ℕ) → has before v ≡ true → has marks v ≡ true
  pub only : (v : ℕ) → has marks v ≡ true → (has before v ≡ true) ⊎ ((i : ℕ) × (i < count) × (named blocks pit i ≡ v))
  pub all : (i : ℕ) → i < count → has marks (named blocks pit i) ≡ true

-- the amounts of the first pairs of a part were written where these pairs stand in the whole, and no others
pub record AreCarried (whole : Graph) (blocks : List ℕ) (part : Graph) (amounts : List ℤ) (count : ℕ) (before flow : List ℤ) : Type 0 where
  pub size : length flow ≡ length before
  pub placed : (k a : ℕ) → k < count → a < length whole.pairs → IsRenumbered whole blocks part k a → amount flow a ≡ amount amounts k
  pub rest : (a : ℕ) → ((k : ℕ) → k < count → IsRenumbered whole blocks part k a → ⊥) → amount flow a ≡ amount before a

abbrev pub IsListed : List ℕ → ℕ → Type 0
IsListed pit u = (i : ℕ) × (i < length pit) × (get_or pit i 0 ≡ u)

-- the answers of the first parts stand in the marks and the flow of the whole
pub record ArePlaced (mine : Instance) (parts : List SolvedPart) (marks : List Bool) (flow : List ℤ) (count : ℕ) : Type 0 where
  pub marks_size : length marks ≡ mine.blocks
  pub flow_size : length flow ≡ arcs mine
  pub marked : (i : ℕ) (p : SolvedPart) → i < count → StandsAt parts i p → (u : ℕ) → u < p.mine.blocks → has marks (get_or p.blocks.items u 0) ≡ true → IsListed p.certificate.pit.items u
  pub listed : (i : ℕ) (p : SolvedPart) → i < count → StandsAt parts i p → (u : ℕ) → IsListed p.certificate.pit.items u → has marks (get_or p.blocks.items u 0) ≡ true
  pub owned : (v : ℕ) → has marks v ≡ true → (i : ℕ) × (p : SolvedPart) × (i < count) × StandsAt parts i p × (u : ℕ) × (u < p.mine.blocks) × (get_or p.blocks.items u 0 ≡ v)
  pub placed : (i : ℕ) (p : SolvedPart) → i < count → StandsAt parts i p → (k a : ℕ) → k < arcs p.mine → a < arcs mine
      → IsRenumbered (graph_of_instance mine) p.blocks.items (graph_of_instance p.mine) k a → amount flow a ≡ amount p.certificate.flow.items k
