-- Breadth-first search: visiting blocks, one after another, and after each those that its pairs lead to.
use Rattle.std.specs.Prelude.{◌≡◌, ◌⊎◌, ℕ, ◌<◌, ◌≤◌, Bool, true, List, length, get_or}
use Rattle.pit_model.specs.Fixed.{IsClosedAlong}
use Rattle.pit_model.specs.Part.{AreConnected, AreNeighbours}
use Rattle.mine_graph.specs.FixedBlocks.{mark_of}
use Rattle.pit_model.specs.Graph.{first_of, second_of}
use Rattle.mine_graph.specs.declared.breadth_first.BreadthFirst.{BreadthFirst}

-- a pair leads from a to u
abbrev pub LeadsTo : List (ℕ × ℕ) → ℕ → ℕ → Type 0
LeadsTo pairs a u = (k : ℕ) × (k < length pairs) × (first_of pairs k ≡ a) × (second_of pairs k ≡ u)

-- u is the block of one of the places from `begin` up to `end`
abbrev pub IsAt : (ℕ → ℕ) → ℕ → ℕ → ℕ → Type 0
IsAt block begin end u = (x : ℕ) × (begin ≤ x) × (x < end) × (block x ≡ u)

abbrev pub is_visited : BreadthFirst → ℕ → Bool
is_visited search u = mark_of search.marks.items u

abbrev pub queued : BreadthFirst → ℕ → ℕ
queued search i = get_or search.queue.items i 0

-- the first `tail` places of the queue hold exactly the marked blocks, each once
pub record IsTrail (search : BreadthFirst) : Type 0 where
  pub room : search.tail ≤ length search.queue.items
  pub size : length search.queue.items ≡ length search.marks.items
  pub marked : (i : ℕ) → i < search.tail → (queued search i < length search.marks.items) × (is_visited search (queued search i) ≡ true)
  pub apart : (i j : ℕ) → i < j → j < search.tail → queued search i ≡ queued search j → ⊥
  pub found : (u : ℕ) → is_visited search u ≡ true → (i : ℕ) × (i < search.tail) × (queued search i ≡ u)

-- the blocks that are asked for are in, and beside those that were in before no others are
pub record VisitsExactly (asked : ℕ → Type 0) (before after : BreadthFirst) : Type 0 where
  pub trail : IsTrail after
  pub size : length after.marks.items ≡ length before.marks.items
  pub grows : (u : ℕ) → is_visited before u ≡ true → is_visited after u ≡ true
  pub only : (u : ℕ) → is_visited after u ≡ true → (is_visited before u ≡ true) ⊎ asked u
  pub all : (u : ℕ) → asked u → is_visited after u ≡ true
  pub kept : (i : ℕ) → i < before.tail → queued after i ≡ queued before i
  pub more : before.tail ≤ after.tail

-- the seeds are in, only what lies in each closed set with the seeds, and all that the first `head` blocks of the queue lead to
pub record VisitsClosure (pairs : List (ℕ × ℕ)) (seeds : ℕ → Bool) (search : BreadthFirst) (head : ℕ) : Type 0 where
  pub trail : IsTrail search
  pub holds : (u : ℕ) → seeds u ≡ true → is_visited search u ≡ true
  pub least : (other : ℕ → Bool) → ((u : ℕ) → seeds u ≡ true → other u ≡ true) → IsClosedAlong pairs other
      → (u : ℕ) → is_visited search u ≡ true → other u ≡ true
  pub handled : (i u : ℕ) → i < head → LeadsTo pairs (queued search i) u → is_visited search u ≡ true

-- pairs join a block with the root, directly or through others
abbrev pub IsJoinedWith : List (ℕ × ℕ) → ℕ → ℕ → Type 0
IsJoinedWith pairs root u = (steps : ℕ) × AreConnected pairs steps root u

-- with each block that is in its neighbours are in
abbrev pub HasNeighbours : List (ℕ × ℕ) → BreadthFirst → Type 0
HasNeighbours pairs search = (a u : ℕ) → is_visited search a ≡ true → AreNeighbours pairs a u → is_visited search u ≡ true

-- what is joined with the root, so far as the blocks of the queue before `head` lead that were not in before
pub record VisitsComponent (pairs : List (ℕ × ℕ)) (root : ℕ) (before search : BreadthFirst) (head : ℕ) : Type 0 where
  pub takes : VisitsExactly (λ u. (is_visited search u ≡ true) × IsJoinedWith pairs root u) before search
  pub holds : is_visited search root ≡ true
  pub handled : (i u : ℕ) → before.tail ≤ i → i < head → AreNeighbours pairs (queued search i) u → is_visited search u ≡ true
