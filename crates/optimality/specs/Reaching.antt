-- The breadth-first search of the blocks that are reached.
use Rattle.std.specs.Prelude.{◌≡◌, ℕ, ◌<◌, ◌≤◌, pos, ◌<ℤ◌, ℤ, Bool, true, List, length}
use Rattle.pit_model.specs.Graph.{first_of, second_of}
use Rattle.pit_model.specs.Mine.{Instance}
use Rattle.pit_model.specs.Flow.{HasResidual, excess}
use Rattle.pit_model.specs.Certificate.{IsReached}
use Rattle.mine_graph.specs.BreadthFirst.{IsTrail, is_visited, queued}
use Rattle.mine_graph.specs.declared.breadth_first.BreadthFirst.{BreadthFirst}
use Rattle.optimality.specs.Check.{has, amount}

-- u is the block of one of the places from `begin` up to `end` that pass the test, and lies inside
abbrev pub IsVisited : List Bool → (ℕ → Bool) → (ℕ → ℕ) → ℕ → ℕ → ℕ → Type 0
IsVisited inside test block begin end u = (x : ℕ) × (begin ≤ x) × (x < end) × (test x ≡ true) × (block x ≡ u) × (has inside u ≡ true)

-- flow comes from u to p over their pair
abbrev pub Sends : List (ℕ × ℕ) → List ℤ → ℕ → ℕ → Type 0
Sends pairs flow u p = (k : ℕ) × (k < length pairs) × (first_of pairs k ≡ u) × (second_of pairs k ≡ p) × (pos 0 <ℤ amount flow k)

-- only reached blocks are in, the starts among them, and all that the first `head` blocks of the queue reach in one step
pub record IsReachedSoFar (mine : Instance) (inside : List Bool) (flow : List ℤ) (search : BreadthFirst) (head : ℕ) : Type 0 where
  pub trail : IsTrail search
  pub size : length search.marks.items ≡ mine.blocks
  pub sound : (u : ℕ) → is_visited search u ≡ true → (steps : ℕ) × IsReached mine (has inside) (amount flow) u steps
  pub starts : (u : ℕ) → u < mine.blocks → has inside u ≡ true → pos 0 <ℤ excess mine (amount flow) u → is_visited search u ≡ true
  pub closed : (i b : ℕ) → i < head → HasResidual mine (amount flow) (queued search i) b → has inside b ≡ true → is_visited search b ≡ true
