-- Topological order: blocks in an order in which each comes after all that it needs.
-- The arcs here lead from a block to one that needs it.
use Rattle.std.specs.Prelude.{◌≡◌, ℕ, ◌<◌, ◌≤◌, ◌==◌, Bool, true, not, ◌&&◌, List, length, get_or}
use Rattle.pit_model.specs.Graph.{first_of, second_of}
use Rattle.csr.specs.Count.{count}

-- the arcs that lead to u
abbrev pub leads_to : List (ℕ × ℕ) → ℕ → ℕ → Bool
leads_to arcs u k = second_of arcs k == u

-- those of them that are not handled yet
abbrev pub is_unhandled : List (ℕ × ℕ) → (ℕ → Bool) → ℕ → ℕ → Bool
is_unhandled arcs handled u k = leads_to arcs u k && not (handled k)

-- the first `tail` places hold exactly the blocks that have nothing left, each once
pub record IsQueue (left order : List ℕ) (tail : ℕ) : Type 0 where
  pub room : tail ≤ length order
  pub free : (i : ℕ) → i < tail → (get_or order i 0 < length left) × (get_or left (get_or order i 0) 0 ≡ 0)
  pub apart : (i j : ℕ) → i < j → j < tail → get_or order i 0 ≡ get_or order j 0 → ⊥
  pub waits : (u : ℕ) → u < length left → get_or left u 0 ≡ 0 → (i : ℕ) × (i < tail) × (get_or order i 0 ≡ u)

-- what is left is what is open, and each queued block comes after all that it needs
pub record IsCounted (arcs : List (ℕ × ℕ)) (left order : List ℕ) (tail : ℕ) (handled : ℕ → Bool) : Type 0 where
  pub queue : IsQueue left order tail
  pub counts : (u : ℕ) → u < length left → get_or left u 0 ≡ count (length arcs) (is_unhandled arcs handled u)
  pub sooner : (i k : ℕ) → i < tail → k < length arcs → second_of arcs k ≡ get_or order i 0 → (j : ℕ) × (j < i) × (get_or order j 0 ≡ first_of arcs k)

-- exactly the arcs of the first `head` blocks of the queue are handled
pub record IsProcessed (arcs : List (ℕ × ℕ)) (left order : List ℕ) (tail head : ℕ) : Type 0 where
  pub handled : ℕ → Bool
  pub counted : IsCounted arcs left order tail handled
  pub done : (k : ℕ) → k < length arcs → handled k ≡ true → (j : ℕ) × (j < head) × (get_or order j 0 ≡ first_of arcs k)
  pub all : (k j : ℕ) → k < length arcs → j < head → get_or order j 0 ≡ first_of arcs k → handled k ≡ true

-- no arc is left to handle: the queue is at its end
pub record IsAllProcessed (arcs : List (ℕ × ℕ)) (left : List ℕ) : Type 0 where
  pub order : List ℕ
  pub tail : ℕ
  pub settled : IsProcessed arcs left order tail tail
