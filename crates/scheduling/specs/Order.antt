-- What is mined by a period, and the order of precedence.
use Rattle.std.specs.Prelude.{◌≡◌, ℕ, suc, ◌<◌, ◌≤◌, pos, ◌≤ℤ◌, List, length, get_or}
use Rattle.pit_model.specs.Graph.{first_of, second_of}
use Rattle.schedule_model.specs.Problem.{Problem}
use Rattle.schedule_model.specs.Schedule.{mined_in_first, whole_block}

-- the share of each block that is mined in the first periods, so many of them
pub record AreMinedBy (problem : Problem) (shares : List ℕ) (periods : ℕ) (by_now : List ℕ) : Type 0 where
  pub count : length by_now ≡ problem.blocks
  pub each : (b : ℕ) → b < problem.blocks → pos (get_or by_now b 0) ≡ mined_in_first problem shares b periods
  pub most : (b : ℕ) → b < problem.blocks → get_or by_now b 0 ≤ whole_block

-- by the end of a period no more than the whole of a block is mined; and of all blocks
abbrev pub IsMinedOnceBy : Problem → List ℕ → ℕ → ℕ → Type 0
IsMinedOnceBy problem shares t b = mined_in_first problem shares b (suc t) ≤ℤ pos whole_block

abbrev pub AreMinedOnceBy : Problem → List ℕ → ℕ → Type 0
AreMinedOnceBy problem shares t = (b : ℕ) → b < problem.blocks → IsMinedOnceBy problem shares t b

-- by the end of a period no more of a block is mined than of a block that it needs; and so for all pairs
abbrev pub IsPairInOrderBy : Problem → List ℕ → ℕ → ℕ → Type 0
IsPairInOrderBy problem shares t k =
    mined_in_first problem shares (first_of problem.pairs k) (suc t) ≤ℤ mined_in_first problem shares (second_of problem.pairs k) (suc t)

abbrev pub IsInOrderBy : Problem → List ℕ → ℕ → Type 0
IsInOrderBy problem shares t = (k : ℕ) → k < length problem.pairs → IsPairInOrderBy problem shares t k

-- both hold by the end of each earlier period
pub record IsInOrderBefore (problem : Problem) (shares : List ℕ) (t : ℕ) : Type 0 where
  pub once : (s : ℕ) → s < t → AreMinedOnceBy problem shares s
  pub in_order : (s : ℕ) → s < t → IsInOrderBy problem shares s

pub record IsInOrder (problem : Problem) (shares : List ℕ) : Type 0 where
  pub once : (b : ℕ) → b < problem.blocks → mined_in_first problem shares b problem.periods ≤ℤ pos whole_block
  pub in_order : (t : ℕ) → t < problem.periods → IsInOrderBy problem shares t
