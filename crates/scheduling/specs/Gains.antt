-- The best priced gains of blocks, node by node.
use Rattle.std.specs.Prelude.{◌≡◌, ℕ, ◌+◌, ◌*◌, ◌^◌, ◌<◌, ℤ, pos, ◌≤ℤ◌, List, length, get_or}
use Rattle.schedule_model.specs.Problem.{Problem}
use Rattle.schedule_model.specs.Bound.{IsBest, node}
use Rattle.scheduling.specs.Limits.{AreWithinDistance}
use Rattle.scheduling.specs.Weights.{weighted}

-- no priced gain is further from 0: 2^10 amounts of 10^16 by 10^15
abbrev pub most_gain : ℕ
most_gain = 2 ^ 10 * 10 ^ 31

-- the greatest of the weighted amounts of a block over the first destinations, so many of them
pub record IsGreatest (problem : Problem) (weights : List ℤ) (b count : ℕ) (greatest : ℤ) : Type 0 where
  pub reached : (d : ℕ) × (d < count) × (weighted problem weights b d ≡ greatest)
  pub most : (d : ℕ) → d < count → weighted problem weights b d ≤ℤ greatest

-- the best gain of each block in each of the first periods, so many nodes
pub record AreBest (problem : Problem) (prices : List ℤ) (gains : List ℤ) : Type 0 where
  pub count : length gains ≡ problem.periods * problem.blocks
  pub best : (b t : ℕ) → b < problem.blocks → t < problem.periods → IsBest problem prices b t (get_or gains (node problem b t) (pos 0))
  pub small : AreWithinDistance most_gain gains

-- the greatest weighted amounts of all blocks, after the gains of earlier periods
pub record AddsGains (problem : Problem) (weights : List ℤ) (before after : List ℤ) : Type 0 where
  pub count : length after ≡ length before + problem.blocks
  pub kept : (i : ℕ) → i < length before → get_or after i (pos 0) ≡ get_or before i (pos 0)
  pub added : (b : ℕ) → b < problem.blocks → IsGreatest problem weights b problem.destinations (get_or after (length before + b) (pos 0))
