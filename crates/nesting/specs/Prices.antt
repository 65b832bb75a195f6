-- The revenue and the cost of each block.
use Rattle.std.specs.Prelude.{◌≤◌, ℕ, ℤ, pos, List, length, get_or}
use Rattle.pit_model.specs.Size.{most_blocks}
use Rattle.pit_model.specs.Graph.{Graph}
use Rattle.pit_model.specs.Deposit.{Deposit, IsAmount, priced}

-- by block
pub record Prices : Type 0 where
  pub revenues : List ℤ
  pub costs : List ℤ

-- as many of one as of the other, within the limits
pub record ArePrices (revenues costs : List ℤ) : Type 0 where
  pub few : length revenues ≤ most_blocks
  pub revenue : IsAmount (length revenues) revenues
  pub cost : IsAmount (length revenues) costs

-- the value of a block at a factor
abbrev pub price_of : Prices → ℕ → ℕ → ℤ
price_of prices factor u = priced factor (get_or prices.revenues u (pos 0)) (get_or prices.costs u (pos 0))

abbrev pub deposit_of : Prices → Graph → Deposit
deposit_of prices graph = record { blocks = graph.blocks; revenues = prices.revenues; costs = prices.costs; pairs = graph.pairs }
