-- What arrays hold when nested pits have been written into them.
use Rattle.std.specs.Prelude.{◌≡◌, ◌↔◌, ℕ, ◌<◌, ◌≤◌, ℤ, pos, Bool, List, length, get_or, IsTrue}
use Rattle.pit_model.specs.declared.direction.Direction.TheVariants.{Least}
use Rattle.pit_model.specs.Deposit.{Deposit, mine_at}
use Rattle.pit_model.specs.Pit.{IsPit, no_blocks_fixed}
use Rattle.pit_model.specs.Mine.{worth}
use Rattle.pit_model.specs.Shells.{AreFactors, factor_of}
use Rattle.arrays.specs.Encoded.{PricedRows, EncodesDeposit}

-- the blocks with a number up to k are the least pit at a factor, and the amount is its worth there
pub record IsMarkedShell (deposit : Deposit) (factor k : ℕ) (firsts : List ℕ) (amount : ℤ) : Type 0 where
  pub set : ℕ → Bool
  pub is_pit : IsPit Least (mine_at deposit factor) no_blocks_fixed set
  pub held : (u : ℕ) → u < deposit.blocks → IsTrue (set u) ↔ (get_or firsts u 0 ≤ k)
  pub worth_is : amount ≡ worth (mine_at deposit factor) set

-- of the deposit that the arrays encode, each block has the number of the first factor whose least pit holds it, or the number of factors if
-- none does, and each factor the worth of its pit
pub record MarkShells (rows : PricedRows) (factors firsts : List ℕ) (amounts : List ℤ) : Type 0 where
  pub deposit : Deposit
  pub encoded : EncodesDeposit rows deposit
  pub rise : AreFactors factors
  pub count : length firsts ≡ deposit.blocks
  pub counted : length amounts ≡ length factors
  pub each : (k : ℕ) → k < length factors → IsMarkedShell deposit (factor_of factors k) k firsts (get_or amounts k (pos 0))
  pub in_none : (u : ℕ) → u < deposit.blocks → ((k : ℕ) → k < length factors → k < get_or firsts u 0) → get_or firsts u 0 ≡ length factors
