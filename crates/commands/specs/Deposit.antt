-- The deposit that a table of blocks, precedence pairs and two columns spell, and why none was read.
use Rattle.std.specs.Prelude.{◌≡◌, ◌⊎◌, ℕ, List, length}
use Rattle.faults.specs.Refused.{no_memory}
use Rattle.minelib_reader.specs.Table.{Table}
use Rattle.minelib_reader.specs.BlocksGrammar.{SpellsTable}
use Rattle.minelib_reader.specs.BlocksFault.{IsFirstTableFault}
use Rattle.minelib_reader.specs.PrecGrammar.{SpellsPrec}
use Rattle.minelib_reader.specs.PrecFault.{IsFirstPrecFault}
use Rattle.faults.specs.declared.fault.Fault.{Fault}
use Rattle.faults.specs.declared.refusal.Refusal.{Refusal}
use Rattle.faults.specs.declared.refusal.Refusal.TheVariants.{NoMemory, ReadFailed, WriteFailed, NoSeat, Exhausted}
use Rattle.faults.specs.declared.source.Source.TheVariants as sources
use Rattle.mine_graph.specs.Faults.{IsGraphFault}
use Rattle.pit_model.specs.Graph.{Graph, AreSamePairs, IsAcyclic}
use Rattle.pit_model.specs.Deposit.{Deposit}
use Rattle.nesting.specs.Prices.{Prices, deposit_of}
use Rattle.shells.specs.Columns.{AreColumns, RefusesColumns}
use Rattle.commands.specs.Solve.{Reading, Gave, NeverFailed, FailedOnce}

abbrev pub rows : Table → ℕ
rows table = length table.places

-- the readers gave two texts, which spell a table and pairs for its blocks
pub record GaveTable (blocks prec : Reading) (table : Table) (pairs : List (ℕ × ℕ)) : Type 0 where
  pub blocks_text : List ℕ
  pub prec_text : List ℕ
  pub blocks_given : Gave blocks blocks_text
  pub prec_given : Gave prec prec_text
  pub blocks_spelled : SpellsTable blocks_text table
  pub prec_spelled : SpellsPrec (rows table) prec_text pairs

-- the deposit of a table's blocks, two of its columns and the pairs
abbrev pub deposit_of_table : Table → Prices → List (ℕ × ℕ) → Deposit
deposit_of_table table prices pairs = deposit_of prices (record { blocks = rows table; pairs = pairs })

-- the readers gave a deposit without a cycle
pub record GaveDeposit (blocks prec : Reading) (revenue cost : ℕ) (deposit : Deposit) : Type 0 where
  pub table : Table
  pub pairs : List (ℕ × ℕ)
  pub prices : Prices
  pub given : GaveTable blocks prec table pairs
  pub acyclic : IsAcyclic pairs
  pub columns : AreColumns table revenue cost prices
  pub deposit_is : deposit ≡ deposit_of_table table prices pairs

-- a graph and prices in memory are those of the deposit that the readers gave, with the pairs in order
pub record HoldsDeposit (blocks prec : Reading) (revenue cost : ℕ) (prices : Prices) (graph : Graph) : Type 0 where
  pub table : Table
  pub pairs : List (ℕ × ℕ)
  pub given : GaveTable blocks prec table pairs
  pub count : graph.blocks ≡ rows table
  pub same : AreSamePairs pairs graph.pairs
  pub acyclic : IsAcyclic pairs
  pub columns : AreColumns table revenue cost prices

-- the first fault of the two texts in the order of the files: of the blocks; or of the precedence, where the blocks are
-- spelled; or the cycle of the pairs, where both are; or that of the columns, where there is no cycle
pub data FirstDepositFault (fault : Fault) (blocks prec : Reading) (revenue cost : ℕ) : Type 0 where
  in_blocks : (text : List ℕ) → Gave blocks text → IsFirstTableFault text fault → FirstDepositFault fault blocks prec revenue cost
  in_prec : (text behind : List ℕ) (table : Table) → Gave blocks text → SpellsTable text table → Gave prec behind → IsFirstPrecFault (rows table) behind fault → FirstDepositFault fault blocks prec revenue cost
  in_pairs : (table : Table) (pairs : List (ℕ × ℕ)) → GaveTable blocks prec table pairs → IsGraphFault pairs (rows table) fault → FirstDepositFault fault blocks prec revenue cost
  in_columns : (table : Table) (pairs : List (ℕ × ℕ)) → GaveTable blocks prec table pairs → IsAcyclic pairs → RefusesColumns table revenue cost fault → FirstDepositFault fault blocks prec revenue cost

-- why no deposit was read
abbrev pub RefusesDeposit : Refusal → Fault → Reading → Reading → ℕ → ℕ → Type 0
RefusesDeposit NoMemory fault blocks prec revenue cost = (fault ≡ no_memory) × NeverFailed blocks × NeverFailed prec
RefusesDeposit ReadFailed fault blocks prec revenue cost = FailedOnce sources.Blocks fault blocks ⊎ FailedOnce sources.Precedence fault prec
RefusesDeposit WriteFailed fault blocks prec revenue cost = ⊥
RefusesDeposit NoSeat fault blocks prec revenue cost = ⊥
RefusesDeposit (Exhausted count) fault blocks prec revenue cost = ⊥
RefusesDeposit _ fault blocks prec revenue cost = FirstDepositFault fault blocks prec revenue cost
