-- The mine that arrays encode: a value for each block, and which blocks each needs in compressed rows.
use Rattle.std.specs.Prelude.{◌≡◌, ℕ, ◌+◌, ◌<◌, ◌≤◌, ℤ, List, length, get_or}
use Rattle.pit_model.specs.Deposit.{Deposit}
use Rattle.pit_model.specs.Graph.{first_of, second_of, AreSamePairs, Graph}
use Rattle.pit_model.specs.Mine.{Instance, instance_of}
use Rattle.csr.specs.Rows.{IsCsr}

-- place k lies in the row of block u
abbrev pub IsInRow : List ℕ → ℕ → ℕ → Type 0
IsInRow starts u k = (get_or starts u 0 ≤ k) × (k < get_or starts (u + 1) 0)

-- a pair for each place: the block in whose row it lies needs the block that stands there
pub record EncodesPairs (starts needs : List ℕ) (pairs : List (ℕ × ℕ)) : Type 0 where
  pub count : length pairs ≡ length needs
  pub block : (k : ℕ) → k < length needs → IsInRow starts (first_of pairs k) k
  pub needed : (k : ℕ) → k < length needs → second_of pairs k ≡ get_or needs k 0

-- as many blocks as values, and the pairs of the rows
pub record EncodesMine (values : List ℤ) (starts needs : List ℕ) (mine : Instance) : Type 0 where
  pub blocks : mine.blocks ≡ length values
  pub values_are : mine.values ≡ values
  pub rows : IsCsr mine.blocks (length needs) starts
  pub pairs_are : EncodesPairs starts needs mine.pairs

-- the same mine in memory, where the pairs stand in another order
pub record IsEncoded (values : List ℤ) (starts needs : List ℕ) (mine : Instance) : Type 0 where
  pub pairs : List (ℕ × ℕ)
  pub encoded : EncodesMine values starts needs (instance_of mine.blocks mine.values pairs)
  pub same : AreSamePairs pairs mine.pairs

-- the revenue and the cost of each block, and which blocks each needs
pub record PricedRows : Type 0 where
  pub revenues : List ℤ
  pub costs : List ℤ
  pub starts : List ℕ
  pub needs : List ℕ

abbrev pub priced_rows : List ℤ → List ℤ → List ℕ → List ℕ → PricedRows
priced_rows revenues costs starts needs = record { revenues = revenues; costs = costs; starts = starts; needs = needs }

-- as many blocks as revenues, a cost for each, and the pairs of the rows
pub record EncodesDeposit (rows : PricedRows) (deposit : Deposit) : Type 0 where
  pub blocks : deposit.blocks ≡ length rows.revenues
  pub revenues_are : deposit.revenues ≡ rows.revenues
  pub costs_are : deposit.costs ≡ rows.costs
  pub rows_are : IsCsr deposit.blocks (length rows.needs) rows.starts
  pub pairs_are : EncodesPairs rows.starts rows.needs deposit.pairs

-- a graph in memory of so many blocks, where the pairs of the rows stand in another order
pub record EncodesGraph (blocks : ℕ) (starts needs : List ℕ) (graph : Graph) : Type 0 where
  pub pairs : List (ℕ × ℕ)
  pub count : graph.blocks ≡ blocks
  pub rows : IsCsr blocks (length needs) starts
  pub pairs_are : EncodesPairs starts needs pairs
  pub same : AreSamePairs pairs graph.pairs

-- the law: arrays encode one mine at most
abbrev pub ArraysEncodeOneMine : Type 0
ArraysEncodeOneMine = (values : List ℤ) (starts needs : List ℕ) (mine other : Instance) → EncodesMine values starts needs mine → EncodesMine values starts needs other → mine ≡ other
