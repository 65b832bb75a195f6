-- The rest of a mine with fixed blocks in memory, and what is found there by the numbers of the whole.
use Rattle.std.specs.Prelude.{◌≡◌, ℕ, Bool, List}
use Rattle.pit_model.specs.Mine.{Instance, members}
use Rattle.pit_model.specs.Fixed.{IsFixedJoined, IsFixedRest, fixed_of, graph_of_mine, mine_among}
use Rattle.mine_graph.specs.FixedBlocks.{FixedBlocks, forced_closure, barred_closure}
use Rattle.merging.specs.declared.reduced_mine.ReducedMine.{ReducedMine}

-- the open blocks of a mine, rising, and the instance on them, in which block i is the one at place i
pub record IsRestIn (mine : Instance) (fixed : FixedBlocks) (rest : ReducedMine) : Type 0 where
  pub is_rest : IsFixedRest (graph_of_mine mine) (fixed_of fixed.lists) (forced_closure fixed) (barred_closure fixed) rest.blocks.items (graph_of_mine rest.mine)
  pub mine_is : rest.mine ≡ mine_among mine rest.blocks.items (graph_of_mine rest.mine)

-- the list is that of what must be dug joined with a set of the rest
pub record ListsJoined (n : ℕ) (fixed : FixedBlocks) (blocks : List ℕ) (found : ℕ → Bool) (list : List ℕ) : Type 0 where
  pub after : ℕ → Bool
  pub listed : list ≡ members n after
  pub joined : IsFixedJoined (forced_closure fixed) (barred_closure fixed) blocks found after
