-- The list of amounts, of one holder or shared.
use Rattle.std.specs.Prelude.{ℤ, List}
use Rattle.mine_graph.specs.declared.amounts.Amounts.{Amounts}
use Rattle.mine_graph.specs.declared.amounts.Amounts.TheVariants.{Own, Shared}

abbrev pub held_list : Amounts → List ℤ
held_list (Own list) = list.items
held_list (Shared list) = list.value.items
