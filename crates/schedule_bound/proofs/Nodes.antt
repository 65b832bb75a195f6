-- The instance of the nodes is the time-expanded instance.
use Rattle.std.proofs.Common.{◌≡◌, suc, ◌+◌, ◌*◌, List, length, get_or, sym, subst, arith}
use Rattle.std.specs.Prelude.{ℤ, pos, ◌-ℤ◌}
use Rattle.pit_model.specs.Mine.{Instance}
use Rattle.schedule_model.specs.Problem.{Problem}
use Rattle.schedule_model.specs.Bound.{AreNodePairs, IsRoundedUp, IsTimeExpanded, node}
use Rattle.schedule_model.proofs.Bounded.{node_below}
use Rattle.scheduling.specs.Nodes.{AreNodeValues}
use Rattle.schedule_bound.specs.Worth.{gain_at}

pub nodes_expanded : (problem : Problem) (gains values : List ℤ) (nodes : Instance) → length gains ≡ problem.periods * problem.blocks → AreNodeValues gains problem.blocks (length gains) values
    → nodes.blocks ≡ problem.periods * problem.blocks → nodes.values ≡ values → AreNodePairs problem nodes.pairs → IsTimeExpanded problem (gain_at problem gains) nodes
nodes_expanded problem gains values nodes count are blocks same pairs = record {
  count = blocks;
  pairs = pairs;
  values = λ b t hb ht.
      let i = node problem b t in
      let below = node_below problem.blocks problem.periods b t hb ht in
      let next : t * problem.blocks + b + problem.blocks ≡ suc t * problem.blocks + b = omega arith in
      subst (λ (xs : List ℤ). IsRoundedUp (gain_at problem gains b t -ℤ gain_at problem gains b (suc t)) (get_or xs i (pos 0))) (sym same)
      (subst (λ j. IsRoundedUp (get_or gains i (pos 0) -ℤ get_or gains j (pos 0)) (get_or values i (pos 0))) next (are.rounded i (omega arith)));
}
