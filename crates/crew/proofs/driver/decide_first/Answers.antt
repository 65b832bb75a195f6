-- Where the search found nothing, no merger arc is left.
use Rattle.std.proofs.Common.{refl, subst, None}
use Rattle.pit_model.specs.Tree.{MineTree}
use Rattle.pit_model.specs.FirstRun.{IsFirstMerger}
use Rattle.crew.proofs.driver.decide_first.Goals as goal

pub returns-in-None-clause-decided : goal.returns-in-None-clause-decided
returns-in-None-clause-decided g c =
    let found = subst (λ (r : _). IsFirstMerger c.tree.result.now.mine c.tree.result.now.tree r) c.in-None.is c.first_merger.ensures in
    (subst (λ (t : MineTree). IsFirstMerger t.mine t.tree None) c.tree.ensures found, refl)
