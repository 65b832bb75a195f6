use Rattle.merging.proofs.Shown.{answered_blocks_show}
use Rattle.merging.proofs.single.solve_pit.Goals as goal

pub returns-clause-shown : goal.returns-clause-shown
returns-clause-shown c =
    answered_blocks_show c.in_ok-tree.tree c.args.instance.now c.pit.result c.in_ok-tree.ensures.mine c.law.ensures.instance c.law.ensures.normalised c.in_ok-tree.ensures.none_left c.pit.ensures.strong
