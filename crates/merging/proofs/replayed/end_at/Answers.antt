use Rattle.std.proofs.Common.{refl}
use Rattle.merging.proofs.Shown.{strong_blocks_show}
use Rattle.merging.proofs.replayed.end_at.Goals as goal

pub returns-in_ok-pit-in-None-clause-end : goal.returns-in_ok-pit-in-None-clause-end
returns-in_ok-pit-in-None-clause-end c =
    let tree = c.args.tree.now in
    let none = c.in-None.ensures.none refl in
    (none, strong_blocks_show tree tree.mine c.in_ok-pit-in-None.field-0.items refl c.law.ensures.instance c.law.ensures.normalised none c.in_ok-pit-in-None.ensures.strong)
