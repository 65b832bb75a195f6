-- An item is cut off at the first comma, or is all that is left.
use Rattle.std.proofs.Common.{sym}
use Rattle.shells.proofs.ItemTexts.{items_end, items_go_on}
use Rattle.shells.proofs.items.next_item.Goals as goal

pub returns-in-None-clause-items : goal.returns-in-None-clause-items
returns-in-None-clause-items c = items_end c.args.text.now (sym c.in-None.ensures.parts)

pub returns-in-Some-clause-items : goal.returns-in-Some-clause-items
returns-in-Some-clause-items c = items_go_on c.args.text.now (c.in-Some.item.now, c.in-Some.rest.now) (sym c.in-Some.ensures.parts)
