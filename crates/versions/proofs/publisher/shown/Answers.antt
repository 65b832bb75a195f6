use Rattle.versions.proofs.Copies.{ok_side}
use Rattle.versions.proofs.publisher.shown.Goals as goal

pub returns-clause-shown : goal.returns-clause-shown
returns-clause-shown g c =
    let did = c.publish_as-copies.ensures in
    (ok_side c.publish_as-copies.result.1 _ _ (did.succeeds tt) did.values).0

pub returns-clause-none_left : goal.returns-clause-none_left
returns-clause-none_left g c =
    let did = c.publish_as-copies.ensures in
    (ok_side c.publish_as-copies.result.1 _ _ (did.succeeds tt) did.values).1
