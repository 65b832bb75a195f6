-- The claim is the one that is answered, and neither step changes the number of workers.
use Rattle.std.proofs.Common.{◌-◌, ◌∙◌}
use Rattle.crate_tests.proofs.Serving.{claimed_in, as_long}
use Rattle.crate_tests.proofs.board_calls.answer_one.Goals as goal

pub returns-in-Some : goal.returns-in-Some
returns-in-Some g c =
    let e = c.in-Some.ensures.claimed.2 in
    let h = claimed_in c.args.holder.now.served _ c.args.worker c.in-Some.arc c.requires.0 c.requires.1 e in
    as_long _ _ (c.args.worker - 1) _ (c.answer.ensures.answered c.in-Some.arc h) ∙ as_long c.args.holder.now.served _ (c.args.worker - 1) _ e
