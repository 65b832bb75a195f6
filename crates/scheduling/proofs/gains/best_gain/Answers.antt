-- One destination more.
use Rattle.std.proofs.Common.{◌+◌, ◌∙◌, sym, subst, to_z, of_z}
use Rattle.std.specs.Prelude.{ℤ}
use Rattle.std.specs.Int.{w128}
use Rattle.std.proofs.lemmas.Int.{to_z-of_z}
use mir.Val.{SFits}
use Rattle.scheduling.specs.Gains.{IsGreatest}
use Rattle.scheduling.proofs.Weighing.{greatest_more}
use Rattle.scheduling.proofs.gains.best_gain.Goals as goal

pub loop-destination-preserved : goal.loop-destination-preserved
loop-destination-preserved c =
    let problem = c.args.problem.now in
    let weights = c.args.weights.now in
    let r = c.greater-best.result in
    let gain = c.weighted_gain.result in
    let fits : SFits w128 r = record { sfits = c.greater-best.type_inv } in
    let gain_fits : SFits w128 gain = record { sfits = c.weighted_gain.type_inv } in
    let more = greatest_more problem weights c.args.block c.loop-destination.destination (to_z w128 c.loop-destination.best-bits) (to_z w128 (of_z w128 gain)) r
    c.loop-destination.invariant (to_z-of_z w128 gain gain_fits ∙ c.weighted_gain.ensures) c.greater-best.ensures.one c.greater-best.ensures.first c.greater-best.ensures.second in
    subst (λ (x : ℤ). IsGreatest problem weights c.args.block (c.loop-destination.destination + 1) x) (sym (to_z-of_z w128 r fits)) more
