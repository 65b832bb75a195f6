-- The gains of one period more.
use Rattle.std.proofs.Common.{◌≡◌, ◌*◌, ◌∙◌, ap, List, arith, subst}
use Rattle.std.specs.Prelude.{ℤ}
use Rattle.scheduling.specs.Gains.{AddsGains}
use Rattle.scheduling.proofs.Adding.{best_more, small_more}
use Rattle.scheduling.proofs.gains.best_gains.Goals as goal

pub loop-period-preserved : goal.loop-period-preserved
loop-period-preserved c =
    let xs : List ℤ = c.loop-period.gains.items in
    let ys : List ℤ = c.add_gains.new.gains.items in
    let weights : List ℤ = c.in_ok-weights.weights.items in
    let adds : AddsGains c.args.problem.now weights xs ys =
    subst (λ (ws : List ℤ). AddsGains c.args.problem.now ws xs ys) c.deref.ensures.value c.in_ok-add_gains.ensures in
    let count = c.loop-period.invariant.count in
    let more = adds.count in
    record {
      count = omega arith;
      best = best_more c.args.problem.now c.args.prices.now weights c.law.ensures c.loop-period.period c.in_ok-weights.ensures.weights xs ys adds count c.loop-period.invariant.best;
      small = small_more c.args.problem.now weights c.law.ensures c.in_ok-weights.ensures.small xs ys adds c.loop-period.invariant.small;
    }

pub returns : goal.returns
returns c =
    let all : c.loop-period.period ≡ c.args.problem.now.periods = omega arith in
    record {
      count = c.loop-period.invariant.count ∙ ap (λ n. n * c.args.problem.now.blocks) all;
      best = λ b t hb ht. c.loop-period.invariant.best b t hb (omega arith);
      small = c.loop-period.invariant.small;
    }
