-- The pairs of one period more.
use Rattle.std.proofs.Common.{◌≡◌, ◌*◌, ◌∙◌, List, subst}
use Rattle.std.specs.Prelude.{ℕ}
use Rattle.scheduling.specs.Pairs.{AddsShifted}
use Rattle.scheduling.proofs.Paired.{needed_more}
use Rattle.scheduling.proofs.pairs.needed_pairs.Goals as goal

pub loop-period-preserved : goal.loop-period-preserved
loop-period-preserved c =
    let problem = c.args.problem.now in
    let xs : List (ℕ × ℕ) = c.loop-period.pairs.items in
    let ys : List (ℕ × ℕ) = c.add_shifted.new.pairs.items in
    let is : c.deref.result.now ≡ problem.pairs = c.deref.ensures.value ∙ c.in_ok-base.ensures ∙ c.graph.ensures.pairs in
    let adds : AddsShifted c.deref.result.now (c.loop-period.period * problem.blocks) xs ys = subst (λ b. AddsShifted c.deref.result.now (c.loop-period.period * b) xs ys) c.blocks-in-loop-period.ensures c.in_ok-add_shifted.ensures in
    needed_more problem c.loop-period.period c.deref.result.now xs ys is c.loop-period.invariant adds
