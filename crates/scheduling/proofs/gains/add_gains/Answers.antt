-- The gain of one block more.
use Rattle.std.proofs.Common.{◌≡◌, ◌+◌, ◌∙◌, ap, List, [], ◌∷◌, ◌++◌, length, arith}
use Rattle.std.specs.Prelude.{ℤ}
use Rattle.std.specs.Int.{w128}
use Rattle.std.proofs.lemmas.Int.{to_z-of_z}
use mir.Val.{SFits}
use Rattle.scheduling.specs.Gains.{IsGreatest}
use Rattle.scheduling.proofs.Adding.{added_pushed, kept_pushed}
use Rattle.scheduling.proofs.Pushed.{count_pushed}
use Rattle.scheduling.proofs.gains.add_gains.Goals as goal

pub loop-block-preserved : goal.loop-block-preserved
loop-block-preserved c =
    let old : List ℤ = c.args.gains.now.items in
    let xs : List ℤ = c.loop-block.gains.items in
    let ys : List ℤ = c.push.new.self.items in
    let x = c.best_gain.result in
    let fits : SFits w128 x = record { sfits = c.best_gain.type_inv } in
    let are : ys ≡ xs ++ x ∷ [] = c.in_ok-push.ensures.items ∙ ap (λ (y : ℤ). xs ++ y ∷ []) (to_z-of_z w128 x fits) in
    let count = c.loop-block.invariant.count in
    let more = count_pushed xs ys x (length old + c.loop-block.block) are count in
    record {
      count = omega arith;
      kept = kept_pushed old xs ys x are (omega arith) c.loop-block.invariant.kept;
      added = added_pushed (λ b y. IsGreatest c.args.problem.now c.args.weights.now b c.args.problem.now.destinations y) (length old) c.loop-block.block xs ys x are count c.loop-block.invariant.added c.best_gain.ensures;
    }
