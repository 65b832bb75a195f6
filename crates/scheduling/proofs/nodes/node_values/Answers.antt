-- The value of one node more, or one that is out of range.
use Rattle.std.proofs.Common.{◌≡◌, ◌∙◌, ap, List, [], ◌∷◌, ◌++◌, ◌⊎◌, inl, inr, ⊎_elim, arith, get_or, subst}
use Rattle.std.specs.Prelude.{ℤ, pos, neg_ℤ, ◌<ℤ◌}
use Rattle.std.specs.Int.{w128}
use Rattle.std.proofs.lemmas.Int.{ints, to_z-of_z}
use mir.Val.{SFits}
use Rattle.schedule_model.specs.Bound.{IsRoundedUp}
use Rattle.scheduling.specs.Limits.{IsWithinDistance}
use Rattle.scheduling.specs.Nodes.{most_value, step_of}
use Rattle.scheduling.proofs.Pushed.{count_pushed, each_pushed}
use Rattle.scheduling.proofs.nodes.node_values.Goals as goal
use Rattle.scheduling.proofs.nodes.node_values.Goals.{then-value-via-then-value, then-value-via-else-value+then-value-gt-MOST_VALUE}

pub loop-node-preserved : goal.loop-node-preserved
loop-node-preserved c =
    let xs : List ℤ = c.loop-node.values.items in
    let ys : List ℤ = c.push.new.self.items in
    let x = c.rounded_up-value.result in
    let step = c.step.result in
    let fits : SFits w128 x = record { sfits = c.rounded_up-value.type_inv } in
    let step_fits : SFits w128 step = record { sfits = c.step.type_inv } in
    let are : ys ≡ xs ++ x ∷ [] = c.in_ok-push.ensures.items ∙ ap (λ (y : ℤ). xs ++ y ∷ []) (to_z-of_z w128 x fits) in
    let rounded : IsRoundedUp (step_of c.args.gains.now c.args.blocks c.loop-node.node) x = subst (λ y. IsRoundedUp y x) (to_z-of_z w128 step step_fits ∙ c.step.ensures.step) c.rounded_up-value.ensures in
    let low = c.if-value.false in
    let high = c.if-value-gt-MOST_VALUE.false in
    let within : IsWithinDistance most_value x = record { low = omega (arith, ints); high = omega (arith, ints) } in
    record {
      count_is = count_pushed xs ys x c.loop-node.node are c.loop-node.invariant.count_is;
      rounded = each_pushed (λ i y. IsRoundedUp (step_of c.args.gains.now c.args.blocks i) y) xs ys x c.loop-node.node are c.loop-node.invariant.count_is c.loop-node.invariant.rounded rounded;
      within = each_pushed (λ i y. IsWithinDistance most_value y) xs ys x c.loop-node.node are c.loop-node.invariant.count_is c.loop-node.invariant.within within;
    }

beyond : (x : ℤ) → (x <ℤ neg_ℤ (pos most_value)) ⊎ (pos most_value <ℤ x) → IsWithinDistance most_value x → ⊥
beyond x out within =
    let low = within.low in
    let high = within.high in
    ⊎_elim (λ (l : x <ℤ neg_ℤ (pos most_value)). omega (arith, ints)) (λ (h : pos most_value <ℤ x). omega (arith, ints)) out

pub returns-then-value-clause-refused : goal.returns-then-value-clause-refused
returns-then-value-clause-refused c =
    let x = c.rounded_up-value.result in
    let step = c.step.result in
    let values : List ℤ = c.loop-node.values.items in
    let invariant = c.loop-node.invariant in
    let step_fits : SFits w128 step = record { sfits = c.step.type_inv } in
    let rounded : IsRoundedUp (step_of c.args.gains.now c.args.blocks c.loop-node.node) x = subst (λ y. IsRoundedUp y x) (to_z-of_z w128 step step_fits ∙ c.step.ensures.step) c.rounded_up-value.ensures in
    let out : (x <ℤ neg_ℤ (pos most_value)) ⊎ (pos most_value <ℤ x) = elim c.then-value.branch [
      | then-value-via-then-value w ↦ let low = w.if-value.true in inl (omega (arith, ints))
      | then-value-via-else-value+then-value-gt-MOST_VALUE w ↦ let high = w.if-value-gt-MOST_VALUE.true in inr (omega (arith, ints))
    ] in
    record {
      node_in = c.loop-node-test.true;
      rounded = x;
      rounded_is = rounded;
      beyond = beyond x out;
      before = λ i h. record { rounded = get_or values i (pos 0); rounded_is = invariant.rounded i h; within = invariant.within i h };
    }
