-- A block without a mark has its old price until it is raised, and then the new one.
use Rattle.std.proofs.Common.{◌≡◌, ◌<◌, ◌∙◌, ◌+◌, true, false, ap, subst, sym, length, arith, rules}
use Rattle.std.specs.Prelude.{◌+ℤ◌}
use Rattle.std.specs.Int.{w128}
use Rattle.std.proofs.lemmas.Int.{ints, to_z-of_z}
use mir.Val.{SFits}
use Rattle.pit_model.specs.Mine.{Instance, value}
use Rattle.mine_graph.specs.Raised.{raised_at}
use Rattle.nesting.specs.Prices.{price_of}
use Rattle.nesting.specs.Grown.{marked}
use Rattle.nesting.specs.Parametric.{HasIncreased, searched_value}
use Rattle.nesting.proofs.PriceBounds.{each_small}
use Rattle.nesting.proofs.Parametric.{risen_marked, risen_raised, risen_same, toward_most}
use Rattle.nesting.proofs.parametric_shells.rise.Goals as goal
use Rattle.nesting.proofs.parametric_shells.rise.Goals.{then-not-marks-block+then-amount-gt0, then-not-marks-block+else-amount-gt0, else-not-marks-block}

pub increase_value-requires-clause-limit : goal.increase_value-requires-clause-limit
increase_value-requires-clause-limit c =
    let block = c.loop-block.block in
    let columns = c.args.columns.now in
    let amount = c.gain-amount.result in
    let rows = c.requires.rows in
    let off : marked c.args.marks.now block ≡ false = search rules in
    let below : block < c.args.mine.now.blocks = search rules in
    let late = c.loop-block.invariant.later block (omega arith) in
    let before = c.requires.before block below off in
    let gained = c.gain-amount.ensures.gain in
    let least = c.gain-amount.ensures.least in
    let most = c.gain-amount.ensures.most in
    let fits : SFits w128 amount = omega (arith, ints) in
    let small = toward_most c.args.step.direction (price_of columns c.args.step.to block) (each_small columns c.args.step.to block c.law-2.ensures c.requires.limits.1 (omega arith)) in
    rw (to_z-of_z w128 amount fits) (omega (arith, ints))

pub loop-block-preserved : goal.loop-block-preserved
loop-block-preserved c =
    let block = c.loop-block.block in
    let columns = c.args.columns.now in
    let marks = c.args.marks.now in
    let old = c.args.mine.now in
    let mine = c.loop-block.mine in
    let is = c.loop-block.invariant in
    let rows = c.requires.rows in
    let below : block < old.blocks = search rules in
    elim c.if-not-marks-block.branch [
      | then-not-marks-block+then-amount-gt0 w ↦
          let amount = w.gain-amount.result in
          let off : marked marks block ≡ false = search rules in
          let before = c.requires.before block below off in
          let gained = w.gain-amount.ensures.gain in
          let least = w.gain-amount.ensures.least in
          let most = w.gain-amount.ensures.most in
          let fits : SFits w128 amount = omega (arith, ints) in
          let size = is.size in
          let count = c.law.ensures.limits.value_count in
          let sum : (value old block +ℤ amount) ≡ searched_value c.args.step.direction (price_of columns c.args.step.to block) = omega (arith, ints) in
          subst (λ (m : Instance). HasIncreased c.args.step.direction columns marks c.args.step.to (block + 1) old m) (sym (w.mine-is ∙ w.increase_value.ensures ∙ ap (raised_at mine block) (to_z-of_z w128 amount fits)))
          (risen_raised c.args.step.direction columns marks c.args.step.to block old mine amount is (omega arith) off sum)
      | then-not-marks-block+else-amount-gt0 w ↦
          let amount = w.gain-amount.result in
          let off : marked marks block ≡ false = search rules in
          let before = c.requires.before block below off in
          let gained = w.gain-amount.ensures.gain in
          let least = w.gain-amount.ensures.least in
          let same : value old block ≡ searched_value c.args.step.direction (price_of columns c.args.step.to block) = omega (arith, ints) in
          subst (λ (m : Instance). HasIncreased c.args.step.direction columns marks c.args.step.to (block + 1) old m) (sym w.mine-is) (risen_same c.args.step.direction columns marks c.args.step.to block old mine is same)
      | else-not-marks-block w ↦
          let on : marked marks block ≡ true = search rules in
          subst (λ (m : Instance). HasIncreased c.args.step.direction columns marks c.args.step.to (block + 1) old m) (sym w.mine-is) (risen_marked c.args.step.direction columns marks c.args.step.to block old mine is on)
    ]
