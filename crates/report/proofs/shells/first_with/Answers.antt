-- Half of the shells is left: those before the middle, or those behind it.
use Rattle.std.proofs.Common.{◌∙◌, ◌+◌, ◌-◌, ◌/◌, sym, arith, ℕ}
use Rattle.report.proofs.Firsts.{goes_low, goes_high}
use Rattle.report.proofs.shells.first_with.Goals as goal

pub halving-preserved-then-holds : goal.halving-preserved-then-holds
halving-preserved-then-holds c =
    let middle : ℕ = c.halving.low + (c.halving.high - c.halving.low) / 2 in
    goes_low c.args.shells.now c.args.block c.halving.low c.halving.high middle c.index-shells-middle.result c.requires.nested c.halving.invariant
    (omega arith) (omega (arith, c.halving-test.true)) (sym c.index-shells-middle.is) (sym c.holds.ensures ∙ c.if-holds.true)

pub halving-preserved : goal.halving-preserved
halving-preserved c =
    let middle : ℕ = c.halving.low + (c.halving.high - c.halving.low) / 2 in
    goes_high c.args.shells.now c.args.block c.halving.low c.halving.high middle c.index-shells-middle.result c.requires.nested c.halving.invariant
    (omega arith) (omega (arith, c.halving-test.true)) (sym c.index-shells-middle.is) (sym c.holds.ensures ∙ c.if-holds.false)
