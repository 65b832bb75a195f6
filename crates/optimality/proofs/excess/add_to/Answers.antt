-- The sum fits, and the place that was written holds it.
use Rattle.std.proofs.Common.{arith, rules, get_or}
use Rattle.std.specs.Prelude.{pos, ◌+ℤ◌}
use Rattle.std.proofs.lemmas.Int.{to_z-of_z, ints}
use mir.Val.{SFits}
use mir.Syntax.{w128}
use Rattle.optimality.specs.Check.{amount}
use Rattle.optimality.proofs.Adding.{set-add}
use Rattle.optimality.proofs.excess.add_to.Goals as goal

pub overflow_add-excesses : goal.overflow_add-excesses
overflow_add-excesses c =
    let a : SFits w128 (get_or c.args.excesses.now c.args.block (pos 0)) = search rules in
    let b : SFits w128 (get_or c.args.flow.now c.args.k (pos 0)) = search rules in
    let p = c.requires.amount.0 in let q = c.requires.amount.1 in let r = c.requires.small.0 in let s = c.requires.small.1 in
    rw (to_z-of_z w128 (get_or c.args.excesses.now c.args.block (pos 0)) a, to_z-of_z w128 (get_or c.args.flow.now c.args.k (pos 0)) b) (omega (arith, ints))

pub returns : goal.returns
returns c u =
    let a : SFits w128 (get_or c.args.excesses.now c.args.block (pos 0)) = search rules in
    let b : SFits w128 (get_or c.args.flow.now c.args.k (pos 0)) = search rules in
    let p = c.requires.amount.0 in let q = c.requires.amount.1 in let r = c.requires.small.0 in let s = c.requires.small.1 in
    let d : SFits w128 (get_or c.args.excesses.now c.args.block (pos 0) +ℤ get_or c.args.flow.now c.args.k (pos 0)) = omega (arith, ints) in
    let e = to_z-of_z w128 (get_or c.args.excesses.now c.args.block (pos 0) +ℤ get_or c.args.flow.now c.args.k (pos 0)) d in
    rw (to_z-of_z w128 (get_or c.args.excesses.now c.args.block (pos 0)) a, to_z-of_z w128 (get_or c.args.flow.now c.args.k (pos 0)) b, e) (set-add c.args.excesses.now c.args.block u (amount c.args.flow.now c.args.k) c.requires.block)
