-- Each pair of the part has its place among those of the whole, where its amount is written.
use Rattle.std.proofs.Common.{rules, sym, ap, ◌∙◌, arith, get_or}
use Rattle.std.specs.Int.{w128}
use Rattle.std.specs.Prelude.{pos}
use Rattle.std.proofs.lemmas.Int.{to_z-of_z}
use mir.Val.{SFits}
use Rattle.merging.proofs.Joining.{carry_more}
use Rattle.merging.proofs.lift.carry_flow.Goals as goal

pub unreachable-requires : goal.unreachable-requires
unreachable-requires c =
    let k = c.loop-k.k in
    let at = c.requires.inside c.loop-k.k (omega (arith, c.arcs-k-end.ensures)) in
    let none = c.in-None.ensures.none in
    none at.0 at.1
    (sym at.2.0 ∙ ap (λ q. get_or c.args.blocks.now q.0 0) (sym c.arc-u.ensures))
    (sym at.2.1 ∙ ap (λ q. get_or c.args.blocks.now q.1 0) (sym c.arc-u.ensures))

pub loop-k-preserved : goal.loop-k-preserved
loop-k-preserved c =
    let fits : SFits w128 (get_or c.args.amounts.now c.loop-k.k (pos 0)) = search rules in
    let some = c.in-Some.ensures.some in
    rw (to_z-of_z w128 (get_or c.args.amounts.now c.loop-k.k (pos 0)) fits)
    (carry_more c.args.whole.now c.args.blocks.now c.args.part.now c.law.ensures.graph c.law-2.ensures.graph c.requires.count c.requires.apart
    c.args.amounts.now c.loop-k.k c.args.flow.now c.loop-k.flow c.in-Some.arc c.loop-k.invariant (omega (arith, c.arcs-k-end.ensures)) some.0 c.requires.flow
    (ap (λ q. get_or c.args.blocks.now q.0 0) (sym c.arc-u.ensures) ∙ sym some.1, ap (λ q. get_or c.args.blocks.now q.1 0) (sym c.arc-u.ensures) ∙ sym some.2))
