-- The first item with a fault is the first that the loop comes to; where none has one, the list is one of factors.
use Rattle.std.proofs.Common.{◌∙◌, ℕ, Some, sym, ap, arith}
use Rattle.std.proofs.lemmas.List.{length-map}
use Rattle.nesting.proofs.ItemChecks.{numbers, number_at, first_item_fault, fault_here, one_more, before_next, no_fault_are_factors}
use Rattle.nesting.proofs.factors.first_fault.Goals as goal

pub returns-in-Err-clause-some : goal.returns-in-Err-clause-some
returns-in-Err-clause-some c =
    let list = c.args.list.now in
    let k = c.loop-k.k in
    let size = length-map list (λ (factor : ℕ). Some factor) in
    let here = number_at list k c.loop-k-test.true in
    first_item_fault (numbers list) k c.in-Err.fault (omega (arith, c.loop-k-test.true)) c.loop-k.invariant.none
    (fault_here (numbers list) k c.loop-k.before _ c.loop-k.invariant.before (ap (λ x. Some x) c.from.ensures ∙ sym here) ∙ c.in-Err.ensures.fails)

pub loop-k-preserved : goal.loop-k-preserved
loop-k-preserved c =
    let list = c.args.list.now in
    let k = c.loop-k.k in
    let here = number_at list k c.loop-k-test.true in
    record {
      before = sym c.in-Ok.ensures.passes.0 ∙ ap (λ x. Some x) c.from.ensures ∙ sym here ∙ sym (before_next (numbers list) k);
      none = one_more (numbers list) k c.loop-k.invariant.none
          (fault_here (numbers list) k c.loop-k.before _ c.loop-k.invariant.before (ap (λ x. Some x) c.from.ensures ∙ sym here) ∙ c.in-Ok.ensures.passes.1);
    }

pub returns-clause-none : goal.returns-clause-none
returns-clause-none c = no_fault_are_factors c.args.list.now (λ k l. c.loop-k.invariant.none k (omega (arith, c.loop-k-test.false)))
