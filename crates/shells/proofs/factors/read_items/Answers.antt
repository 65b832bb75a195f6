-- The first item with a fault is the first that the loop comes to; at the end the list is one of factors.
use Rattle.std.proofs.Common.{◌≡◌, ◌∙◌, List, Option, ℕ, None, sym, ap, subst, length}
use Rattle.std.specs.Option.{option_map}
use Rattle.std.proofs.lemmas.Result.{err_from_is_err_and}
use Rattle.nesting.specs.FactorList.{item_fault_after, item_fault}
use Rattle.nesting.proofs.ItemChecks.{fault_here, first_item_fault, no_fault_are_factors}
use Rattle.shells.specs.FactorText.{item_numbers}
use Rattle.shells.proofs.ItemTexts.{all_items, item_here, item_refused}
use Rattle.shells.proofs.factors.read_items.Goals as goal

pub returns-in_err-factor-clause-refused : goal.returns-in_err-factor-clause-refused
returns-in_err-factor-clause-refused c =
    let p = err_from_is_err_and c.from_residual.result c.from_residual.ensures.1 in
    let e = c.in_err-factor.field-0.0 in
    let ns = item_numbers c.args.text.now in
    let list = c.loop-rest.list.items in
    let count : c.len.result ≡ length list = c.len.ensures ∙ c.loop-rest.list.ok.0 in
    let here = item_here ns list _ (option_map (λ rest. rest.now) c.next_item.result.1) c.in-Some.left.now _ c.loop-rest.invariant.items (ap (option_map (λ r. r.now)) c.in-Some.is) c.next_item.ensures.items in
    let fails = ap (λ n. item_fault_after n c.loop-rest.before c.whole_number.result) (sym count) ∙ c.in_err-factor.ensures.fails in
    let first = first_item_fault ns (length list) e here.1 c.loop-rest.invariant.none
    (fault_here ns (length list) c.loop-rest.before c.whole_number.result c.loop-rest.invariant.before (c.whole_number.ensures.value ∙ sym here.0) ∙ fails) in
    rw (p.1, p.2) (item_refused ns (length list) c.loop-rest.before c.whole_number.result e fails first)

pub returns-clause-lawful : goal.returns-clause-lawful
returns-clause-lawful c =
    let list = c.loop-rest.list.items in
    let same = all_items (item_numbers c.args.text.now) list _ c.loop-rest.invariant.items (ap (option_map (λ r. r.now)) c.in_default.is) in
    no_fault_are_factors list (λ k l. subst (λ (xs : List (Option ℕ)). item_fault xs k ≡ None) same (c.loop-rest.invariant.none k l))
