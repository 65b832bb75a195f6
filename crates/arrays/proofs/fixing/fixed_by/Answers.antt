-- The lists of the blocks with the numbers 1 and 2 fix what the numbers fix.
use Rattle.std.proofs.Common.{◌≡◌, ℕ, List, length, ⊎_elim, ap, ◌∙◌, arith}
use Rattle.pit_model.specs.Fixed.{fixed_of}
use Rattle.mine_graph.specs.FixedBlocks.{lists_of}
use Rattle.arrays.proofs.Numbered.{are_fixable, lists_fix, refuses_as}
use Rattle.arrays.proofs.fixing.fixed_by.Goals as goal

pub returns-then-numbers-eq0-clause-of_graph : goal.returns-then-numbers-eq0-clause-of_graph
returns-then-numbers-eq0-clause-of_graph c = c.none.ensures.of_any c.args.graph.now

pub new-requires : goal.new-requires
new-requires c =
    let numbers : List ℕ = c.args.numbers.now in
    let n : ℕ = c.args.graph.now.blocks in
    let size : length numbers ≡ n = ⊎_elim (λ (e : length numbers ≡ 0). absurd (omega arith)) (λ (e : length numbers ≡ n). e) c.requires in
    are_fixable n numbers c.in_ok-forced.forced.items c.in_ok-barred.barred.items size c.in_ok-forced.ensures c.in_ok-barred.ensures

pub returns-in-Ok-clause-fixes : goal.returns-in-Ok-clause-fixes
returns-in-Ok-clause-fixes c = ap fixed_of c.in-Ok.ensures.lists ∙ lists_fix c.args.numbers.now c.in_ok-forced.forced.items c.in_ok-barred.barred.items c.in_ok-forced.ensures c.in_ok-barred.ensures

pub returns-in-Err-clause-refused : goal.returns-in-Err-clause-refused
returns-in-Err-clause-refused c =
    let forced = c.in_ok-forced.forced.items in
    let barred = c.in_ok-barred.barred.items in
    refuses_as c.args.graph.now c.args.numbers.now (lists_of forced barred) c.in-Err.fault.refusal c.in-Err.fault c.clash_of.result
    (lists_fix c.args.numbers.now forced barred c.in_ok-forced.ensures c.in_ok-barred.ensures) c.in-Err.ensures.refused c.clash_of.ensures.clash c.clash_of.ensures.none
