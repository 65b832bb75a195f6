-- Sums of at most 2^22 values within 10^23 of 0 fit, and those of a set's members are its worth.
use Rattle.std.proofs.Common.{◌≡◌, ℕ, suc, ◌+◌, List, get_or, length, arith, ap, ◌∙◌}
use Rattle.std.specs.Prelude.{◌+ℤ◌, pos}
use Rattle.std.proofs.lemmas.Int.{to_z-of_z}
use mir.Val.{SFits}
use mir.Syntax.{w128}
use Rattle.pit_model.specs.Sum.{total}
use Rattle.pit_model.proofs.MemberSums.{summed-members}
use Rattle.mine_graph.proofs.Worth.{summed_fits}
use Rattle.mine_graph.proofs.values.Values.worth.Goals as goal

pub overflow_add-sum : goal.overflow_add-sum
overflow_add-sum c =
    let fits = summed_fits c.args.self.now c.args.blocks.now c.loop-u.u-index c.law.ensures c.requires.few c.requires.below c.loop-u-test.true in
    let small : SFits w128 c.of-sum.result = rw c.of-sum.ensures fits.0 in
    rw (to_z-of_z w128 c.of-sum.result small, c.of-sum.ensures, c.loop-u.invariant) fits.1

pub loop-u-preserved : goal.loop-u-preserved
loop-u-preserved c =
    let fits = summed_fits c.args.self.now c.args.blocks.now c.loop-u.u-index c.law.ensures c.requires.few c.requires.below c.loop-u-test.true in
    let small : SFits w128 c.of-sum.result = rw c.of-sum.ensures fits.0 in
    let e : c.loop-u.u-index + 1 ≡ suc c.loop-u.u-index = omega arith in
    rw (to_z-of_z w128 c.of-sum.result small, c.of-sum.ensures, c.loop-u.invariant)
    (rw e (to_z-of_z w128 (total c.loop-u.u-index (λ k. get_or c.args.self.now (get_or c.args.blocks.now k 0) (pos 0)) +ℤ get_or c.args.self.now (get_or c.args.blocks.now c.loop-u.u-index 0) (pos 0)) fits.1))

pub returns-clause-set : goal.returns-clause-set
returns-clause-set c n set is =
    let all : c.loop-u.u-index ≡ length c.args.blocks.now = omega arith in
    c.loop-u.invariant ∙ ap (λ k. total k (λ i. get_or c.args.self.now (get_or c.args.blocks.now i 0) (pos 0))) all
    ∙ ap (λ (xs : List ℕ). total (length xs) (λ i. get_or c.args.self.now (get_or xs i 0) (pos 0))) is ∙ summed-members n set (λ u. get_or c.args.self.now u (pos 0))
