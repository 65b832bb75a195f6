-- No excess is above the limit of the sum of all values.
use Rattle.std.proofs.Common.{arith, rules}
use Rattle.std.specs.Prelude.{ℤ, pos, ◌≤ℤ◌}
use Rattle.std.specs.Int.{int_max}
use Rattle.std.proofs.lemmas.Int.{ints, to_z-of_z}
use mir.Val.{SFits}
use mir.Syntax.{w128}
use Rattle.pit_model.specs.Limits.{most_worth}
use Rattle.norm_tree.proofs.Ranking.{excess_most}
use Rattle.norm_tree.proofs.tree.NormTree.positive_part.Goals as goal

max_most : (x m : ℤ) → x ≤ℤ m → pos 0 ≤ℤ m → int_max x (pos 0) ≤ℤ m
max_most x m h k = grind (arith, ints)

pub returns-clause-most : goal.returns-clause-most
returns-clause-most c =
    let fits : SFits w128 c.max.result = search rules in
    let fits_excess : SFits w128 c.excess.result = search rules in
    rw (to_z-of_z w128 c.max.result fits, c.max.ensures.value, to_z-of_z w128 c.excess.result fits_excess, c.excess.ensures)
    (max_most _ (pos most_worth) (excess_most c.args.self.now.mine c.args.self.now.tree c.law.ensures.instance c.law.ensures.normalised c.args.block c.requires) (omega (arith, ints)))
