-- Neither the product nor the sum leaves the type.
use Rattle.std.proofs.Common.{ap, ◌∙◌, rules}
use Rattle.std.specs.Prelude.{pos}
use Rattle.pit_model.specs.Graph.{Graph}
use Rattle.pit_model.specs.Mine.{Instance}
use Rattle.std.proofs.lemmas.Int.{to_z-of_z}
use mir.Val.{SFits}
use mir.Syntax.{w128}
use Rattle.norm_tree.proofs.Ranking.{one_more, product_fits, product_cast, rank_fits, rank_cast}
use Rattle.norm_tree.proofs.tree.NormTree.rank.Goals as goal

pub overflow_mul-result : goal.overflow_mul-result
overflow_mul-result c =
    let mine = c.args.self.now.mine in
    let tree = c.args.self.now.tree in
    let good = c.law.ensures.instance in
    let fits : SFits w128 c.positive_sum.result = search rules in
    let sum = to_z-of_z w128 c.positive_sum.result fits ∙ c.positive_sum.ensures in
    let n = c.n.ensures ∙ ap (λ (g : Graph). g.blocks) c.deref.ensures ∙ c.graph.ensures.blocks ∙ ap (λ (m : Instance). m.blocks) c.instance.ensures in
    let more = one_more c.from-blocks.result mine.blocks (c.from-blocks.ensures ∙ ap pos n) good.limits.few_blocks in
    rw (sum, more) (product_fits mine tree good c.law.ensures.normalised)

pub overflow_add-result-2 : goal.overflow_add-result-2
overflow_add-result-2 c =
    let mine = c.args.self.now.mine in
    let tree = c.args.self.now.tree in
    let good = c.law.ensures.instance in
    let fits : SFits w128 c.positive_sum.result = search rules in
    let sum = to_z-of_z w128 c.positive_sum.result fits ∙ c.positive_sum.ensures in
    let n = c.n.ensures ∙ ap (λ (g : Graph). g.blocks) c.deref.ensures ∙ c.graph.ensures.blocks ∙ ap (λ (m : Instance). m.blocks) c.instance.ensures in
    let more = one_more c.from-blocks.result mine.blocks (c.from-blocks.ensures ∙ ap pos n) good.limits.few_blocks in
    let fits_weak : SFits w128 c.from.result = search rules in
    let weak = to_z-of_z w128 c.from.result fits_weak ∙ c.from.ensures ∙ c.weak_blocks.ensures.count in
    rw (sum, more, product_cast mine tree good c.law.ensures.normalised, weak) (rank_fits mine tree good c.law.ensures.normalised)

pub returns : goal.returns
returns c =
    let mine = c.args.self.now.mine in
    let tree = c.args.self.now.tree in
    let good = c.law.ensures.instance in
    let fits : SFits w128 c.positive_sum.result = search rules in
    let sum = to_z-of_z w128 c.positive_sum.result fits ∙ c.positive_sum.ensures in
    let n = c.n.ensures ∙ ap (λ (g : Graph). g.blocks) c.deref.ensures ∙ c.graph.ensures.blocks ∙ ap (λ (m : Instance). m.blocks) c.instance.ensures in
    let more = one_more c.from-blocks.result mine.blocks (c.from-blocks.ensures ∙ ap pos n) good.limits.few_blocks in
    let fits_weak : SFits w128 c.from.result = search rules in
    let weak = to_z-of_z w128 c.from.result fits_weak ∙ c.from.ensures ∙ c.weak_blocks.ensures.count in
    rw (sum, more, product_cast mine tree good c.law.ensures.normalised, weak) (rank_cast mine tree good c.law.ensures.normalised)
