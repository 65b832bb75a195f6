-- Changed back, the labels are those of the index.
use Rattle.std.proofs.Common.{◌<◌, false, length, arith, ap, sym, ◌∙◌}
use Rattle.std.specs.Bool.{beq}
use Rattle.std.proofs.lemmas.List.{get_or_default}
use Rattle.norm_tree.proofs.Labelling.{label_back}
use Rattle.norm_tree.proofs.labels.Labels.set.Goals as goal

pub take_in-requires-clause-indexed : goal.take_in-requires-clause-indexed
take_in-requires-clause-indexed c =
    let strong = c.self.inside.strong.items in
    let same = ap (λ l. l.graph.blocks) c.self.view_is in
    let count = c.self.invariant.0 in
    let inside : c.args.block < length strong = omega (arith, c.requires) in
    let back = label_back strong c.args.block c.args.strong inside (ap (λ b. beq b c.args.strong) (sym (c.index.ensures ∙ get_or_default strong c.args.block c.index.result.now false inside)) ∙ c.if-index-strong.false) in
    let indexed = rw (c.in-Some.is) at c.self.invariant.1 in
    rw (c.deref.ensures, c.deref-in-Some.ensures.value, back) indexed
