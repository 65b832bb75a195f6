-- At first nothing is taken, and all blocks are left.
use Rattle.std.proofs.Common.{◌≡◌, ◌∙◌, false, replicate, rules, ap}
use Rattle.std.specs.List.{range_with_len}
use Rattle.nesting.proofs.Joining.{starts}
use Rattle.nesting.proofs.growing.start.Goals as goal

pub returns : goal.returns
returns c direction prices factors =
    let graph = c.args.graph.now.value in
    let marks : c.in_ok-marks.marks.items ≡ replicate graph.blocks false = search rules in
    let count : c.n-n.result ≡ graph.blocks = search rules in
    starts direction prices factors graph c.in_ok-graph.graph.value c.in_ok-marks.marks.items c.in_ok-blocks.blocks.items (rw c.deref.ensures at c.law.ensures.graph) marks (c.in_ok-blocks.ensures ∙ ap (range_with_len 0) count) c.in_ok-graph.ensures
