-- A block that is not in yet is marked and queued.
use Rattle.std.proofs.Common.{◌≡◌, ◌∙◌, sym, refl, arith, false}
use Rattle.std.proofs.lemmas.List.{get_or_default}
use Rattle.mine_graph.specs.BreadthFirst.{is_visited}
use Rattle.mine_graph.proofs.Spreading.{room, takes_one}
use Rattle.mine_graph.proofs.breadth_first.BreadthFirst.visit.Goals as goal

pub index_mut-requires-then-not-index : goal.index_mut-requires-then-not-index
index_mut-requires-then-not-index c =
    let fresh : is_visited c.args.self.now c.args.block ≡ false = sym (c.index.ensures ∙ get_or_default c.args.self.now.marks.items c.args.block c.index.result.now false c.requires.below) ∙ c.if-not-index.true in
    omega (arith, room c.args.self.now c.args.block c.requires.below fresh c.requires.trail, c.args.self.now.queue.ok.0)

pub returns-then-not-index : goal.returns-then-not-index
returns-then-not-index c =
    let fresh : is_visited c.args.self.now c.args.block ≡ false = sym (c.index.ensures ∙ get_or_default c.args.self.now.marks.items c.args.block c.index.result.now false c.requires.below) ∙ c.if-not-index.true in
    takes_one c.args.self.now c.args.block c.requires.below fresh c.requires.trail _ refl refl refl
