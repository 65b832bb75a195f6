-- The walk cut after its last block, from the first visit of the repeated one on.
use Rattle.std.proofs.Common.{◌≡◌, ℕ, arith, length, drop, ◌∙◌}
use Rattle.std.proofs.lemmas.List.{take_at}
use Rattle.std.proofs.lemmas.Result.{IfOk-weaker}
use Rattle.csr.specs.View.{pairs_in}
use Rattle.mine_graph.proofs.Walking.{cycle_is, cut_walk}
use Rattle.mine_graph.proofs.cycle.cycle_of.Goals as goal

pub returns : goal.returns
returns c =
    let new = c.walk_round-visit.new.path in
    let size : length c.walk_round-visit.new.path ≡ c.in_ok-path.path.len = omega (arith, c.in_ok-path.ensures.len, c.deref_mut.ensures.len) in
    let back : c.deref.result.now ≡ c.walk_round-visit.new.path = c.deref.ensures.value ∙ take_at c.walk_round-visit.new.path (drop (length c.walk_round-visit.new.path) c.in_ok-path.path.items) c.in_ok-path.path.len size in
    let visit : ℕ = c.walk_round-visit.result.0 in
    let count : ℕ = c.walk_round-visit.result.1 in
    let l = c.walk_round-visit.ensures.visit in
    IfOk-weaker c.from_slice.result _ _
    (λ v e. cycle_is (pairs_in c.args.rows) c.args.left.now c.walk_round-visit.new.path visit count c.requires.largest c.walk_round-visit.ensures.walk l c.walk_round-visit.ensures.room
    c.walk_round-visit.ensures.repeats v.items (e ∙ cut_walk c.walk_round-visit.new.path c.deref.result.now visit count (omega arith) back))
    c.from_slice.ensures.items
