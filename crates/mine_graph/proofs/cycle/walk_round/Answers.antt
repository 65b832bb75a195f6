-- A new block makes the walk longer, which the number of blocks bounds; one that has a place closes the cycle.
use Rattle.std.proofs.Common.{◌+◌, ◌-◌, arith, get_or, subst, sym, ◌∙◌}
use Rattle.std.proofs.lemmas.List.{length-set}
use Rattle.pit_model.specs.Cycle.{IsLeastNeeded}
use Rattle.csr.specs.View.{pairs_in}
use Rattle.csr.specs.Left.{left_over}
use Rattle.mine_graph.proofs.Walking.{over_below, walk_one, members, more_room, walk_more, repeated}
use Rattle.mine_graph.proofs.cycle.walk_round.Goals as goal

pub loop-count-init : goal.loop-count-init
loop-count-init c =
    let below = over_below c.args.left.now c.args.first c.requires.first.member in
    let one = walk_one (pairs_in c.args.rows) c.args.left.now c.args.path.now c.args.places.now c.requires.path c.requires.places c.args.first c.requires.first c.requires.none in
    record {
      walk = one.0;
      at = one.1;
      room = omega (arith, length-set c.args.path.now 0 c.args.first);
      path_size = length-set c.args.path.now 0 c.args.first ∙ c.requires.path;
      places_size = length-set c.args.places.now c.args.first 1 ∙ c.requires.places;
    }

pub least_needed-next-requires-clause-below : goal.least_needed-next-requires-clause-below
least_needed-next-requires-clause-below c =
    let some = c.loop-count.invariant.walk.some in
    over_below c.args.left.now (get_or c.loop-count.path (c.loop-count.count - 1) 0)
    (members (pairs_in c.args.rows) (left_over c.args.left.now) c.loop-count.path c.loop-count.count c.loop-count.invariant.walk (c.loop-count.count - 1) (omega arith))

pub least_needed-next-requires-clause-needy : goal.least_needed-next-requires-clause-needy
least_needed-next-requires-clause-needy c =
    let some = c.loop-count.invariant.walk.some in
    (c.requires.needy (get_or c.loop-count.path (c.loop-count.count - 1) 0)
    (members (pairs_in c.args.rows) (left_over c.args.left.now) c.loop-count.path c.loop-count.count c.loop-count.invariant.walk (c.loop-count.count - 1) (omega arith))).1

pub returns-then-places-next-ne0-clause-visit : goal.returns-then-places-next-ne0-clause-visit
returns-then-places-next-ne0-clause-visit c =
    let r = repeated (pairs_in c.args.rows) c.args.left.now c.loop-count.path c.loop-count.places c.loop-count.invariant.path_size c.loop-count.invariant.places_size c.loop-count.count c.least_needed-next.result c.loop-count.invariant.walk c.loop-count.invariant.at c.loop-count.invariant.room
    c.least_needed-next.ensures c.if-places-next-ne0.true in
    let l = r.0 in
    omega arith

pub returns-then-places-next-ne0-clause-repeats : goal.returns-then-places-next-ne0-clause-repeats
returns-then-places-next-ne0-clause-repeats c =
    let r = repeated (pairs_in c.args.rows) c.args.left.now c.loop-count.path c.loop-count.places c.loop-count.invariant.path_size c.loop-count.invariant.places_size c.loop-count.count c.least_needed-next.result c.loop-count.invariant.walk c.loop-count.invariant.at c.loop-count.invariant.room
    c.least_needed-next.ensures c.if-places-next-ne0.true in
    subst (IsLeastNeeded (pairs_in c.args.rows) (left_over c.args.left.now) (get_or c.loop-count.path (c.loop-count.count - 1) 0)) (sym r.1) c.least_needed-next.ensures

pub bounds-path-count-in-loop-count : goal.bounds-path-count-in-loop-count
bounds-path-count-in-loop-count c =
    more_room (pairs_in c.args.rows) c.args.left.now c.loop-count.path c.loop-count.places c.loop-count.invariant.path_size c.loop-count.invariant.places_size c.loop-count.count c.least_needed-next.result c.loop-count.invariant.walk c.loop-count.invariant.at c.loop-count.invariant.room
    c.least_needed-next.ensures c.if-places-next-ne0.false

pub loop-count-preserved : goal.loop-count-preserved
loop-count-preserved c =
    let fits = more_room (pairs_in c.args.rows) c.args.left.now c.loop-count.path c.loop-count.places c.loop-count.invariant.path_size c.loop-count.invariant.places_size c.loop-count.count c.least_needed-next.result c.loop-count.invariant.walk c.loop-count.invariant.at c.loop-count.invariant.room
    c.least_needed-next.ensures c.if-places-next-ne0.false in
    let more = walk_more (pairs_in c.args.rows) c.args.left.now c.loop-count.path c.loop-count.places c.loop-count.invariant.path_size c.loop-count.invariant.places_size c.loop-count.count c.least_needed-next.result c.loop-count.invariant.walk c.loop-count.invariant.at c.loop-count.invariant.room
    c.least_needed-next.ensures c.if-places-next-ne0.false in
    record {
      walk = more.0;
      at = more.1;
      room = omega (arith, length-set c.loop-count.path c.loop-count.count c.least_needed-next.result);
      path_size = length-set c.loop-count.path c.loop-count.count c.least_needed-next.result ∙ c.loop-count.invariant.path_size;
      places_size = length-set c.loop-count.places c.least_needed-next.result (c.loop-count.count + 1) ∙ c.loop-count.invariant.places_size;
    }
