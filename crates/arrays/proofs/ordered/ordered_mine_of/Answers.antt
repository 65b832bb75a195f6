-- The pairs of rows that rise stand in the order of the graph's.
use Rattle.std.proofs.Common.{◌+◌, arith, length}
use Rattle.arrays.proofs.Certifying.{in_order}
use Rattle.arrays.proofs.Encoding.{ends_within}
use Rattle.arrays.proofs.ordered.ordered_mine_of.Goals as goal

pub rows_rise-requires : goal.rows_rise-requires
rows_rise-requires c v h =
    let rows = c.args.rows.now in
    let are = c.in_ok-mine.ensures.encoded.encoded.rows in
    let size = are.count in
    ends_within c.in_ok-mine.mine.blocks (length rows.targets.now) rows.offsets.now are (v + 1) (omega arith)

pub returns-clause-encoded : goal.returns-clause-encoded
returns-clause-encoded c =
    let rows = c.args.rows.now in
    in_order c.args.values.now rows.offsets.now rows.targets.now c.in_ok-mine.mine c.law.ensures.graph (c.rows_rise.ensures.0 c.if-not-rows_rise.false) c.in_ok-mine.ensures.encoded
