-- Row by row, and at the end all pairs are named.
use Rattle.std.proofs.Common.{◌≡◌, ℕ, ◌<◌, get_or, length, ap, arith, subst, sym}
use Rattle.pit_model.specs.Graph.{AreInRange}
use Rattle.csr.specs.View.{pairs_in}
use Rattle.csr.specs.Rows.{IsCsr}
use Rattle.csr.proofs.Spelled.{length-pairs_of}
use Rattle.arrays.proofs.Encoding.{rows_in_range}
use Rattle.arrays.proofs.needs.first_repeated.Goals as goal

pub repeated_place-requires-clause-in_range : goal.repeated_place-requires-clause-in_range
repeated_place-requires-clause-in_range c =
    let rows = c.args.rows in
    let size : c.args.blocks ≡ length c.deref_mut.result.now = omega (arith, c.deref_mut.ensures.len, c.loop-block.invariant.size) in
    subst (AreInRange (pairs_in rows)) size (rows_in_range c.args.blocks rows.offsets.now rows.targets.now c.requires.rows c.requires.below)

pub repeated_place-requires-clause-rows : goal.repeated_place-requires-clause-rows
repeated_place-requires-clause-rows c =
    let rows = c.args.rows in
    let size : c.args.blocks ≡ length c.deref_mut.result.now = omega (arith, c.deref_mut.ensures.len, c.loop-block.invariant.size) in
    subst (λ n. IsCsr n (length rows.targets.now) rows.offsets.now) size c.requires.rows

pub returns-clause-none : goal.returns-clause-none
returns-clause-none c k l less inside =
    let rows = c.args.rows in
    let long = length-pairs_of rows.offsets.now rows.targets.now in
    let last = c.requires.rows.last in
    let end : c.loop-block.block ≡ c.args.blocks = omega arith in
    let at = ap (λ u. get_or rows.offsets.now u 0) end in
    c.loop-block.invariant.named.apart k l less (omega arith)
