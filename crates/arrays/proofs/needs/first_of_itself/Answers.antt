-- Each row ends within the places, and a place lies in one row: the first of its own block in its row is the first of all.
use Rattle.std.proofs.Common.{ℕ, ◌+◌, ◌<◌, ◌≤◌, arith, get_or, length, subst, sym, ⊎_elim}
use Rattle.std.proofs.lemmas.Bool.{cases_lt}
use Rattle.arrays.specs.Encoded.{IsInRow}
use Rattle.arrays.proofs.Encoding.{ends_within, one_row}
use Rattle.arrays.proofs.needs.first_of_itself.Goals as goal

pub own_place-requires-clause-inside : goal.own_place-requires-clause-inside
own_place-requires-clause-inside c = ends_within c.args.blocks (length c.args.rows.targets.now) c.args.rows.offsets.now c.requires.rows (c.loop-block.block + 1) (omega arith)

pub returns-in-Some : goal.returns-in-Some
returns-in-Some c =
    let starts = c.args.rows.offsets.now in
    let needs = c.args.rows.targets.now in
    let block : ℕ = c.loop-block.block in
    let some = c.in-Some.ensures.some in (
      subst (λ u. IsInRow starts u c.in-Some.place) (sym some.1) some.0,
      λ k less row. ⊎_elim
          (λ (before : k < get_or starts block 0). c.loop-block.invariant k before row)
          (λ (from : get_or starts block 0 ≤ k).
          let high : k < get_or starts (block + 1) 0 = let end = some.0.1 in omega arith in
          let here : IsInRow starts block k = (from, high) in
          c.in-Some.ensures.first k here less (one_row c.args.blocks (length needs) starts c.requires.rows (get_or needs k 0) block k row here))
          (cases_lt k (get_or starts block 0)),
    )

pub loop-block-preserved : goal.loop-block-preserved
loop-block-preserved c k low row =
    let starts = c.args.rows.offsets.now in
    let needs = c.args.rows.targets.now in
    let block : ℕ = c.loop-block.block in
    ⊎_elim
    (λ (before : k < get_or starts block 0). c.loop-block.invariant k before row)
    (λ (from : get_or starts block 0 ≤ k).
    let here : IsInRow starts block k = (from, low) in
    c.in_default.ensures.none k here (one_row c.args.blocks (length needs) starts c.requires.rows (get_or needs k 0) block k row here))
    (cases_lt k (get_or starts block 0))
