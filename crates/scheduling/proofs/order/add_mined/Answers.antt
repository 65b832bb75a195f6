-- The first block of which more than the whole is mined.
use Rattle.std.proofs.Common.{◌≡◌, ℕ, suc, ◌+◌, ◌<◌, ◌≤◌, get_or, ap, ◌∙◌, arith}
use Rattle.std.specs.Prelude.{ℤ, pos, ◌+ℤ◌, ◌≤ℤ◌}
use Rattle.std.proofs.lemmas.Int.{ints}
use Rattle.schedule_model.specs.Schedule.{mined_in_first}
use Rattle.scheduling.specs.Order.{IsMinedOnceBy}
use Rattle.scheduling.proofs.order.add_mined.Goals as goal

too_much : (x y : ℕ) (before now : ℤ) → pos x ≡ before → pos y ≡ now → 1000000 < x + y → (before +ℤ now) ≤ℤ pos 1000000 → ⊥
too_much x y before now is too more once = omega (arith, ints)

pub returns-then-sum-gt-WHOLE-clause-twice : goal.returns-then-sum-gt-WHOLE-clause-twice
returns-then-sum-gt-WHOLE-clause-twice c =
    let problem = c.args.problem.now in
    let shares = c.args.shares.now in
    let period = c.args.period in
    let block = c.loop-block.block in
    let invariant = c.loop-block.invariant in
    let inside : block < problem.blocks = omega arith in
    let before : pos (get_or c.loop-block.by_now block 0) ≡ mined_in_first problem shares block period =
    ap (λ n. pos n) (invariant.left block (omega arith)) ∙ c.requires.before.each block inside in
    let next : period + 1 ≡ suc period = omega arith in (
      inside,
      record {
        broken = too_much (get_or c.loop-block.by_now block 0) c.mined.result _ _ before c.mined.ensures.mined (omega arith);
        before = λ b h.
            let e : pos (get_or c.loop-block.by_now b 0) ≡ mined_in_first problem shares b (suc period) = invariant.added b h ∙ ap (λ n. mined_in_first problem shares b n) next in
            let most = invariant.most b h in
            let once : IsMinedOnceBy problem shares period b = omega (arith, ints) in
            once;
      },
    )
