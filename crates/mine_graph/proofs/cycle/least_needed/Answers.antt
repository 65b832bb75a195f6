-- In rising pairs the first block that is left over is the least; one is found, since the block is needy.
use Rattle.std.proofs.Common.{◌≡◌, ap, arith, get_or, subst, sym, ◌∙◌, ⊎_elim}
use Rattle.std.proofs.lemmas.Bool.{cases_eq}
use Rattle.pit_model.specs.Graph.{second_of}
use Rattle.pit_model.specs.Cycle.{IsLeastNeeded}
use Rattle.csr.proofs.Begun.{csr_offsets}
use Rattle.csr.specs.View.{pairs_in}
use Rattle.csr.specs.Left.{left_over}
use Rattle.csr.proofs.Spelled.{length-pairs_of, second_at}
use Rattle.mine_graph.proofs.Walking.{least_found, none_missed}
use Rattle.mine_graph.proofs.cycle.least_needed.Goals as goal

pub returns-then-left-needed-ne0 : goal.returns-then-left-needed-ne0
returns-then-left-needed-ne0 c =
    let pairs = pairs_in c.args.rows in
    let long = length-pairs_of c.args.rows.offsets.now c.args.rows.targets.now in
    let rises = (csr_offsets c.args.rows.offsets.now c.args.rows.targets.now _ c.requires.rows).rises c.args.block c.requires.below in
    let second = second_at c.args.rows.offsets.now c.args.rows.targets.now c.loop-k.k (omega arith) in
    subst (IsLeastNeeded pairs (left_over c.args.left.now) c.args.block) second
    (least_found pairs c.args.rows.offsets.now c.args.left.now c.args.block c.loop-k.k c.requires.rising (csr_offsets c.args.rows.offsets.now c.args.rows.targets.now _ c.requires.rows) c.requires.below
    (omega arith) c.loop-k.invariant c.loop-k-test.true (subst (λ p. get_or c.args.left.now p 0 ≡ 0 → ⊥) (sym second) c.if-left-needed-ne0.true))

pub returns : goal.returns
returns c = absurd (none_missed (pairs_in c.args.rows) c.args.rows.offsets.now c.args.left.now c.args.block c.loop-k.k c.requires.rising (csr_offsets c.args.rows.offsets.now c.args.rows.targets.now _ c.requires.rows) c.requires.below
    (let r = (csr_offsets c.args.rows.offsets.now c.args.rows.targets.now _ c.requires.rows).rises c.args.block c.requires.below in omega arith) c.loop-k.invariant (omega arith) c.requires.needy)

pub bounds-rows-k : goal.bounds-rows-k
bounds-rows-k c =
    let rises = (csr_offsets c.args.rows.offsets.now c.args.rows.targets.now _ c.requires.rows).rises c.args.block c.requires.below in
    let long = length-pairs_of c.args.rows.offsets.now c.args.rows.targets.now in
    omega arith

pub bounds-left-needed : goal.bounds-left-needed
bounds-left-needed c =
    let rises = (csr_offsets c.args.rows.offsets.now c.args.rows.targets.now _ c.requires.rows).rises c.args.block c.requires.below in
    let long = length-pairs_of c.args.rows.offsets.now c.args.rows.targets.now in
    let second = second_at c.args.rows.offsets.now c.args.rows.targets.now c.loop-k.k (omega arith) in
    let range = c.requires.range c.loop-k.k (omega arith) in
    omega arith

pub loop-k-preserved : goal.loop-k-preserved
loop-k-preserved c x from to =
    let rises = (csr_offsets c.args.rows.offsets.now c.args.rows.targets.now _ c.requires.rows).rises c.args.block c.requires.below in
    let long = length-pairs_of c.args.rows.offsets.now c.args.rows.targets.now in
    let second = second_at c.args.rows.offsets.now c.args.rows.targets.now c.loop-k.k (omega arith) in
    ⊎_elim
    (λ (e : x ≡ c.loop-k.k). ap (λ k. get_or c.args.left.now (second_of (pairs_in c.args.rows) k) 0) e ∙ ap (λ p. get_or c.args.left.now p 0) second ∙ (let none = c.if-left-needed-ne0.false in omega arith))
    (λ (ne : x ≡ c.loop-k.k → ⊥). c.loop-k.invariant x from (omega arith))
    (cases_eq x c.loop-k.k)
