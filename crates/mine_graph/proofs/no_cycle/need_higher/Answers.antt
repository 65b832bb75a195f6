-- Each arc lies in the row of its block.
use Rattle.std.proofs.Common.{◌≡◌, ◌+◌, ◌-◌, ap, arith, ⊎_elim}
use Rattle.std.proofs.lemmas.Bool.{cases_eq}
use Rattle.pit_model.specs.Graph.{first_of, second_of}
use Rattle.mine_graph.proofs.no_cycle.need_higher.Goals as goal

pub loop-u-preserved : goal.loop-u-preserved
loop-u-preserved c = λ k l below. ⊎_elim
    (λ (e : first_of c.args.rows.now.pairs k ≡ c.loop-u.u).
    let start = c.shared_row-row.result.start in
    let there = (c.shared_row-row.ensures.own k l).0 e in
    let from = there.0 in
    let to = there.1 in
    let back : start + (k - start) ≡ k = omega arith in
    let same = ap (second_of c.args.rows.now.pairs) back in
    let way = c.loop-i.invariant (k - start) (omega (arith, c.loop-i-test.false)) in
    omega arith)
    (λ (ne : first_of c.args.rows.now.pairs k ≡ c.loop-u.u → ⊥). c.loop-u.invariant k l (omega arith))
    (cases_eq (first_of c.args.rows.now.pairs k) c.loop-u.u)
