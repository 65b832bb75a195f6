-- Each arc is added to the row that it lies in.
use Rattle.std.proofs.Common.{◌≡◌, ℕ, ◌+◌, ◌<◌, List, [], ◌∷◌, ◌++◌, get_or, length, take, ap, arith, subst, sym, ◌∙◌}
use Rattle.std.proofs.lemmas.List.{length-take, take_all, take_more}
use Rattle.std.proofs.lemmas.Result.{IfOk-weaker}
use Rattle.pit_model.specs.Graph.{first_of}
use Rattle.csr.specs.View.{pairs_in}
use Rattle.csr.proofs.Begun.{csr_offsets, csr_rise, csr_row}
use Rattle.csr.proofs.Spelled.{length-pairs_of, pair_same, pairs_of-at, second_at}
use Rattle.csr.proofs.shared.SharedRows.from_view.Goals as goal

pub open_row-requires-clause-few : goal.open_row-requires-clause-few
open_row-requires-clause-few c =
    let rows = c.args.rows in
    let long = length-pairs_of rows.offsets.now rows.targets.now in
    let count = ap (λ (q : List (ℕ × ℕ)). length q) c.loop-u.invariant.pairs in
    omega (arith, length-take (get_or rows.offsets.now c.loop-u.u 0) (pairs_in rows), c.requires.few)

pub bounds-rows-k : goal.bounds-rows-k
bounds-rows-k c =
    let rows = c.args.rows in
    let last = c.requires.rows.last in
    let rise = csr_rise rows.offsets.now c.args.n (length rows.targets.now) c.requires.rows (c.loop-u.u + 1) c.args.n (omega arith) (omega arith) in
    omega arith

pub loop-k-preserved : goal.loop-k-preserved
loop-k-preserved c =
    let rows = c.args.rows in
    let u = c.loop-u.u in
    let k = c.loop-k.k in
    let last = c.requires.rows.last in
    let rise = csr_rise rows.offsets.now c.args.n (length rows.targets.now) c.requires.rows (u + 1) c.args.n (omega arith) (omega arith) in
    let here : k < length rows.targets.now = omega arith in
    let long = length-pairs_of rows.offsets.now rows.targets.now in
    let row : first_of (pairs_in rows) k ≡ u = (csr_offsets rows.offsets.now rows.targets.now c.args.n c.requires.rows).owns u k (omega arith) (omega arith) (omega arith) in
    let next : get_or (pairs_in rows) k (0, 0) ≡ (u, get_or rows.targets.now k 0) = pair_same (get_or (pairs_in rows) k (0, 0)) (u, get_or rows.targets.now k 0) row (second_at rows.offsets.now rows.targets.now k here) in
    record {
      pairs = c.in_ok-push.ensures.added
          ∙ ap (λ v. c.loop-k.shared.pairs ++ (v, get_or rows.targets.now k 0) ∷ []) c.loop-k.invariant.row
          ∙ ap (λ q. q ++ (u, get_or rows.targets.now k 0) ∷ []) c.loop-k.invariant.pairs
          ∙ ap (λ x. take k (pairs_in rows) ++ x ∷ []) (sym next)
          ∙ sym (take_more (pairs_in rows) k (0, 0) (omega arith));
      row = c.in_ok-push.ensures.row ∙ c.loop-k.invariant.row;
    }

pub finish-requires-clause-below : goal.finish-requires-clause-below
finish-requires-clause-below c =
    let rows = c.args.rows in
    let long = length-pairs_of rows.offsets.now rows.targets.now in
    let e : c.loop-u.u ≡ c.args.n = omega (arith, c.loop-u-test.false) in
    let all : get_or rows.offsets.now c.loop-u.u 0 ≡ length rows.targets.now = ap (λ u. get_or rows.offsets.now u 0) e ∙ c.requires.rows.last in
    let whole : c.loop-u.shared.pairs ≡ pairs_in rows = c.loop-u.invariant.pairs ∙ take_all (get_or rows.offsets.now c.loop-u.u 0) (pairs_in rows) (omega arith) in
    subst (λ q. (k : ℕ) → k < length q → first_of q k < c.args.n) (sym whole)
    (λ k l.
    let row = csr_row rows.offsets.now c.args.n (length rows.targets.now) c.requires.rows k (omega arith) in
    let is = ap (λ (q : ℕ × ℕ). q.0) (pairs_of-at rows.offsets.now rows.targets.now k (omega arith)) in
    omega arith)

pub returns-clause-pairs : goal.returns-clause-pairs
returns-clause-pairs c =
    let rows = c.args.rows in
    let long = length-pairs_of rows.offsets.now rows.targets.now in
    let e : c.loop-u.u ≡ c.args.n = omega (arith, c.loop-u-test.false) in
    let all : get_or rows.offsets.now c.loop-u.u 0 ≡ length rows.targets.now = ap (λ u. get_or rows.offsets.now u 0) e ∙ c.requires.rows.last in
    let whole : c.loop-u.shared.pairs ≡ pairs_in rows = c.loop-u.invariant.pairs ∙ take_all (get_or rows.offsets.now c.loop-u.u 0) (pairs_in rows) (omega arith) in
    IfOk-weaker c.finish.result _ _ (λ r same. same ∙ whole) c.finish.ensures.pairs
