-- Each way through the loop is one step of `pairs_from`, whatever rows come behind.
use Rattle.std.proofs.Common.{ap, ◌∙◌, ◌++◌, List, arith}
use Rattle.std.proofs.lemmas.Result.{err_from_is_err_and}
use Rattle.minelib_reader.specs.Marks.{with_pairs}
use Rattle.minelib_reader.specs.Text.{Row, row, rows_at, fields_of}
use Rattle.minelib_reader.specs.Prec.{needs_line, pairs_from}
use Rattle.minelib_reader.proofs.AnswerLemmas.{fails_map}
use Rattle.minelib_reader.proofs.PrecLineLemmas.{row_added, stop}
use Rattle.minelib_reader.proofs.prec.read_lines.Goals as goal

pub returns-in_err-after-clause-err : goal.returns-in_err-after-clause-err
returns-in_err-after-clause-err c =
    let p = err_from_is_err_and c.from_residual.result c.from_residual.ensures.1 in
    let e = c.in_err-after.field-0.0 in
    let n = c.args.n in
    let first = c.args.before in
    let b = c.loop-row.after in
    let s = c.loop-row.rows in
    let t = c.next_row.new.self in
    let r = row c.in-Some.row.line (fields_of c.in-Some.row.text.now) in
    rw (p.1, p.2) (λ behind.
    let all = with_pairs c.args.needs.now.pairs (pairs_from n first.from first.total (rows_at first.line c.args.text.now ++ behind)) in
    let are = ap (λ (rs : List Row). rs ++ behind) c.in-Some.ensures.row in
    fails_map e.refusal e (needs_line n b.from b.total r) all
    (λ h. stop e n b.from b.total (rows_at s.number s.rest.now ++ behind) (rows_at t.number t.rest.now ++ behind) r c.loop-row.needs.pairs all are h (c.loop-row.invariant.read behind)) c.in_err-after.ensures.err)

pub loop-row-preserved : goal.loop-row-preserved
loop-row-preserved c =
    let first = c.args.before in
    let b = c.loop-row.after in
    let after = c.in_ok-after.after in
    let s = c.loop-row.rows in
    let t = c.next_row.new.self in
    let r = row c.in-Some.row.line (fields_of c.in-Some.row.text.now) in
    record {
      read = row_added c.args.n first.from first.total b.from b.total after.from after.total (rows_at first.line c.args.text.now) (rows_at s.number s.rest.now) (rows_at t.number t.rest.now) r
          c.args.needs.now.pairs c.loop-row.needs.pairs c.read_line.new.needs.pairs c.in-Some.ensures.row c.in_ok-after.ensures.ok c.loop-row.invariant.read;
      counted = c.next_row.ensures.count ∙ c.loop-row.invariant.counted;
      short = let before = c.loop-row.invariant.short in let here = c.next_row.ensures.short in omega arith;
      so_far = c.in_ok-after.ensures.so_far;
      few = c.in_ok-after.ensures.few;
      sizes = c.in_ok-after.ensures.sizes;
      marks = c.in_ok-after.ensures.new_marks;
    }
