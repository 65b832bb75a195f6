-- A line is its front and then its predecessors.
use Rattle.std.proofs.Common.{[], ◌≡◌, length, sym, arith}
use Rattle.std.proofs.lemmas.Result.{err_from_is_err_and}
use Rattle.minelib_reader.specs.Text.{row, fields_of}
use Rattle.minelib_reader.specs.Prec.{needs_from, front_of, needs_line}
use Rattle.minelib_reader.proofs.AnswerLemmas.{fails_map}
use Rattle.minelib_reader.proofs.PrecLineLemmas.{front_stops, needs_stop, line_added, named}
use Rattle.minelib_reader.proofs.prec.read_line.Goals as goal

pub returns-in_err-front-clause-err : goal.returns-in_err-front-clause-err
returns-in_err-front-clause-err c =
    let p = err_from_is_err_and c.from_residual.result c.from_residual.ensures.1 in
    let e = c.in_err-front.field-0.0 in
    let b = c.args.before in
    let r = row c.args.r.line (fields_of c.args.r.text.now) in
    rw (p.1, p.2) (fails_map e.refusal e (front_of c.args.n b.from b.total r) (needs_line c.args.n b.from b.total r) (front_stops e c.args.n b.from b.total r) c.in_err-front.ensures.err)

pub returns-then-named-front-clause-err : goal.returns-then-named-front-clause-err
returns-then-named-front-clause-err c =
    let b = c.args.before in
    let r = row c.args.r.line (fields_of c.args.r.text.now) in
    rw c.in_precedence.ensures (front_stops _ c.args.n b.from b.total r (c.in_ok-front.ensures.miscounted (λ same. omega (arith, c.in-Ok.ensures.named, c.if-named-front.true, same))))

pub returns-then-count_fields-front-clause-err : goal.returns-then-count_fields-front-clause-err
returns-then-count_fields-front-clause-err c =
    let b = c.args.before in
    let r = row c.args.r.line (fields_of c.args.r.text.now) in
    rw c.in_precedence-then-count_fields-front.ensures (front_stops _ c.args.n b.from b.total r (c.in_ok-front.ensures.miscounted (λ same. omega (arith, c.count_fields.ensures, c.if-count_fields-front.true, same))))

pub returns-else-count_fields-front-clause-err : goal.returns-else-count_fields-front-clause-err
returns-else-count_fields-front-clause-err c =
    let e = c.in-Err.fault in
    let b = c.args.before in
    let f = c.in_ok-front.front in
    let r = row c.args.r.line (fields_of c.args.r.text.now) in
    let same : length (fields_of f.rest.now) ≡ f.count = omega (arith, c.count_fields.ensures, c.if-count_fields-front.false) in
    fails_map e.refusal e (needs_from c.args.n f.id c.args.r.line [] (fields_of f.rest.now)) (needs_line c.args.n b.from b.total r)
    (needs_stop e c.args.n b.from b.total r (f.id, f.count, fields_of f.rest.now) (c.in_ok-front.ensures.counted same)) c.in-Err.ensures.err

pub returns-else-named-front-clause-ok : goal.returns-else-named-front-clause-ok
returns-else-named-front-clause-ok c =
    let b = c.args.before in
    let f = c.in_ok-front.front in
    let done = c.in-Ok.ensures.ok in
    let same : length (fields_of f.rest.now) ≡ f.count = omega (arith, c.in-Ok.ensures.named, c.if-named-front.false) in
    line_added c.args.n b.from b.total (row c.args.r.line (fields_of c.args.r.text.now)) (f.id, f.count, fields_of f.rest.now) done.0 _ _ (c.in_ok-front.ensures.counted same) done.1 (sym same) done.2

pub returns-else-named-front-clause-so_far : goal.returns-else-named-front-clause-so_far
returns-else-named-front-clause-so_far c =
    let f = c.in_ok-front.front in
    let done = c.in-Ok.ensures.ok in
    let so_far = c.requires.so_far in
    let same : length (fields_of f.rest.now) ≡ f.count = omega (arith, c.in-Ok.ensures.named, c.if-named-front.false) in
    let long = named c.args.n f.id c.args.r.line [] (fields_of f.rest.now) done.0 c.args.needs.now.pairs c.read_needs.new.needs.pairs done.1 done.2 in
    record {
      closed = omega (arith, c.in-Ok.ensures.row);
      known = omega (arith, c.in_ok-front.ensures.known);
      count = omega (arith, long, so_far.count);
    }
