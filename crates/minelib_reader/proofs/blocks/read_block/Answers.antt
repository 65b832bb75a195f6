-- A line is its front and then its attributes.
use Rattle.std.proofs.lemmas.Result.{err_from_is_err_and}
use Rattle.minelib_reader.specs.Text.{row, fields_of}
use Rattle.minelib_reader.specs.Blocks.{attributes_of, front_of, block_line}
use Rattle.minelib_reader.proofs.AnswerLemmas.{fails_map}
use Rattle.minelib_reader.proofs.BlocksLineLemmas.{front_stops, attributes_stop, block_added}
use Rattle.minelib_reader.proofs.blocks.read_block.Goals as goal

pub returns-in_err-front-clause-err : goal.returns-in_err-front-clause-err
returns-in_err-front-clause-err c =
    let p = err_from_is_err_and c.from_residual.result c.from_residual.ensures.1 in
    let e = c.in_err-front.field-0.0 in
    let r = row c.args.r.line (fields_of c.args.r.text.now) in
    rw (p.1, p.2) (fails_map e.refusal e (front_of c.args.width c.args.id r) (block_line c.args.width c.args.id r) (front_stops e c.args.width c.args.id r) c.in_err-front.ensures.gives)

pub returns-in_err-read_attributes-clause-err : goal.returns-in_err-read_attributes-clause-err
returns-in_err-read_attributes-clause-err c =
    let p = err_from_is_err_and c.from_residual-in_err-read_attributes.result c.from_residual-in_err-read_attributes.ensures.1 in
    let e = c.in_err-read_attributes.field-0.0 in
    let f = c.in_ok-front.front in
    let r = row c.args.r.line (fields_of c.args.r.text.now) in
    rw (p.1, p.2) (fails_map e.refusal e (attributes_of c.args.r.line (fields_of f.rest.now)) (block_line c.args.width c.args.id r)
    (attributes_stop e c.args.width c.args.id r (f.place, fields_of f.rest.now) c.in_ok-front.ensures.gives) c.in_err-read_attributes.ensures.err)

pub returns-clause-ok : goal.returns-clause-ok
returns-clause-ok c =
    let f = c.in_ok-front.front in
    let done = c.in_ok-read_attributes.ensures.ok in
    block_added c.args.width c.args.id (row c.args.r.line (fields_of c.args.r.text.now)) (f.place, fields_of f.rest.now) done.0 _ _ c.in_ok-front.ensures.gives done.1 c.in_ok-front.ensures.wide done.2
