-- Each way through the loop is one step of `blocks_from`.
use Rattle.std.proofs.Common.{◌≡◌, ◌<◌, ℕ, List, [], ◌∷◌, ◌++◌, length, ap, subst, sym, ◌∙◌, arith, rules, length-append}
use Rattle.std.proofs.lemmas.Result.{err_from_is_err_and}
use Rattle.pit_model.specs.Size.{most_blocks}
use Rattle.minelib_reader.specs.Table.{Place, Table, IsWhole}
use Rattle.minelib_reader.specs.Text.{row, rows_at, rows_of, fields_of}
use Rattle.minelib_reader.specs.Added.{AddsBlock}
use Rattle.minelib_reader.specs.Blocks.{block_line, blocks_from, as_table}
use Rattle.minelib_reader.proofs.CheckLemmas.{passing}
use Rattle.minelib_reader.proofs.AnswerLemmas.{fails_map}
use Rattle.minelib_reader.proofs.BlocksLineLemmas.{with_blocks, go_on, stop, end, stays_whole}
use Rattle.minelib_reader.proofs.blocks.read_lines.Goals as goal

pub returns-in_err-place : goal.returns-in_err-place
returns-in_err-place c =
    let p = err_from_is_err_and c.from_residual.result c.from_residual.ensures.1 in
    let e = c.in_err-place.field-0.0 in
    let s = c.loop-row.rows in
    let t = c.next_row.new.self in
    let places = c.loop-row.places.items in
    let old = c.loop-row.attributes.items in
    let rows = rows_at s.number s.rest.now in
    let r = row c.in-Some.row.line (fields_of c.in-Some.row.text.now) in
    let all = blocks_from c.args.width 0 (rows_of c.args.text.now) in
    let len : c.len.result ≡ length places = search rules in
    let read = subst (λ (k : ℕ). with_blocks places old (blocks_from c.args.width k rows) ≡ all) (sym len) c.loop-row.invariant.read in
    rw (p.1, p.2) (fails_map e.refusal e (block_line c.args.width c.len.result r) (as_table c.args.width all)
    (λ h. ap (as_table c.args.width) (stop e c.args.width c.len.result rows (rows_at t.number t.rest.now) r places old all c.in-Some.ensures.row h read)) c.in_err-place.ensures.err)

pub loop-row-preserved : goal.loop-row-preserved
loop-row-preserved c =
    let s = c.loop-row.rows in
    let t = c.next_row.new.self in
    let places = c.loop-row.places.items in
    let place = c.in_ok-place.place in
    let old = c.loop-row.attributes.items in
    let new = c.read_block.new.attributes.items in
    let rows = rows_at s.number s.rest.now in
    let r = row c.in-Some.row.line (fields_of c.in-Some.row.text.now) in
    let len : c.len.result ≡ length places = search rules in
    let known = c.in_ok-place.ensures.known in
    let below : length places < most_blocks = omega (arith, known, len) in
    let adds : AddsBlock c.args.width (length places) r place old new = subst (λ (k : ℕ). AddsBlock c.args.width k r place old new) len c.in_ok-place.ensures.ok in
    let all = blocks_from c.args.width 0 (rows_of c.args.text.now) in
    let items : c.push.new.self.items ≡ places ++ place ∷ [] = c.in_ok-push.ensures.items in
    let rest = rows_at t.number t.rest.now in
    let read = go_on c.args.width (length places) (length (places ++ place ∷ [])) rows rest r places place old new all c.in-Some.ensures.row (length-append places (place ∷ [])) adds c.loop-row.invariant.read in
    record {
      read = subst (λ (ps : List Place). with_blocks ps new (blocks_from c.args.width (length ps) rest) ≡ all) (sym items) read;
      whole = subst (λ (ps : List Place). IsWhole c.args.width ps new) (sym items) (stays_whole c.args.width r places place old new c.loop-row.invariant.whole below adds c.in_ok-place.ensures.small);
    }

pub returns : goal.returns
returns c =
    let s = c.loop-row.rows in
    ap (as_table c.args.width) (end c.args.width (length c.loop-row.places.items) (rows_at s.number s.rest.now) c.loop-row.places.items c.loop-row.attributes.items (blocks_from c.args.width 0 (rows_of c.args.text.now)) c.in_default.ensures.row c.loop-row.invariant.read)
    ∙ ap (λ (t : Table). passing t) (sym c.of_blocks.ensures)
