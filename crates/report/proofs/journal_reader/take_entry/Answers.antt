-- Each way out is one of the steps.
use Rattle.std.proofs.Common.{◌≡◌, List, ◌-◌, suc, Ok, arith, ap, sym, ◌∙◌}
use Rattle.std.proofs.lemmas.Result.{err_from_is_err_and}
use Rattle.minelib_reader.specs.Text.{row, fields_of}
use Rattle.minelib_reader.proofs.AnswerLemmas.{fails_map}
use Rattle.pit_model.specs.declared.journal.Entry.{Entry}
use Rattle.report.specs.declared.due.JournalLine.TheVariants.{Entries}
use Rattle.report.specs.JournalLines.{decision_line, entry_step, journal_state}
use Rattle.report.proofs.JournalRead.{no_entry, next_entry, next_entry_fails}
use Rattle.report.proofs.journal_reader.take_entry.Goals as goal

pub returns-then-left-eq0-clause-err : goal.returns-then-left-eq0-clause-err
returns-then-left-eq0-clause-err c =
    let r = row c.args.r.line (fields_of c.args.r.text.now) in
    rw c.in_journal.ensures (no_entry c.args.graph.now c.args.budget r c.args.left c.args.entries.now.items c.if-left-eq0.true)

pub returns-in_err-entry-clause-err : goal.returns-in_err-entry-clause-err
returns-in_err-entry-clause-err c =
    let p = err_from_is_err_and c.from_residual.result c.from_residual.ensures.1 in
    let e = c.in_err-entry.field-0.0 in
    let r = row c.args.r.line (fields_of c.args.r.text.now) in
    let more : c.args.left ≡ suc (c.args.left - 1) = omega (arith, c.if-left-eq0.false) in
    rw (p.1, p.2) (fails_map e.refusal e (decision_line c.arcs.result r) (entry_step c.args.graph.now c.args.budget c.args.left c.args.entries.now.items r)
    (λ h. next_entry_fails c.args.graph.now c.args.budget r e c.args.left (c.args.left - 1) c.arcs.result c.args.entries.now.items more c.arcs.ensures h) c.in_err-entry.ensures.gives)

pub returns-clause-ok : goal.returns-clause-ok
returns-clause-ok c =
    let r = row c.args.r.line (fields_of c.args.r.text.now) in
    let more : c.args.left ≡ suc (c.args.left - 1) = omega (arith, c.if-left-eq0.false) in
    next_entry c.args.graph.now c.args.budget r c.args.left (c.args.left - 1) c.arcs.result c.in_ok-entry.entry c.args.entries.now.items more c.arcs.ensures c.in_ok-entry.ensures.gives
    ∙ ap (λ (es : List Entry). Ok (journal_state (Entries c.args.budget (c.args.left - 1)) es)) (sym c.in_ok-push.ensures.items)
