-- The blocks that rise, and behind them those that were marked; as many pairs are added as fields name blocks.
use Rattle.std.proofs.Common.{ℕ, List, [], arith, length, subst, sym, ◌∙◌, ap, ◌<◌}
use Rattle.std.specs.List.{All}
use Rattle.std.proofs.lemmas.Result.{err_from_is_err_and}
use Rattle.minelib_reader.specs.Marks.{AddsFirst, AreMarked}
use Rattle.minelib_reader.specs.Prec.{needs_from}
use Rattle.minelib_reader.specs.Text.{fields_of}
use Rattle.minelib_reader.proofs.AnswerLemmas.{fails_map}
use Rattle.minelib_reader.proofs.PrecLemmas.{both_added, first_alone, first_stops, named_last, named_own}
use Rattle.minelib_reader.proofs.PrecLineLemmas.{named}
use Rattle.minelib_reader.proofs.prec.read_needs.Goals as goal
use Rattle.minelib_reader.proofs.prec.read_needs.Goals.{then-has_fields+in_ok-push_marked, else-has_fields}

pub mark_needs-requires-clause-below : goal.mark_needs-requires-clause-below
mark_needs-requires-clause-below c =
    let n = c.args.block.n in
    let id = c.args.block.id in
    let first = c.in_ok-rest.ensures.ok in
    let are = named_last id c.open_row.new.self.pairs first.seen c.push_rising.new.needs.pairs c.len-before.result c.targets_from.result.now c.len-before.ensures first.pairs c.targets_from.ensures in
    subst (All (λ p. p < n)) (sym are) first.below

pub targets_from-requires-clause-own : goal.targets_from-requires-clause-own
targets_from-requires-clause-own c k from to =
    let first = c.in_ok-rest.ensures.ok in
    named_own c.args.block.id c.open_row.new.self.pairs first.seen c.push_rising.new.needs.pairs c.len-before.result c.len-before.ensures first.pairs k from to
    ∙ sym c.push_rising.ensures.row

pub returns-in_err-push_marked-clause-err : goal.returns-in_err-push_marked-clause-err
returns-in_err-push_marked-clause-err c =
    let n = c.args.block.n in
    let id = c.args.block.id in
    let line = c.args.block.line in
    let first = c.in_ok-rest.ensures.ok in
    let e = c.in_err-push_marked.field-0.0 in
    let p = err_from_is_err_and c.from_residual-in_err-push_marked.result c.from_residual-in_err-push_marked.ensures.1 in
    let old = c.open_row.new.self.pairs in
    let are = named_last id old first.seen c.push_rising.new.needs.pairs c.len-before.result c.targets_from.result.now c.len-before.ensures first.pairs c.targets_from.ensures in
    let marked = subst (AreMarked n id c.mark_needs.new.marks.items) are c.mark_needs.ensures.marked in
    rw (p.1, p.2) (fails_map e.refusal e (needs_from n id line first.seen (fields_of c.in_ok-rest.rest.now)) (needs_from n id line [] (fields_of c.args.text.now))
    (λ h. first_stops n id line (fields_of c.args.text.now) (fields_of c.in_ok-rest.rest.now) old c.push_rising.new.needs.pairs e first h)
    (c.in_err-push_marked.ensures.err first.seen marked))

pub returns-clause-ok : goal.returns-clause-ok
returns-clause-ok c =
    let n = c.args.block.n in
    let id = c.args.block.id in
    let line = c.args.block.line in
    let fields = fields_of c.args.text.now in
    let left = fields_of c.in_ok-rest.rest.now in
    let old = c.args.needs.now.pairs in
    let between = c.push_rising.new.needs.pairs in
    let first = subst (λ (ps : List (ℕ × ℕ)). AddsFirst n id fields left ps between) c.open_row.ensures.pairs c.in_ok-rest.ensures.ok in
    elim c.if-has_fields.branch [
      | then-has_fields+in_ok-push_marked w ↦
          let are = named_last id old first.seen between c.len-before.result w.targets_from.result.now (c.len-before.ensures ∙ ap length c.open_row.ensures.pairs) first.pairs w.targets_from.ensures in
          let marked = subst (AreMarked n id w.mark_needs.new.marks.items) are w.mark_needs.ensures.marked in
          let behind = w.in_ok-push_marked.ensures.ok first.seen marked in
          rw w.needs-is (both_added n id line fields left old between w.push_marked.new.needs.pairs behind.0 first behind.1 behind.2)
      | else-has_fields w ↦ rw w.needs-is (first_alone n id line fields old between (subst (λ (fs : List (List ℕ)). AddsFirst n id fields fs old between) w.if-has_fields.ensures first))
    ]

pub returns-clause-named : goal.returns-clause-named
returns-clause-named c =
    let ok = returns-clause-ok c in
    let many = named c.args.block.n c.args.block.id c.args.block.line [] (fields_of c.args.text.now) ok.0 c.args.needs.now.pairs c.if-has_fields.needs.pairs ok.1 ok.2 in
    let before = ap length c.open_row.ensures.pairs in
    omega (arith, many, c.len.ensures, c.len-before.ensures)
