-- The rows of the text are added to no pairs.
use Rattle.std.proofs.Common.{◌≡◌, ◌∙◌, ◌++◌, [], ℕ, List, Ok, ap, subst, sym}
use Rattle.std.proofs.lemmas.List.{append-nil}
use Rattle.std.proofs.lemmas.Result.{err_from_is_err_and}
use Rattle.minelib_reader.specs.Answer.{FailsBy}
use Rattle.minelib_reader.specs.Marks.{AddsRows, with_pairs}
use Rattle.minelib_reader.specs.Prec.{pairs_from, prec_of}
use Rattle.minelib_reader.specs.Text.{rows_of}
use Rattle.minelib_reader.proofs.PrecGrammarLemmas.{spelled}
use Rattle.minelib_reader.proofs.PrecLimitLemmas.{lawful}
use Rattle.minelib_reader.proofs.PrecLineLemmas.{all_added, begin}
use Rattle.minelib_reader.proofs.prec.parse_lines.Goals as goal

pub returns-in_err-read_lines-clause-pairs : goal.returns-in_err-read_lines-clause-pairs
returns-in_err-read_lines-clause-pairs c =
    let p = err_from_is_err_and c.from_residual-in_err-read_lines.result c.from_residual-in_err-read_lines.ensures.1 in
    let e = c.in_err-read_lines.field-0.0 in
    let rows = rows_of c.args.text.now in
    let all : with_pairs c.in_ok-needs.needs.pairs (pairs_from c.args.n 0 0 (rows ++ [])) ≡ prec_of c.args.n c.args.text.now =
    ap (λ (ps : List (ℕ × ℕ)). with_pairs ps (pairs_from c.args.n 0 0 (rows ++ []))) c.in_ok-needs.ensures.pairs ∙ begin (pairs_from c.args.n 0 0 (rows ++ [])) ∙ ap (pairs_from c.args.n 0 0) (append-nil rows) in
    rw (p.1, p.2) (subst (FailsBy e.refusal e) all (c.in_err-read_lines.ensures.err []))

pub finish-requires-clause-below : goal.finish-requires-clause-below
finish-requires-clause-below c =
    let after = c.in_ok-read_lines.field-0 in
    let rows = rows_of c.args.text.now in
    let pairs = c.read_lines.new.needs.pairs in
    let is : prec_of c.args.n c.args.text.now ≡ Ok pairs = all_added c.args.n after.from after.total rows pairs
    (subst (λ (ps : List (ℕ × ℕ)). AddsRows c.args.n 0 0 rows ps pairs after.from after.total) c.in_ok-needs.ensures.pairs c.in_ok-read_lines.ensures.ok) in
    let known = lawful c.args.n rows pairs (spelled c.args.n 0 0 rows pairs is) in
    λ k l. (known.in_range k l).0

pub returns-clause-pairs : goal.returns-clause-pairs
returns-clause-pairs c =
    let after = c.in_ok-read_lines.field-0 in
    let rows = rows_of c.args.text.now in
    subst (λ (ps : List (ℕ × ℕ)). prec_of c.args.n c.args.text.now ≡ Ok ps) (sym c.in_ok-finish.ensures.pairs)
    (all_added c.args.n after.from after.total rows c.read_lines.new.needs.pairs
    (subst (λ (ps : List (ℕ × ℕ)). AddsRows c.args.n 0 0 rows ps c.read_lines.new.needs.pairs after.from after.total) c.in_ok-needs.ensures.pairs c.in_ok-read_lines.ensures.ok))
