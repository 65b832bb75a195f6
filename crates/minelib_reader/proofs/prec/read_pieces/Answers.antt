-- Each piece is read behind those before it.
use Rattle.std.proofs.Common.{◌∙◌, ◌++◌, ◌≤◌, ℕ, List, Ok, ap, arith, subst, sym, rules}
use Rattle.std.specs.List.{All}
use Rattle.std.proofs.lemmas.List.Elements.{All-replicate}
use Rattle.minelib_reader.specs.Answer.{FailsBy}
use Rattle.minelib_reader.specs.Marks.{AddsRows, with_pairs}
use Rattle.minelib_reader.specs.Prec.{pairs_from}
use Rattle.minelib_reader.specs.Pieces.{IsPiece}
use Rattle.minelib_reader.specs.Text.{Row, lines_at, rows_at, rows_of}
use Rattle.minelib_reader.proofs.PrecGrammarLemmas.{spelled}
use Rattle.minelib_reader.proofs.PrecLimitLemmas.{lawful}
use Rattle.minelib_reader.proofs.PrecPieceLemmas.{goes_on, keeps_on, ends, read_to_end, faulty_end, faulty_piece, no_room}
use Rattle.minelib_reader.proofs.prec.read_pieces.Goals as goal
use Rattle.minelib_reader.proofs.prec.read_pieces.Goals.{then-not-ended+then-not-matches+in_ok-read_past-in-Err, in-NoMemory, in_default, else-not-ended, else-not-ended-via-then-not-ended+else-not-matches, else-not-ended-via-else-not-ended}

pub returns-in-Err-clause-exact : goal.returns-in-Err-clause-exact
returns-in-Err-clause-exact g c =
    let old = g.R.InBytes.progress c.args.reader.now in
    let mid = g.R.InBytes.progress c.loop-kept.reader in
    let new = g.R.InBytes.progress c.read_piece.new.reader in
    let AtEnd = g.R.InBytes.IsAtEnd c.read_piece.new.reader in
    let b = c.loop-kept.before in
    let kept = c.loop-kept.kept.items in
    let piece = c.read_piece.new.piece.items in
    let kept' = c.read_piece.new.kept.items in
    let pairs = c.loop-kept.needs.pairs in
    let r = c.loop-kept.invariant.read in
    let e = c.in-Err.fault in
    let p = c.in_ok-ended.ensures.piece in
    let fails = subst (λ (t : List ℕ). (behind : List Row) → FailsBy e.refusal e (with_pairs pairs (pairs_from c.args.n b.from b.total (rows_at b.line t ++ behind)))) c.deref.ensures.value c.in-Err.ensures.err in
    elim c.if-not-ended.branch [
      | then-not-ended+then-not-matches+in_ok-read_past-in-Err w ↦ rw w.reader-is (faulty_piece c.args.n old mid new AtEnd b.from b.total b.line kept piece kept' pairs r c.in_ok-ended.ended p w.if-not-ended.true e fails (g.R.InBytes.progress w.read_past.new.reader) (g.R.InBytes.IsAtEnd w.read_past.new.reader) w.in_ok-read_past-in-Err.ensures.text.0 w.in_ok-read_past-in-Err.ensures.text.1)
      | else-not-ended w ↦ rw w.reader-is (elim w.else-not-ended.branch [
        | else-not-ended-via-then-not-ended+else-not-matches w' ↦ elim w'.match-matches.branch [
          | in-NoMemory w'' ↦ no_room c.args.n old mid new AtEnd b.from b.total b.line kept piece kept' pairs r c.in_ok-ended.ended p e w''.in-NoMemory.is fails AtEnd
          | in_default w'' ↦ (let no = w''.matches-is in let yes = w'.if-not-matches.false in absurd cc)
        ]
        | else-not-ended-via-else-not-ended w' ↦ faulty_end c.args.n old mid new AtEnd b.from b.total b.line kept piece kept' pairs r c.in_ok-ended.ended p w'.if-not-ended.false e fails
      ])
    ]

pub returns-then-ended-clause-exact : goal.returns-then-ended-clause-exact
returns-then-ended-clause-exact g c =
    let old = g.R.InBytes.progress c.args.reader.now in
    let mid = g.R.InBytes.progress c.loop-kept.reader in
    let new = g.R.InBytes.progress c.read_piece.new.reader in
    let AtEnd = g.R.InBytes.IsAtEnd c.read_piece.new.reader in
    let b = c.loop-kept.before in
    let kept = c.loop-kept.kept.items in
    let piece = c.read_piece.new.piece.items in
    let kept' = c.read_piece.new.kept.items in
    let pairs = c.loop-kept.needs.pairs in
    let pairs' = c.read_lines.new.needs.pairs in
    let after = c.in-Ok.after in
    let r = c.loop-kept.invariant.read in
    let p = subst (IsPiece mid new AtEnd kept piece kept') c.if-ended.true c.in_ok-ended.ensures.piece in
    let added = subst (λ (t : List ℕ). AddsRows c.args.n b.from b.total (rows_at b.line t) pairs pairs' after.from after.total) c.deref.ensures.value c.in-Ok.ensures.ok in (
      _,
      read_to_end c.args.n old mid new AtEnd b.from b.total b.line kept piece kept' pairs r p,
      ends c.args.n old mid new AtEnd b.from b.total b.line kept piece kept' pairs r p after.from after.total pairs' added ∙ ap (λ (ps : List (ℕ × ℕ)). Ok ps) (sym c.in_ok-finish.ensures.pairs),
    )

pub finish-requires-clause-below : goal.finish-requires-clause-below
finish-requires-clause-below g c =
    let old = g.R.InBytes.progress c.args.reader.now in
    let mid = g.R.InBytes.progress c.loop-kept.reader in
    let new = g.R.InBytes.progress c.read_piece.new.reader in
    let AtEnd = g.R.InBytes.IsAtEnd c.read_piece.new.reader in
    let b = c.loop-kept.before in
    let kept = c.loop-kept.kept.items in
    let piece = c.read_piece.new.piece.items in
    let kept' = c.read_piece.new.kept.items in
    let pairs = c.loop-kept.needs.pairs in
    let pairs' = c.read_lines.new.needs.pairs in
    let after = c.in-Ok.after in
    let r = c.loop-kept.invariant.read in
    let p = subst (IsPiece mid new AtEnd kept piece kept') c.if-ended.true c.in_ok-ended.ensures.piece in
    let added = subst (λ (t : List ℕ). AddsRows c.args.n b.from b.total (rows_at b.line t) pairs pairs' after.from after.total) c.deref.ensures.value c.in-Ok.ensures.ok in
    let rows = rows_of (r.text ++ p.text) in
    let is = ends c.args.n old mid new AtEnd b.from b.total b.line kept piece kept' pairs r p after.from after.total pairs' added in
    let known = lawful c.args.n rows pairs' (spelled c.args.n 0 0 rows pairs' is) in
    λ k l. (known.in_range k l).0

pub loop-kept-preserved : goal.loop-kept-preserved
loop-kept-preserved g c =
    let old = g.R.InBytes.progress c.args.reader.now in
    let mid = g.R.InBytes.progress c.loop-kept.reader in
    let new = g.R.InBytes.progress c.read_piece.new.reader in
    let AtEnd = g.R.InBytes.IsAtEnd c.read_piece.new.reader in
    let b = c.loop-kept.before in
    let kept = c.loop-kept.kept.items in
    let piece = c.read_piece.new.piece.items in
    let kept' = c.read_piece.new.kept.items in
    let pairs = c.loop-kept.needs.pairs in
    let pairs' = c.read_lines.new.needs.pairs in
    let after = c.in-Ok.after in
    let p = subst (IsPiece mid new AtEnd kept piece kept') c.if-ended.false c.in_ok-ended.ensures.piece in
    let added = subst (λ (t : List ℕ). AddsRows c.args.n b.from b.total (rows_at b.line t) pairs pairs' after.from after.total) c.deref.ensures.value c.in-Ok.ensures.ok in
    record {
      countable = c.in-Ok.ensures.countable;
      read = goes_on c.args.n old mid new AtEnd b.from b.total b.line kept piece kept' pairs c.loop-kept.invariant.read p after.from after.total after.line pairs' added (c.in-Ok.ensures.counted ∙ ap (λ (t : List ℕ). lines_at b.line t) c.deref.ensures.value);
      known = search rules;
      so_far = c.in-Ok.ensures.so_far;
      few = c.in-Ok.ensures.few;
      sizes = c.in-Ok.ensures.sizes;
      marks = c.in-Ok.ensures.new_marks;
    }

pub loop-kept-init : goal.loop-kept-init
loop-kept-init g c = record {
  countable = omega arith;
  read = search rules;
  known = search rules;
  so_far = search rules;
  few = omega arith;
  sizes = search rules;
  marks = subst (All (λ m. m ≤ 0)) (sym (c.in_ok-marks.ensures.items_if_clones_equal (λ y e. e))) (All-replicate (λ m. m ≤ 0) c.args.n 0 (omega arith));
}

pub returns-in-Err-clause-known : goal.returns-in-Err-clause-known
returns-in-Err-clause-known g c =
    let old = g.R.InBytes.known_text c.args.reader.now in
    let between = g.R.InBytes.known_text c.loop-kept.reader in
    let new = g.R.InBytes.known_text c.read_piece.new.reader in
    let known = keeps_on old between new c.loop-kept.invariant.known c.in_ok-ended.ensures.known in
    elim c.if-not-ended.branch [
      | then-not-ended+then-not-matches+in_ok-read_past-in-Err w ↦ rw w.reader-is (keeps_on old new (g.R.InBytes.known_text w.read_past.new.reader) known w.in_ok-read_past-in-Err.ensures.known)
      | else-not-ended w ↦ rw w.reader-is known
    ]
