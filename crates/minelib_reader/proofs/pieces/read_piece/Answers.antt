-- What is read goes to the piece, up to the last line feed, and what stands behind that is kept.
use Rattle.std.proofs.Common.{◌∙◌, ◌++◌, ℕ, List, rules, sym, ap, arith, length, length-take, take, Ok}
use Rattle.std.proofs.lemmas.List.{append-nil}
use Rattle.minelib_reader.proofs.PieceLemmas.{gathers_none, gathers_all, gathers_piece}
use Rattle.minelib_reader.proofs.pieces.read_piece.Goals as goal

pub loop-n-init : goal.loop-n-init
loop-n-init g c = record {
  gathers = gathers_none (g.R.InBytes.progress c.args.reader.now) c.args.kept.now.items c.swap.new.x.items (ap (λ v. v.items) (sym c.swap.ensures.x_after));
  kept = c.clear.ensures.items;
  known = search rules;
}

pub returns-in-Ok-eq0-clause-piece : goal.returns-in-Ok-eq0-clause-piece
returns-in-Ok-eq0-clause-piece g c =
    let mid = g.R.InBytes.progress c.loop-n.reader in
    let gives = c.in-Ok-eq0.ensures.gives in
    let none = c.in-Ok-eq0.field-0-test in
    gathers_all (g.R.InBytes.progress c.args.reader.now) mid (g.R.InBytes.progress c.read.new.self) (g.R.InBytes.IsAtEnd c.read.new.self)
    c.args.kept.now.items c.loop-n.piece.items c.loop-n.kept.items c.loop-n.invariant.gathers c.loop-n.invariant.kept
    (gives.1 ∙ ap (λ (n : ℕ). mid.bytes ++ take n c.read.new.buf) none ∙ append-nil mid.bytes) gives.2 (omega (arith, gives.3, none)) (c.read.ensures.end (c.in-Ok-eq0.is ∙ ap (λ (n : ℕ). Ok n) none))

pub returns-in-Some-clause-piece : goal.returns-in-Some-clause-piece
returns-in-Some-clause-piece g c =
    let mid = g.R.InBytes.progress c.loop-n.reader in
    let gives = c.in-Ok.ensures.gives in
    let parts = c.in-Some.ensures.parts in
    let ended = c.in-Some.lines.now in
    let begun = c.in-Some.begun.now in
    let piece = c.in_ok-extend_from_slice-in-Some.ensures.items in
    let kept = c.in_ok-extend_from_slice-in-Some-2.ensures.items ∙ ap (λ (k : List ℕ). k ++ begun) c.loop-n.invariant.kept in
    rw (piece, kept) (gathers_piece (g.R.InBytes.progress c.args.reader.now) mid (g.R.InBytes.progress c.read.new.self) (g.R.InBytes.IsAtEnd c.read.new.self)
    c.args.kept.now.items c.loop-n.piece.items ended begun c.loop-n.invariant.gathers c.in-Some.ensures.ends
    (gives.1 ∙ ap (λ (bs : List ℕ). mid.bytes ++ bs) parts) gives.2 (omega (arith, gives.3, gives.0, ap length parts, length-take c.in-Ok.n c.read.new.buf)))
