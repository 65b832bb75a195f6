-- Rows whose blocks are there spell pairs of blocks that there are.
use Rattle.std.proofs.Common.{◌≡◌, ℕ, ◌<◌, IfSome, length, get_or, ap, refl, subst, sym, ◌∙◌, arith}
use Rattle.pit_model.specs.Graph.{first_of, AreInRange}
use Rattle.csr.specs.View.{pairs_in}
use Rattle.csr.proofs.Spelled.{length-pairs_of, second_at}
use Rattle.arrays.specs.Named.{IsRepeated}
use Rattle.arrays.specs.Encoded.{IsInRow, EncodesPairs}
use Rattle.arrays.specs.Refused.{IsFirstPlace, IsNamedTwice}
use Rattle.arrays.proofs.Encoding.{rows_in_range, spell}
use Rattle.arrays.proofs.Repeats.{twice_repeats}
use Rattle.arrays.proofs.graph.sound_rows.Goals as goal

pub returns-in-Some-2-clause-refused : goal.returns-in-Some-2-clause-refused
returns-in-Some-2-clause-refused c =
    let starts = c.args.rows.offsets.now in
    let seconds = c.args.rows.targets.now in
    let pairs = pairs_in c.args.rows in
    let place : ℕ = c.in-Some-2.place in
    let is = subst (λ o. IfSome o (IsFirstPlace (IsRepeated pairs))) c.in-Some-2.is c.in_ok-place.ensures.some in
    let long = length-pairs_of starts seconds in
    let encoded = spell c.args.blocks starts seconds c.requires.rows in
    let before : ℕ = is.0.0 in
    let sooner = is.0.1 in
    let inside = is.0.2 in
    let twice : IsNamedTwice starts seconds place = record {
      block = first_of pairs place;
      before = before;
      sooner = sooner;
      here = encoded.block place (omega arith);
      there = subst (λ u. IsInRow starts u before) (ap (λ (q : ℕ × ℕ). q.0) is.0.3) (encoded.block before (omega arith));
      same = sym (second_at starts seconds before (omega arith)) ∙ ap (λ (q : ℕ × ℕ). q.1) is.0.3 ∙ second_at starts seconds place (omega arith);
    } in
    (twice, λ k less again. is.1 k less (twice_repeats c.args.blocks starts seconds c.requires.rows k again))

pub returns-clause-encoded : goal.returns-clause-encoded
returns-clause-encoded c =
    let rows = c.args.rows in
    subst (EncodesPairs rows.offsets.now rows.targets.now) (sym c.in_ok-from_view.ensures.pairs) (spell c.args.blocks rows.offsets.now rows.targets.now c.requires.rows)

pub returns-clause-in_range : goal.returns-clause-in_range
returns-clause-in_range c =
    let rows = c.args.rows in
    subst (λ q. AreInRange q c.args.blocks) (sym c.in_ok-from_view.ensures.pairs) (rows_in_range c.args.blocks rows.offsets.now rows.targets.now c.requires.rows c.in_default.ensures.none)
