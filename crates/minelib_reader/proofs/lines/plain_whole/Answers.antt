-- The digits at the front are the first field where a blank or nothing follows.
use Rattle.std.proofs.Common.{◌∙◌, ◌∷◌, ◌-◌, List, ℕ, sym, ap, arith, length, take, drop, length-drop}
use Rattle.std.proofs.lemmas.List.{take_all}
use Rattle.minelib_reader.specs.Text.{fields_of}
use Rattle.minelib_reader.proofs.WholeLemmas.{whole_at_front}
use Rattle.minelib_reader.proofs.lines.plain_whole.Goals as goal

pub returns-then-ends_at-clause-whole : goal.returns-then-ends_at-clause-whole
returns-then-ends_at-clause-whole c =
    let rest = c.behind_blank-rest.result.now in
    let value = c.front_digits-value.result.0 in
    let len = c.front_digits-value.result.1 in
    let front = c.front_digits-value.ensures in
    let first = whole_at_front rest len value front.inside front.digits front.value c.if-len-gt0.true c.if-len-le-MOST_DIGITS.true c.if-ends_at.ensures.end in (
      take len rest,
      sym c.behind_blank-rest.ensures.same ∙ first.0 ∙ ap (λ (r : List ℕ). take len rest ∷ fields_of r) (sym (take_all (length rest - len) (drop len rest) (omega (arith, length-drop len rest)))),
      first.1,
    )
