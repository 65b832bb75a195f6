-- One more value stands, and it is one of 64 bits.
use Rattle.std.proofs.Common.{rules, ◌≤ℤ◌, ◌∙◌, List, [], ◌∷◌, ◌++◌, get_or, pos, neg_ℤ, ◌^◌, arith, below_more, ap, sym, subst, length, ◌<◌}
use Rattle.std.proofs.lemmas.List.{take_more}
use Rattle.std.proofs.lemmas.Int.{to_z-of_z}
use Rattle.std.specs.Int.{w64, w128}
use Rattle.std.specs.Prelude.{ℤ}
use mir.Val.{SFits}
use Rattle.arrays.proofs.mine.widened.Goals as goal

pub loop-value-preserved : goal.loop-value-preserved
loop-value-preserved c =
    let i = c.loop-value.value-index in
    let values : List ℤ = c.args.values.now in
    let value : ℤ = get_or values i (pos 0) in
    let fits : SFits w64 value = search rules in
    let fits_wide : SFits w128 c.wide.result = search rules in
    let same = to_z-of_z w64 value fits in
    let inside : i < length values = omega arith in (
      c.in_ok-push.ensures.items
          ∙ ap (λ (x : ℤ). c.loop-value.list.items ++ x ∷ []) (to_z-of_z w128 c.wide.result fits_wide ∙ c.wide.ensures.same ∙ same)
          ∙ ap (λ (xs : List ℤ). xs ++ value ∷ []) c.loop-value.invariant.0
          ∙ sym (take_more values i (pos 0) inside),
      below_more _ _ c.loop-value.invariant.1 (subst (λ (x : ℤ). neg_ℤ (pos (10 ^ 23)) ≤ℤ x) same c.wide.ensures.low),
      below_more _ _ c.loop-value.invariant.2 (subst (λ (x : ℤ). x ≤ℤ pos (10 ^ 23)) same c.wide.ensures.high),
    )
