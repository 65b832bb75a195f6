-- Each block adds its number, or is the least with a negative one.
use Rattle.std.proofs.Common.{◌≡◌, ◌+◌, ℤ, pos, ◌≤ℤ◌, ◌<ℤ◌, List, [], ◌∷◌, ◌++◌, ap, subst, sym, ◌∙◌, arith, rules, refl}
use mir.Val.{SFits}
use Rattle.std.specs.Int.{w128}
use Rattle.std.proofs.lemmas.Int.{to_z-of_z}
use Rattle.minelib_reader.proofs.ColumnLemmas.{IsColumnBelow, starts, goes_on, is_whole}
use Rattle.minelib_reader.proofs.columns.column.Goals as goal

pub loop-id-init : goal.loop-id-init
loop-id-init c =
    let none : [] ≡ c.new-values.result.items = search rules in
    subst (λ (vs : List ℤ). IsColumnBelow c.args.table.now c.args.k 0 vs) none (starts c.args.table.now c.args.k)

pub returns-then-value-lt0-clause-refused : goal.returns-then-value-lt0-clause-refused
returns-then-value-lt0-clause-refused c =
    let negative : c.attribute-value.result <ℤ pos 0 = search rules in
    rw c.in_blocks-then-value-lt0.ensures (
      record {
        known = omega arith;
        block = omega arith;
        negative = subst (λ (v : ℤ). v <ℤ pos 0) c.attribute-value.ensures.value negative;
        least = c.loop-id.invariant.lawful;
      },
      refl,
    )

pub loop-id-preserved : goal.loop-id-preserved
loop-id-preserved c =
    let values = c.loop-id.values.items in
    let value = c.attribute-value.result in
    let fits : SFits w128 value = search rules in
    let items : c.push.new.self.items ≡ values ++ value ∷ [] = c.in_ok-push.ensures.items ∙ ap (λ (v : ℤ). values ++ v ∷ []) (to_z-of_z w128 value fits) in
    let positive : pos 0 ≤ℤ value = search rules in
    subst (λ (vs : List ℤ). IsColumnBelow c.args.table.now c.args.k (c.loop-id.id + 1) vs) (sym items) (goes_on c.args.table.now c.args.k c.loop-id.id values value c.loop-id.invariant c.attribute-value.ensures.value positive c.attribute-value.ensures.small)

pub returns-clause-column : goal.returns-clause-column
returns-clause-column c = is_whole c.args.table.now c.args.k c.loop-id.id c.loop-id.values.items c.loop-id.invariant (omega arith) (omega arith)
