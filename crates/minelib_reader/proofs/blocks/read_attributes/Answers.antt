-- Each way through the loop is one step of `attributes_of`.
use Rattle.std.proofs.Common.{List, ℕ, ℤ, [], ◌∷◌, ◌++◌, ◌≡◌, ◌∙◌, ◌^◌, ap, sym, subst, rules}
use mir.Val.{SFits}
use Rattle.std.specs.Int.{w128}
use Rattle.std.specs.List.{All}
use Rattle.std.proofs.lemmas.Int.{to_z-of_z}
use Rattle.std.proofs.lemmas.List.Elements.{All-append, All-cons, All-nil}
use Rattle.std.proofs.lemmas.Result.{err_from_is_err_and}
use Rattle.minelib_reader.specs.Number.{IsBounded}
use Rattle.minelib_reader.specs.Text.{fields_of}
use Rattle.minelib_reader.specs.Blocks.{attribute_of, attributes_of}
use Rattle.minelib_reader.proofs.AnswerLemmas.{fails_map}
use Rattle.minelib_reader.proofs.BlocksLineLemmas.{SoFar, goes_on, stops, ends}
use Rattle.minelib_reader.proofs.blocks.read_attributes.Goals as goal

pub returns-in_err-value-clause-err : goal.returns-in_err-value-clause-err
returns-in_err-value-clause-err c =
    let p = err_from_is_err_and c.from_residual.result c.from_residual.ensures.1 in
    let e = c.in_err-value.field-0.0 in
    let total = attributes_of c.args.line (fields_of c.args.text.now) in
    let s = subst (λ (fs : List (List ℕ)). SoFar c.args.line fs total c.args.attributes.now.items c.loop-field.attributes.items) c.in-Some.ensures.field c.loop-field.invariant.so_far in
    rw (p.1, p.2) (fails_map e.refusal e (attribute_of c.args.line c.in-Some.field.now) total (λ h. stops e c.args.line c.in-Some.field.now (fields_of c.in-Some.behind.now) total _ _ s h) c.in_err-value.ensures.gives)

pub loop-field-preserved : goal.loop-field-preserved
loop-field-preserved c =
    let total = attributes_of c.args.line (fields_of c.args.text.now) in
    let s = subst (λ (fs : List (List ℕ)). SoFar c.args.line fs total c.args.attributes.now.items c.loop-field.attributes.items) c.in-Some.ensures.field c.loop-field.invariant.so_far in
    let front = c.loop-field.attributes.items in
    let value = c.in_ok-value.value in
    let fits : SFits w128 value = search rules in
    let items : c.push.new.self.items ≡ front ++ value ∷ [] = c.in_ok-push.ensures.items ∙ ap (λ (v : ℤ). front ++ v ∷ []) (to_z-of_z w128 value fits) in
    let one = goes_on c.args.line c.in-Some.field.now (fields_of c.in-Some.behind.now) total c.args.attributes.now.items front value s c.in_ok-value.ensures.gives in
    record {
      so_far = subst (λ (vs : List ℤ). SoFar c.args.line (fields_of c.in-Some.behind.now) total c.args.attributes.now.items vs) (sym items) one;
      small = subst (All (IsBounded (10 ^ 18))) (sym items) (All-append (IsBounded (10 ^ 18)) front (value ∷ []) c.loop-field.invariant.small (All-cons (IsBounded (10 ^ 18)) value [] c.in_ok-value.ensures.small (All-nil (IsBounded (10 ^ 18)))));
    }

pub returns-clause-ok : goal.returns-clause-ok
returns-clause-ok c =
    let total = attributes_of c.args.line (fields_of c.args.text.now) in
    let s = subst (λ (fs : List (List ℕ)). SoFar c.args.line fs total c.args.attributes.now.items c.loop-field.attributes.items) c.in_default.ensures.field c.loop-field.invariant.so_far in
    (s.own, ends c.args.line total c.args.attributes.now.items c.loop-field.attributes.items s, s.pushed)
