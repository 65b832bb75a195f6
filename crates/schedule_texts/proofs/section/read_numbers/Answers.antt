-- Each way through the loop is one step of `numeric_fields`.
use Rattle.std.proofs.Common.{List, ℕ, ℤ, [], ◌∷◌, ◌++◌, ◌-◌, ◌≡◌, ◌∙◌, ap, sym, subst, rules}
use mir.Val.{SFits}
use Rattle.std.specs.Int.{w64}
use Rattle.std.proofs.lemmas.Int.{to_z-of_z}
use Rattle.std.proofs.lemmas.Result.{err_from_is_err_and}
use Rattle.minelib_reader.specs.Text.{fields_of}
use Rattle.minelib_reader.proofs.AnswerLemmas.{fails_map}
use Rattle.schedule_texts.specs.Section.{numeric_field, numeric_fields}
use Rattle.schedule_texts.proofs.NumberLemmas.{SoFar, goes_on, stops, ends}
use Rattle.schedule_texts.proofs.section.read_numbers.Goals as goal

pub returns-in_err-number-clause-err : goal.returns-in_err-number-clause-err
returns-in_err-number-clause-err c =
    let p = err_from_is_err_and c.from_residual.result c.from_residual.ensures.1 in
    let e = c.in_err-number.field-0.0 in
    let left = c.loop-field.left in
    let total = numeric_fields c.args.line c.args.wholes (fields_of c.args.text.now) in
    let s = subst (λ (fs : List (List ℕ)). SoFar c.args.line left fs total c.args.numbers.now.items c.loop-field.numbers.items) c.in-Some.ensures.field c.loop-field.invariant.so_far in
    rw (p.1, p.2) (fails_map e.refusal e (numeric_field c.args.line left c.in-Some.field.now) total (λ h. stops e c.args.line left c.in-Some.field.now (fields_of c.in-Some.behind.now) total _ _ s h) c.in_err-number.ensures)

pub loop-field-preserved : goal.loop-field-preserved
loop-field-preserved c =
    let left = c.loop-field.left in
    let total = numeric_fields c.args.line c.args.wholes (fields_of c.args.text.now) in
    let s = subst (λ (fs : List (List ℕ)). SoFar c.args.line left fs total c.args.numbers.now.items c.loop-field.numbers.items) c.in-Some.ensures.field c.loop-field.invariant.so_far in
    let front = c.loop-field.numbers.items in
    let value = c.in_ok-number.number in
    let fits : SFits w64 value = search rules in
    let items : c.push.new.self.items ≡ front ++ value ∷ [] = c.in_ok-push.ensures.items ∙ ap (λ (v : ℤ). front ++ v ∷ []) (to_z-of_z w64 value fits) in
    let one = goes_on c.args.line left c.in-Some.field.now (fields_of c.in-Some.behind.now) total c.args.numbers.now.items front value s c.in_ok-number.ensures in
    let less : c.saturating_sub-left.result ≡ left - 1 = search rules in
    record {
      so_far = subst (λ (k : ℕ). SoFar c.args.line k (fields_of c.in-Some.behind.now) total c.args.numbers.now.items c.push.new.self.items) (sym less)
          (subst (λ (vs : List ℤ). SoFar c.args.line (left - 1) (fields_of c.in-Some.behind.now) total c.args.numbers.now.items vs) (sym items) one);
    }

pub returns-clause-ok : goal.returns-clause-ok
returns-clause-ok c =
    let left = c.loop-field.left in
    let total = numeric_fields c.args.line c.args.wholes (fields_of c.args.text.now) in
    let s = subst (λ (fs : List (List ℕ)). SoFar c.args.line left fs total c.args.numbers.now.items c.loop-field.numbers.items) c.in_default.ensures.field c.loop-field.invariant.so_far in
    (s.own, ends c.args.line left total c.args.numbers.now.items c.loop-field.numbers.items s, s.pushed)
