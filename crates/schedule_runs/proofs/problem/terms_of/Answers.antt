-- All terms are lawful: those of value, and behind them those of use.
use Rattle.std.proofs.Common.{◌≡◌, ℕ, ◌+◌, ◌-◌, ◌<◌, ◌≤◌, List, length, get_or, sym, subst, arith, ⊎_elim}
use Rattle.std.specs.Prelude.{ℤ}
use Rattle.std.proofs.lemmas.Bool.{cases_lt}
use Rattle.schedule_model.specs.declared.term.Term.{Term}
use Rattle.schedule_model.specs.Problem.{no_term}
use Rattle.scheduling.specs.Limits.{IsTermOf}
use Rattle.scheduling.specs.declared.parts.Sizes.{Sizes}
use Rattle.schedule_runs.specs.Limited.{AreInRangeOf}
use Rattle.schedule_runs.specs.declared.broken_limit.Section.TheVariants.{Uses, Values}
use Rattle.schedule_runs.proofs.problem.terms_of.Goals as goal

pub value_terms-requires-clause-range : goal.value_terms-requires-clause-range
value_terms-requires-clause-range c =
    subst (λ (xs : List ℤ). AreInRangeOf c.args.sizes Values xs) (sym c.deref.ensures.value)
    (subst (λ (z : Sizes). AreInRangeOf z Values c.args.read.now.values.items) (sym c.requires.sizes) (c.requires.lawful.numbers 2 (omega arith)))

pub add_use_terms-requires-clause-range : goal.add_use_terms-requires-clause-range
add_use_terms-requires-clause-range c =
    subst (λ (xs : List ℤ). AreInRangeOf c.args.sizes Uses xs) (sym c.deref-2.ensures.value)
    (subst (λ (z : Sizes). AreInRangeOf z Uses c.args.read.now.uses.items) (sym c.requires.sizes) (c.requires.lawful.numbers 3 (omega arith)))

pub returns-clause-lawful : goal.returns-clause-lawful
returns-clause-lawful c k inside =
    let sizes = c.args.sizes in
    let old : List Term = c.in_ok-terms.terms.items in
    let new : List Term = c.add_use_terms.new.terms.items in
    let more = c.in_ok-add_use_terms.ensures in
    let first = c.in_ok-terms.ensures in
    let size = first.count in
    let all = more.count in
    let lawful = λ (t : Term). IsTermOf sizes.destinations sizes.columns sizes.limits t in
    ⊎_elim
    (λ (l : k < length old). subst lawful (sym (more.kept k l)) (first.lawful k (omega arith)))
    (λ (m : length old ≤ k).
    let j = k - length old in
    let is : length old + j ≡ k = omega arith in
    subst (λ i. lawful (get_or new i no_term)) is (more.lawful j (omega arith)))
    (cases_lt k (length old))
