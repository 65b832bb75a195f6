-- One shell more; at the end there is one for each factor.
use Rattle.std.proofs.Common.{◌≡◌, ◌∙◌, ◌<◌, ◌≤◌, ◌+◌, List, [], ◌∷◌, ◌++◌, length, map, refl, sym, ap, subst, arith, rules}
use Rattle.std.specs.List.{All}
use Rattle.std.proofs.lemmas.List.{take_all}
use Rattle.std.proofs.lemmas.List.Elements.{All-nil, All-push}
use Rattle.std.proofs.lemmas.Result.{err_from_is_err_and}
use Rattle.pit_model.specs.declared.shell.Shell.{Shell}
use Rattle.pit_model.specs.Shells.{AreShells, IsShell}
use Rattle.nesting.specs.Planned.{deposit_in}
use Rattle.nesting.specs.Parametric.{in_turns}
use Rattle.nesting.proofs.Joining.{is_priced}
use Rattle.nesting.proofs.Nests.{are_shells, one_more_named}
use Rattle.nesting.proofs.Turns.{all_turns, map_turns, turns_back, turns_count}
use Rattle.nesting.proofs.parametric_shells.parametric_shells.Goals as goal

pub loop-k-init : goal.loop-k-init
loop-k-init c =
    let plan = c.args.plan.now in
    let deposit = deposit_in plan in
    let turns = in_turns plan.direction plan.factors.now in
    let count = turns_count plan.direction plan.factors.now in
    let first = c.in_ok-risen in
    let none : c.new-list.result.items ≡ [] = search rules in
    let items = c.in_ok-push.ensures.items ∙ ap (λ xs. xs ++ first.shell ∷ []) none in
    record {
      held = first.ensures.held;
      each = subst (λ (xs : List Shell). All (IsShell plan.direction deposit) xs) (sym items)
          (All-push (IsShell plan.direction deposit) [] first.shell (All-nil (IsShell plan.direction deposit)) first.ensures.shell);
      named = ap (λ (xs : List Shell). map (λ (s : Shell). s.factor) xs) items ∙ one_more_named turns [] first.shell 0 (omega arith) refl first.ensures.factor;
    }

pub loop-k-preserved : goal.loop-k-preserved
loop-k-preserved c =
    let plan = c.args.plan.now in
    let deposit = deposit_in plan in
    let turns = in_turns plan.direction plan.factors.now in
    let k = c.loop-k.k in
    let invariant = c.loop-k.invariant in
    let inside : k + 1 < length plan.factors.now = search rules in
    let count = turns_count plan.direction plan.factors.now in
    let next = c.in_ok-next in
    let items = c.in_ok-push-2.ensures.items in
    record {
      held = next.ensures.held;
      each = subst (λ (xs : List Shell). All (IsShell plan.direction deposit) xs) (sym items)
          (All-push (IsShell plan.direction deposit) c.loop-k.list.items next.shell invariant.each next.ensures.shell);
      named = ap (λ (xs : List Shell). map (λ (s : Shell). s.factor) xs) items ∙ one_more_named turns c.loop-k.list.items next.shell (k + 1) (omega arith) invariant.named next.ensures.factor;
    }

pub returns-clause-shells : goal.returns-clause-shells
returns-clause-shells c =
    let plan = c.args.plan.now in
    let deposit = deposit_in plan in
    let factors = plan.factors.now in
    let turns = in_turns plan.direction factors in
    let list = c.loop-k.list.items in
    let all : length factors ≤ c.loop-k.k + 1 = search rules in
    let count = turns_count plan.direction factors in
    let named : map (λ (s : Shell). s.factor) list ≡ turns = c.loop-k.invariant.named ∙ take_all (c.loop-k.k + 1) turns (omega arith) in
    let back : map (λ (s : Shell). s.factor) (in_turns plan.direction list) ≡ factors =
    map_turns plan.direction (λ (s : Shell). s.factor) list ∙ ap (in_turns plan.direction) named ∙ turns_back plan.direction factors in
    subst (λ (xs : List Shell). AreShells plan.direction deposit factors xs) (sym c.by_factor.ensures)
    (are_shells plan.direction deposit factors (in_turns plan.direction list) (length factors) (is_priced plan.columns.now plan.graph.now.value c.law.ensures c.requires.rows) c.law-2.ensures (omega arith)
    (back ∙ sym (take_all (length factors) factors (omega arith))) (all_turns plan.direction (IsShell plan.direction deposit) list c.loop-k.invariant.each))

pub returns-in_err-push-2-clause-refused : goal.returns-in_err-push-2-clause-refused
returns-in_err-push-2-clause-refused c =
    let p = err_from_is_err_and c.from_residual-in_err-push-2.result c.from_residual-in_err-push-2.ensures.1 in
    rw p.1 p.2

pub returns-in_err-push-clause-refused : goal.returns-in_err-push-clause-refused
returns-in_err-push-clause-refused c =
    let p = err_from_is_err_and c.from_residual-in_err-push.result c.from_residual-in_err-push.ensures.1 in
    rw p.1 p.2
