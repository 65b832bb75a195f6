-- One shell more; at the end there is one for each factor.
use Rattle.std.proofs.Common.{◌≡◌, ◌∙◌, ◌<◌, ◌≤◌, ◌+◌, suc, List, length, map, sym, ap, subst, arith, rules}
use Rattle.std.specs.List.{All}
use Rattle.std.proofs.lemmas.List.Elements.{All-push}
use Rattle.pit_model.specs.declared.shell.Shell.{Shell}
use Rattle.pit_model.specs.Shells.{IsShell}
use Rattle.nesting.specs.Prices.{deposit_of}
use Rattle.nesting.specs.Grown.{IsGrown, EndsRest}
use Rattle.nesting.proofs.Joining.{is_priced}
use Rattle.nesting.proofs.Nests.{are_shells, each_below, one_more_named}
use Rattle.nesting.proofs.nested.shells_by_rests.Goals as goal

pub loop-k-init : goal.loop-k-init
loop-k-init g c =
    let plan = c.args.plan.now in
    let none = c.new-list.ensures.items in
    record {
      grown = c.in_ok-growing.ensures c.args.plan.now.direction plan.columns.now plan.factors.now;
      each = subst (λ (xs : List Shell). All (IsShell c.args.plan.now.direction (deposit_of plan.columns.now plan.graph.now.value)) xs) (sym none) (λ j d l. absurd (omega arith));
      named = ap (λ (xs : List Shell). map (λ (s : Shell). s.factor) xs) none;
      within = λ j l. absurd (omega arith);
    }

pub loop-k-preserved : goal.loop-k-preserved
loop-k-preserved g c =
    let plan = c.args.plan.now in
    let deposit = deposit_of plan.columns.now plan.graph.now.value in
    let factors = plan.factors.now in
    let k = c.loop-k.k in
    let next = c.next_shell.new.growing in
    let invariant = c.loop-k.invariant in
    let e : suc k ≡ k + 1 = omega arith in
    let inside : k < length factors = search rules in
    let shell = c.in_ok-shell.ensures in
    let items = c.in_ok-push.ensures.items in
    record {
      grown = subst (λ n. IsGrown c.args.plan.now.direction (deposit_of plan.columns.now plan.graph.now.value) factors n next.marks.items next.blocks.items next.graph.value) e shell.grown;
      each = subst (λ (xs : List Shell). All (IsShell c.args.plan.now.direction (deposit_of plan.columns.now plan.graph.now.value)) xs) (sym items)
          (All-push (IsShell c.args.plan.now.direction deposit) c.loop-k.list.items c.in_ok-shell.shell invariant.each shell.shell);
      named = ap (λ (xs : List Shell). map (λ (s : Shell). s.factor) xs) items ∙ one_more_named factors c.loop-k.list.items c.in_ok-shell.shell k inside invariant.named shell.factor;
      within = each_below (EndsRest (g.S.PitSolver.Ends c.args.solver.now) c.args.plan.now.direction deposit factors) k invariant.within shell.within;
    }

pub returns-clause-shells : goal.returns-clause-shells
returns-clause-shells g c =
    let plan = c.args.plan.now in
    let factors = plan.factors.now in
    let all : length factors ≤ c.loop-k.k = search rules in
    are_shells c.args.plan.now.direction (deposit_of plan.columns.now plan.graph.now.value) factors c.loop-k.list.items c.loop-k.k (is_priced plan.columns.now plan.graph.now.value c.law-2.ensures c.requires.rows) c.law.ensures all
    c.loop-k.invariant.named c.loop-k.invariant.each
