-- The mine that has risen to the next factor is solved.
use Rattle.std.proofs.Common.{◌+◌, List, Bool, subst, sym}
use Rattle.std.proofs.lemmas.Result.{IfOk-weaker}
use Rattle.pit_model.specs.Shells.{IsShell, factor_of}
use Rattle.nesting.specs.Prices.{deposit_of}
use Rattle.nesting.specs.Parametric.{Follows, IsHeld, HasIncreased, IsSolvedAt, in_turns}
use Rattle.nesting.proofs.Joining.{is_priced}
use Rattle.nesting.proofs.Parametric.{next_held, next_is_shell}
use Rattle.nesting.proofs.Turns.{turns_follow}
use Rattle.nesting.proofs.parametric_shells.next_shell.Goals as goal

pub rise-requires-clause-order : goal.rise-requires-clause-order
rise-requires-clause-order c =
    let plan = c.args.plan.now in
    let k = c.args.k in
    let order = turns_follow plan.direction plan.factors.now k c.law-2.ensures.rising c.requires.known in
    subst (λ f. Follows plan.direction f c.factor_at-to.result) (sym c.factor_at-from.ensures.is)
    (subst (Follows plan.direction (factor_of (in_turns plan.direction plan.factors.now) k)) (sym c.factor_at-to.ensures.is) order)

pub returns-clause-held : goal.returns-clause-held
returns-clause-held c =
    let plan = c.args.plan.now in
    let columns = plan.columns.now in
    let graph = plan.graph.now.value in
    let turns = in_turns plan.direction plan.factors.now in
    let k = c.args.k in
    let to = c.factor_at-to.result in
    let high = c.factor_at-to.ensures.is in
    let order = turns_follow plan.direction plan.factors.now k c.law-2.ensures.rising c.requires.known in
    let follows = subst (Follows plan.direction (factor_of turns k)) (sym high) order in
    let old = c.args.risen.mine in
    let mine = c.rise.new.mine in
    let marks = c.args.risen.marks.items in
    let is = subst (λ (ms : List Bool). HasIncreased plan.direction columns ms to old.blocks old mine) c.deref.ensures.value c.rise.ensures in
    IfOk-weaker c.solve.result (λ r. IsSolvedAt plan.direction columns to mine r.0 r.1) (λ r. IsHeld plan.direction (deposit_of columns graph) (factor_of turns (k + 1)) r.0.marks.items r.0.mine)
    (λ r solved. subst (λ f. IsHeld plan.direction (deposit_of columns graph) f r.0.marks.items r.0.mine) high
    (next_held plan.direction columns graph (factor_of turns k) to marks old mine r.0 r.1 (is_priced columns graph c.law.ensures c.requires.rows) follows c.requires.held is solved)) c.solve.ensures.solved

pub returns-clause-shell : goal.returns-clause-shell
returns-clause-shell c =
    let plan = c.args.plan.now in
    let columns = plan.columns.now in
    let graph = plan.graph.now.value in
    let turns = in_turns plan.direction plan.factors.now in
    let k = c.args.k in
    let to = c.factor_at-to.result in
    let high = c.factor_at-to.ensures.is in
    let order = turns_follow plan.direction plan.factors.now k c.law-2.ensures.rising c.requires.known in
    let follows = subst (Follows plan.direction (factor_of turns k)) (sym high) order in
    let old = c.args.risen.mine in
    let mine = c.rise.new.mine in
    let marks = c.args.risen.marks.items in
    let is = subst (λ (ms : List Bool). HasIncreased plan.direction columns ms to old.blocks old mine) c.deref.ensures.value c.rise.ensures in
    IfOk-weaker c.solve.result (λ r. IsSolvedAt plan.direction columns to mine r.0 r.1) (λ r. IsShell plan.direction (deposit_of columns graph) r.1)
    (λ r solved. next_is_shell plan.direction columns graph (factor_of turns k) to marks old mine r.0 r.1 (is_priced columns graph c.law.ensures c.requires.rows) follows c.requires.held is solved) c.solve.ensures.solved
