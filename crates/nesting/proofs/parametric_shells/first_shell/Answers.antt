-- The mine that is searched at the first factor is solved.
use Rattle.std.proofs.Common.{subst, sym}
use Rattle.std.proofs.lemmas.Result.{IfOk-weaker}
use Rattle.pit_model.specs.Mine.{Instance}
use Rattle.pit_model.specs.Shells.{IsShell, factor_of}
use Rattle.nesting.specs.Prices.{deposit_of}
use Rattle.nesting.specs.Parametric.{IsHeld, IsSearchedAt, IsSolvedAt, in_turns}
use Rattle.nesting.proofs.Parametric.{first_held, first_is_shell, rows_searched}
use Rattle.nesting.proofs.parametric_shells.first_shell.Goals as goal

pub solve-requires-clause-rows : goal.solve-requires-clause-rows
solve-requires-clause-rows c =
    let plan = c.args.plan.now in
    rows_searched plan.direction plan.columns.now plan.graph.now.value c.factor_at-factor.result c.in_ok-mine.mine c.in_ok-new.field-0 c.requires.rows c.in_ok-mine.ensures.is c.in_ok-new.ensures.mine

pub returns-clause-held : goal.returns-clause-held
returns-clause-held c =
    let plan = c.args.plan.now in
    let columns = plan.columns.now in
    let graph = plan.graph.now.value in
    let factor = c.factor_at-factor.result in
    let mine = c.in_ok-new.field-0 in
    let is = subst (λ (m : Instance). IsSearchedAt plan.direction (deposit_of columns graph) factor m) (sym c.in_ok-new.ensures.mine) c.in_ok-mine.ensures.is in
    IfOk-weaker c.solve.result (λ r. IsSolvedAt plan.direction columns factor mine r.0 r.1)
    (λ r. IsHeld plan.direction (deposit_of columns graph) (factor_of (in_turns plan.direction plan.factors.now) 0) r.0.marks.items r.0.mine)
    (λ r solved. subst (λ f. IsHeld plan.direction (deposit_of columns graph) f r.0.marks.items r.0.mine) c.factor_at-factor.ensures.is
    (first_held plan.direction columns graph factor mine r.0 r.1 is solved)) c.solve.ensures.solved

pub returns-clause-shell : goal.returns-clause-shell
returns-clause-shell c =
    let plan = c.args.plan.now in
    let columns = plan.columns.now in
    let graph = plan.graph.now.value in
    let factor = c.factor_at-factor.result in
    let mine = c.in_ok-new.field-0 in
    let is = subst (λ (m : Instance). IsSearchedAt plan.direction (deposit_of columns graph) factor m) (sym c.in_ok-new.ensures.mine) c.in_ok-mine.ensures.is in
    IfOk-weaker c.solve.result (λ r. IsSolvedAt plan.direction columns factor mine r.0 r.1) (λ r. IsShell plan.direction (deposit_of columns graph) r.1)
    (λ r solved. first_is_shell plan.direction columns graph factor mine r.0 r.1 is solved) c.solve.ensures.solved
