-- One term more.
use Rattle.std.proofs.Common.{◌≡◌, ℕ, ◌+◌, ◌<◌, List, [], ◌∷◌, ◌++◌, length, arith}
use Rattle.schedule_model.specs.declared.term.Term.{Term}
use Rattle.schedule_model.specs.Problem.{no_term}
use Rattle.scheduling.specs.Limits.{IsTermOf}
use Rattle.schedule_runs.specs.ProblemRead.{IsUseTerm}
use Rattle.schedule_runs.proofs.Pushed.{count_pushed, each_pushed, kept_pushed}
use Rattle.schedule_runs.proofs.terms.add_use_terms.Goals as goal

pub loop-k-preserved : goal.loop-k-preserved
loop-k-preserved c =
    let old : List Term = c.args.terms.now.items in
    let xs : List Term = c.loop-k.terms.items in
    let ys : List Term = c.push.new.self.items in
    let x : Term = c.use_term.result in
    let k = c.loop-k.k in
    let invariant = c.loop-k.invariant in
    let are : ys ≡ xs ++ x ∷ [] = c.in_ok-push.ensures.items in
    let before : length xs ≡ length old + k = invariant.count in
    let counted = count_pushed xs ys x (length old + k) are before in
    record {
      count = omega arith;
      kept = kept_pushed no_term old xs ys x are (omega arith) invariant.kept;
      terms = each_pushed no_term (IsUseTerm c.args.uses.now) (length old) xs ys x k are before invariant.terms c.use_term.ensures.listed;
      lawful = each_pushed no_term (λ (j : ℕ) (t : Term). IsTermOf c.args.sizes.destinations c.args.sizes.columns c.args.sizes.limits t) (length old) xs ys x k are before invariant.lawful c.use_term.ensures.term;
    }
