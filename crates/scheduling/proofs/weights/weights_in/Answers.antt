-- One weight more.
use Rattle.std.proofs.Common.{◌≡◌, ◌∙◌, ap, List, [], ◌∷◌, ◌++◌, arith, subst}
use Rattle.std.specs.Prelude.{ℤ}
use Rattle.std.proofs.lemmas.Int.{ints, to_z-of_z}
use Rattle.std.specs.Int.{w64}
use mir.Val.{SFits}
use Rattle.schedule_model.specs.declared.term.Term.{Term}
use Rattle.schedule_model.specs.Problem.{term_at}
use Rattle.scheduling.specs.Limits.{IsWithinDistance, most_price}
use Rattle.scheduling.specs.Weights.{weight}
use Rattle.scheduling.proofs.Pushed.{count_pushed, each_pushed}
use Rattle.scheduling.proofs.weights.weights_in.Goals as goal

pub loop-k-preserved : goal.loop-k-preserved
loop-k-preserved c =
    let xs : List ℤ = c.loop-k.weights.items in
    let ys : List ℤ = c.push.new.self.items in
    let small = c.weight.ensures.small in
    let low = small.low in
    let high = small.high in
    let fits : SFits w64 c.weight.result = omega (arith, ints) in
    let are : ys ≡ xs ++ c.weight.result ∷ [] = c.in_ok-push.ensures.items ∙ ap (λ (x : ℤ). xs ++ x ∷ []) (to_z-of_z w64 c.weight.result fits) in
    record {
      count = count_pushed xs ys c.weight.result c.loop-k.k are c.loop-k.invariant.count;
      each = each_pushed (λ j x. x ≡ weight c.args.problem.now c.args.prices.now c.args.period (term_at c.args.problem.now j).effect (term_at c.args.problem.now j).lag) xs ys c.weight.result c.loop-k.k are c.loop-k.invariant.count c.loop-k.invariant.each (subst (λ (t : Term). c.weight.result ≡ weight c.args.problem.now c.args.prices.now c.args.period t.effect t.lag) c.term.ensures c.weight.ensures.weight);
      small = each_pushed (λ j x. IsWithinDistance most_price x) xs ys c.weight.result c.loop-k.k are c.loop-k.invariant.count c.loop-k.invariant.small c.weight.ensures.small;
    }
