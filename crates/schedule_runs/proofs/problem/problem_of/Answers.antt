-- The problem is within the limits.
use Rattle.std.proofs.Common.{ap, refl}
use Rattle.scheduling.specs.declared.parts.Sizes.{Sizes}
use Rattle.schedule_model.specs.Problem.{Problem}
use Rattle.schedule_texts.specs.ProblemText.{Lists, lists}
use Rattle.schedule_runs.specs.ProblemRead.{IsProblemOf}
use Rattle.schedule_runs.proofs.Lawful.{bounded}
use Rattle.schedule_runs.proofs.problem.problem_of.Goals as goal

pub new-requires : goal.new-requires
new-requires c =
    let read = c.args.read in
    let sizes = c.args.sizes in
    let own : Lists = lists read.counts read.discounts.items read.capacities.items read.values.items read.uses.items read.amounts.items in
    let problem : Problem = record {
      blocks = c.args.graph.blocks;
      pairs = c.args.graph.pairs;
      periods = sizes.periods;
      destinations = sizes.destinations;
      columns = sizes.columns;
      amounts = read.amounts.items;
      terms = c.in_ok-terms.terms.items;
      discounts = read.discounts.items;
      limits = sizes.limits;
      capacities = read.capacities.items;
    } in
    let is : IsProblemOf own problem = record {
      blocks = c.requires.blocks;
      periods = ap (λ (z : Sizes). z.periods) c.requires.sizes;
      destinations = ap (λ (z : Sizes). z.destinations) c.requires.sizes;
      columns = ap (λ (z : Sizes). z.columns) c.requires.sizes;
      limits = ap (λ (z : Sizes). z.limits) c.requires.sizes;
      amounts = refl;
      discounts = refl;
      capacities = refl;
      terms = c.in_ok-terms.ensures.terms;
    } in
    bounded own c.requires.lawful problem is c.law.ensures.graph c.requires.few_pairs c.requires.discounts c.requires.capacities c.requires.amounts c.in_ok-terms.ensures.lawful
