-- A problem of lists that are within the limits is within them.
use Rattle.std.proofs.Common.{◌≡◌, ℕ, ◌+◌, ◌*◌, ◌^◌, ◌<◌, ◌≤◌, List, length, get_or, sym, ap, ◌∙◌, subst, arith}
use Rattle.std.specs.Prelude.{ℤ, pos}
use Rattle.pit_model.specs.Graph.{IsGraph}
use Rattle.pit_model.specs.Size.{most_blocks, most_pairs}
use Rattle.schedule_model.specs.Problem.{Problem, term_at}
use Rattle.scheduling.specs.Limits.{AreWithinDistance, IsBoundedProblem, IsTerm, most_capacity, most_column, most_discount}
use Rattle.schedule_texts.specs.ProblemText.{Lists}
use Rattle.schedule_runs.specs.Limited.{AreLawful}
use Rattle.schedule_runs.specs.ProblemRead.{IsProblemOf}

module _ (lists : Lists) (lawful : AreLawful lists) where
  amounts_within : AreWithinDistance most_column lists.amounts
  amounts_within i h = let r = lawful.numbers 4 (omega arith) i h in record { low = r.low; high = r.high }

  discounts_within : AreWithinDistance most_discount lists.discounts
  discounts_within i h = let r = lawful.numbers 0 (omega arith) i h in record { low = r.low; high = r.high }

  capacities_within : AreWithinDistance most_capacity lists.capacities
  capacities_within i h = let r = lawful.numbers 1 (omega arith) i h in record { low = r.low; high = r.high }

  module _ (problem : Problem) (is : IsProblemOf lists problem) where
    nodes_are : problem.periods * problem.blocks ≡ lists.sizes.periods * lists.sizes.blocks
    nodes_are = let a = is.periods in let b = is.blocks in cc

    capacities_are : problem.limits * problem.periods ≡ lists.sizes.limits * lists.sizes.periods
    capacities_are = let a = is.periods in let b = is.limits in cc

    amounts_are : problem.blocks * problem.columns ≡ lists.sizes.blocks * lists.sizes.columns
    amounts_are = let a = is.blocks in let b = is.columns in cc

    pub bounded : IsGraph problem.blocks problem.pairs → problem.periods * (length problem.pairs + problem.blocks) ≤ most_pairs
        → length lists.discounts ≡ lists.sizes.periods → length lists.capacities ≡ lists.sizes.limits * lists.sizes.periods → length lists.amounts ≡ lists.sizes.blocks * lists.sizes.columns
        → ((k : ℕ) → k < length problem.terms → IsTerm problem (term_at problem k)) → IsBoundedProblem problem
    bounded graph pairs discounts capacities amounts terms =
        let blocks = (lawful.counts 0 (omega arith)).high in
        let periods = lawful.counts 1 (omega arith) in
        let periods_low = periods.low in
        let periods_high = periods.high in
        let destinations = lawful.counts 2 (omega arith) in
        let destinations_low = destinations.low in
        let destinations_high = destinations.high in
        let columns = (lawful.counts 3 (omega arith)).high in
        let limits = (lawful.counts 4 (omega arith)).high in
        let few = (lawful.counts 5 (omega arith)).high in
        let nodes = (lawful.counts 6 (omega arith)).high in
        let all = (lawful.counts 7 (omega arith)).high in
        let same_blocks = is.blocks in
        let same_periods = is.periods in
        let same_destinations = is.destinations in
        let same_columns = is.columns in
        let same_limits = is.limits in
        let count = is.terms.count in
        let same_nodes = nodes_are in
        let same_capacities = capacities_are in
        record {
          graph = graph;
          few_blocks = omega arith;
          few_nodes = omega arith;
          few_pairs = pairs;
          some_periods = omega arith;
          few_periods = omega arith;
          some_destinations = omega arith;
          few_destinations = omega arith;
          few_columns = omega arith;
          few_limits = omega arith;
          few_capacities = omega arith;
          few_terms = omega arith;
          amount_count = ap (λ (xs : List ℤ). length xs) is.amounts ∙ amounts ∙ sym amounts_are;
          discount_count = ap (λ (xs : List ℤ). length xs) is.discounts ∙ discounts ∙ sym is.periods;
          capacity_count = ap (λ (xs : List ℤ). length xs) is.capacities ∙ capacities ∙ sym capacities_are;
          terms = terms;
          amounts = subst (AreWithinDistance most_column) (sym is.amounts) amounts_within;
          discounts = subst (AreWithinDistance most_discount) (sym is.discounts) discounts_within;
          capacities = subst (AreWithinDistance most_capacity) (sym is.capacities) capacities_within;
        }
