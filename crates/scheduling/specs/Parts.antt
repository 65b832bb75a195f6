-- A scheduling problem of its parts.
use Rattle.pit_model.specs.Graph.{Graph}
use Rattle.schedule_model.specs.Problem.{Problem}
use Rattle.scheduling.specs.declared.parts.Sizes.{Sizes}
use Rattle.scheduling.specs.declared.parts.Numbers.{Numbers}

abbrev pub problem_of : Graph → Sizes → Numbers → Problem
problem_of graph sizes numbers = record {
  blocks = graph.blocks;
  pairs = graph.pairs;
  periods = sizes.periods;
  destinations = sizes.destinations;
  columns = sizes.columns;
  amounts = numbers.amounts.items;
  terms = numbers.terms.items;
  discounts = numbers.discounts.items;
  limits = sizes.limits;
  capacities = numbers.capacities.items;
}
