-- The scheduling problem that two texts spell: its own text, and that of its precedence.
use Rattle.std.specs.Prelude.{◌≡◌, ℕ, ◌+◌, ◌*◌, ◌<◌, ◌≤◌, ℤ, pos, List, length, get_or, Ok}
use Rattle.pit_model.specs.Graph.{AreSamePairs, IsGraph}
use Rattle.pit_model.specs.Size.{most_pairs}
use Rattle.minelib_reader.specs.PrecGrammar.{SpellsPrec}
use Rattle.schedule_model.specs.declared.term.Term.{Term}
use Rattle.schedule_model.specs.declared.term.Effect.TheVariants.{Value, Use}
use Rattle.schedule_model.specs.Problem.{Problem, no_term}
use Rattle.schedule_texts.specs.ProblemText.{Lists, lists_in}
use Rattle.schedule_runs.specs.Limited.{AreLawful, number_at, pairs_of_nodes}

-- term k of value, as it is listed
pub record IsValueTerm (values : List ℤ) (k : ℕ) (term : Term) : Type 0 where
  pub destination : number_at values (3 * k) ≡ pos term.destination
  pub column : number_at values (3 * k + 1) ≡ pos term.column
  pub lag : number_at values (3 * k + 2) ≡ pos term.lag
  pub effect : term.effect ≡ Value

-- term k of use, as it is listed
pub record IsUseTerm (uses : List ℤ) (k : ℕ) (term : Term) : Type 0 where
  pub limit : ℕ
  pub destination : number_at uses (4 * k) ≡ pos term.destination
  pub limit_is : number_at uses (4 * k + 1) ≡ pos limit
  pub column : number_at uses (4 * k + 2) ≡ pos term.column
  pub lag : number_at uses (4 * k + 3) ≡ pos term.lag
  pub effect : term.effect ≡ Use limit

-- the terms of value, and behind them those of use
pub record AreTerms (lists : Lists) (terms : List Term) : Type 0 where
  pub count : length terms ≡ lists.sizes.values + lists.sizes.uses
  pub values : (k : ℕ) → k < lists.sizes.values → IsValueTerm lists.values k (get_or terms k no_term)
  pub uses : (k : ℕ) → k < lists.sizes.uses → IsUseTerm lists.uses k (get_or terms (lists.sizes.values + k) no_term)

-- a text spells arcs without a cycle, which in their order are these pairs
pub record SpellsGraph (n : ℕ) (text : List ℕ) (pairs : List (ℕ × ℕ)) : Type 0 where
  pub arcs : List (ℕ × ℕ)
  pub spelled : SpellsPrec n text arcs
  pub same : AreSamePairs arcs pairs
  pub graph : IsGraph n pairs

-- the problem of lists
pub record IsProblemOf (lists : Lists) (problem : Problem) : Type 0 where
  pub blocks : problem.blocks ≡ lists.sizes.blocks
  pub periods : problem.periods ≡ lists.sizes.periods
  pub destinations : problem.destinations ≡ lists.sizes.destinations
  pub columns : problem.columns ≡ lists.sizes.columns
  pub limits : problem.limits ≡ lists.sizes.limits
  pub amounts : problem.amounts ≡ lists.amounts
  pub discounts : problem.discounts ≡ lists.discounts
  pub capacities : problem.capacities ≡ lists.capacities
  pub terms : AreTerms lists problem.terms

-- the two texts spell this problem, within the limits
pub record SpellsProblem (text precedence : List ℕ) (problem : Problem) : Type 0 where
  pub lists : Lists
  pub read : lists_in text ≡ Ok lists
  pub lawful : AreLawful lists
  pub graph : SpellsGraph lists.sizes.blocks precedence problem.pairs
  pub few_pairs : pairs_of_nodes lists problem.pairs ≤ most_pairs
  pub is : IsProblemOf lists problem
