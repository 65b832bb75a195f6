-- The limits of a scheduling problem, in the order in which they are checked: its counts, and its numbers section by section.
use Rattle.std.specs.Prelude.{◌≡◌, ℕ, zero, suc, ◌+◌, ◌*◌, ◌^◌, ◌%◌, ◌<◌, ◌≤◌, ℤ, pos, neg_ℤ, ◌-ℤ◌, ◌≤ℤ◌, List, [], ◌∷◌, length, get_or}
use Rattle.pit_model.specs.Size.{most_blocks, most_pairs}
use Rattle.scheduling.specs.First.{IsFirstWithout}
use Rattle.scheduling.specs.Limits.{most_capacity, most_column, most_discount}
use Rattle.scheduling.specs.declared.parts.Sizes.{Sizes}
use Rattle.schedule_texts.specs.ProblemText.{Lists}
use Rattle.schedule_texts.specs.declared.problem.Counts.{Counts}
use Rattle.schedule_runs.specs.declared.broken_limit.Quantity.{Quantity}
use Rattle.schedule_runs.specs.declared.broken_limit.Quantity.TheVariants.{Blocks, Periods, Destinations, Columns, Limits, Terms, Nodes, Capacities}
use Rattle.schedule_runs.specs.declared.broken_limit.Section.{Section}
use Rattle.schedule_runs.specs.declared.broken_limit.Section.TheVariants as sections

abbrev pub number_at : List ℤ → ℕ → ℤ
number_at numbers i = get_or numbers i (pos 0)

-- the quantities in their order
abbrev pub quantities : List Quantity
quantities = Blocks ∷ Periods ∷ Destinations ∷ Columns ∷ Limits ∷ Terms ∷ Nodes ∷ Capacities ∷ []

abbrev pub quantity_at : ℕ → Quantity
quantity_at i = get_or quantities i Blocks

abbrev pub how_many : Counts → Quantity → ℕ
how_many c Blocks = c.blocks
how_many c Periods = c.periods
how_many c Destinations = c.destinations
how_many c Columns = c.columns
how_many c Limits = c.limits
how_many c Terms = c.values + c.uses
how_many c Nodes = c.periods * c.blocks
how_many c Capacities = c.limits * c.periods

abbrev pub fewest : Quantity → ℕ
fewest Periods = 1
fewest Destinations = 1
fewest _ = 0

abbrev pub greatest : Quantity → ℕ
greatest Blocks = most_blocks
greatest Periods = 2 ^ 16
greatest Destinations = 2 ^ 6
greatest Columns = 2 ^ 10
greatest Limits = 2 ^ 16
greatest Terms = 2 ^ 10
greatest Nodes = most_blocks
greatest Capacities = 2 ^ 16

-- there are lawfully many of a quantity
pub record IsLawfulCount (quantity : Quantity) (n : ℕ) : Type 0 where
  pub low : fewest quantity ≤ n
  pub high : n ≤ greatest quantity

abbrev pub HasLawful : Counts → ℕ → Type 0
HasLawful c i = IsLawfulCount (quantity_at i) (how_many c (quantity_at i))

abbrev pub AreLawfulCounts : Counts → Type 0
AreLawfulCounts c = (i : ℕ) → i < 8 → HasLawful c i

-- the first quantity of which there are too few or too many, and how many
pub record IsFirstUnlawful (c : Counts) (quantity : Quantity) (n : ℕ) : Type 0 where
  pub place : ℕ
  pub inside : place < 8
  pub is : quantity ≡ quantity_at place
  pub count : n ≡ how_many c quantity
  pub first : IsFirstWithout (HasLawful c) place

abbrev pub sizes_in : Counts → Sizes
sizes_in c = record { periods = c.periods; destinations = c.destinations; columns = c.columns; limits = c.limits }

-- the sections in the order of the text, and their numbers
abbrev pub sections_in_order : List Section
sections_in_order = sections.Discounts ∷ sections.Capacities ∷ sections.Values ∷ sections.Uses ∷ sections.Amounts ∷ []

abbrev pub section_at : ℕ → Section
section_at i = get_or sections_in_order i sections.Discounts

abbrev pub section_numbers : Lists → Section → List ℤ
section_numbers lists sections.Discounts = lists.discounts
section_numbers lists sections.Capacities = lists.capacities
section_numbers lists sections.Values = lists.values
section_numbers lists sections.Uses = lists.uses
section_numbers lists sections.Amounts = lists.amounts

-- the greatest number at a place of a line: of value (destination, column, lag), and of use (destination, limit, column, lag)
abbrev pub most_of_value : Sizes → ℕ → ℤ
most_of_value sizes zero = pos sizes.destinations -ℤ pos 1
most_of_value sizes (suc zero) = pos sizes.columns -ℤ pos 1
most_of_value sizes (suc (suc place)) = pos (2 ^ 16)

abbrev pub most_of_use : Sizes → ℕ → ℤ
most_of_use sizes zero = pos sizes.destinations -ℤ pos 1
most_of_use sizes (suc zero) = pos sizes.limits -ℤ pos 1
most_of_use sizes (suc (suc zero)) = pos sizes.columns -ℤ pos 1
most_of_use sizes (suc (suc (suc place))) = pos (2 ^ 16)

abbrev pub least_in : Section → ℤ
least_in sections.Discounts = neg_ℤ (pos most_discount)
least_in sections.Capacities = neg_ℤ (pos most_capacity)
least_in sections.Amounts = neg_ℤ (pos most_column)
least_in _ = pos 0

abbrev pub most_in : Sizes → Section → ℕ → ℤ
most_in sizes sections.Discounts i = pos most_discount
most_in sizes sections.Capacities i = pos most_capacity
most_in sizes sections.Values i = most_of_value sizes (i % 3)
most_in sizes sections.Uses i = most_of_use sizes (i % 4)
most_in sizes sections.Amounts i = pos most_column

-- number i of a section is within its range
pub record IsInRange (sizes : Sizes) (section : Section) (i : ℕ) (x : ℤ) : Type 0 where
  pub low : least_in section ≤ℤ x
  pub high : x ≤ℤ most_in sizes section i

abbrev pub AreInRangeOf : Sizes → Section → List ℤ → Type 0
AreInRangeOf sizes section numbers = (i : ℕ) → i < length numbers → IsInRange sizes section i (number_at numbers i)

abbrev pub AreLawfulNumbers : Lists → Type 0
AreLawfulNumbers lists = (k : ℕ) → k < 5 → AreInRangeOf (sizes_in lists.sizes) (section_at k) (section_numbers lists (section_at k))

-- the first number of a text that is out of its range
pub record IsFirstOutOfRange (lists : Lists) (section : Section) (i : ℕ) : Type 0 where
  pub place : ℕ
  pub inside : place < 5
  pub is : section ≡ section_at place
  pub before : (k : ℕ) → k < place → AreInRangeOf (sizes_in lists.sizes) (section_at k) (section_numbers lists (section_at k))
  pub listed : i < length (section_numbers lists section)
  pub first : IsFirstWithout (λ j. IsInRange (sizes_in lists.sizes) section j (number_at (section_numbers lists section) j)) i

-- all that a problem's own text says is within the limits
pub record AreLawful (lists : Lists) : Type 0 where
  pub counts : AreLawfulCounts lists.sizes
  pub numbers : AreLawfulNumbers lists

abbrev pub pairs_of_nodes : Lists → List (ℕ × ℕ) → ℕ
pairs_of_nodes lists pairs = lists.sizes.periods * (length pairs + lists.sizes.blocks)
