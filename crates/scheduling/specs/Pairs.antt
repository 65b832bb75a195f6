-- The pairs of nodes, as they are listed: those of needed blocks period by period, and then those of each node with the next period's.
use Rattle.std.specs.Prelude.{◌≡◌, ℕ, ◌+◌, ◌-◌, ◌*◌, ◌<◌, List, length, get_or}
use Rattle.pit_model.specs.Graph.{first_of, second_of}
use Rattle.schedule_model.specs.Problem.{Problem}

abbrev pub pair_at : List (ℕ × ℕ) → ℕ → ℕ × ℕ
pair_at pairs k = get_or pairs k (0, 0)

-- the pairs of a list, of which both numbers are shifted, after earlier pairs
pub record AddsShifted (base : List (ℕ × ℕ)) (shift : ℕ) (before after : List (ℕ × ℕ)) : Type 0 where
  pub count : length after ≡ length before + length base
  pub kept : (i : ℕ) → i < length before → pair_at after i ≡ pair_at before i
  pub added : (k : ℕ) → k < length base → pair_at after (length before + k) ≡ (shift + first_of base k, shift + second_of base k)

-- the pairs of the first numbers, each with the one that is so many places after it, after earlier pairs
pub record AddsNext (count distance : ℕ) (before after : List (ℕ × ℕ)) : Type 0 where
  pub count_is : length after ≡ length before + count
  pub kept : (i : ℕ) → i < length before → pair_at after i ≡ pair_at before i
  pub added : (i : ℕ) → i < count → pair_at after (length before + i) ≡ (i, i + distance)

-- the pairs of needed blocks in the first periods
pub record AreNeededPairs (problem : Problem) (periods : ℕ) (pairs : List (ℕ × ℕ)) : Type 0 where
  pub count : length pairs ≡ periods * length problem.pairs
  pub each : (t k : ℕ) → t < periods → k < length problem.pairs
      → pair_at pairs (t * length problem.pairs + k) ≡ (t * problem.blocks + first_of problem.pairs k, t * problem.blocks + second_of problem.pairs k)

-- all pairs
pub record AreAllPairs (problem : Problem) (pairs : List (ℕ × ℕ)) : Type 0 where
  pub needed : List (ℕ × ℕ)
  pub needed_are : AreNeededPairs problem problem.periods needed
  pub next_are : AddsNext (problem.periods * problem.blocks - problem.blocks) problem.blocks needed pairs
