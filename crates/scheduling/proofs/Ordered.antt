-- The order of precedence, by what is mined of each block by the end of a period.
use Rattle.std.proofs.Common.{◌≡◌, ℕ, suc, ◌+◌, ◌<◌, ◌≤◌, List, length, get_or, ap, ◌∙◌, arith}
use Rattle.std.specs.Prelude.{pos}
use Rattle.std.proofs.lemmas.Int.{ints}
use Rattle.pit_model.specs.Graph.{AreInRange, first_of, second_of}
use Rattle.schedule_model.specs.Problem.{Problem}
use Rattle.schedule_model.specs.Schedule.{mined_in_first}
use Rattle.scheduling.specs.First.{IsFirstWithout}
use Rattle.scheduling.specs.Order.{AreMinedBy, AreMinedOnceBy, IsInOrderBy, IsPairInOrderBy}

module _ (problem : Problem) (shares : List ℕ) (t : ℕ) (by_now : List ℕ) (in_range : AreInRange problem.pairs problem.blocks) (are : AreMinedBy problem shares (t + 1) by_now) where
  by_end : (b : ℕ) → b < problem.blocks → pos (get_or by_now b 0) ≡ mined_in_first problem shares b (suc t)
  by_end b h = let e : t + 1 ≡ suc t = omega arith in are.each b h ∙ ap (λ n. mined_in_first problem shares b n) e

  pub once_by : AreMinedOnceBy problem shares t
  once_by b h =
      let e = by_end b h in
      let most = are.most b h in
      omega (arith, ints)

  pair_ordered : (k : ℕ) → k < length problem.pairs → get_or by_now (first_of problem.pairs k) 0 ≤ get_or by_now (second_of problem.pairs k) 0 → IsPairInOrderBy problem shares t k
  pair_ordered k h one =
      let first = by_end (first_of problem.pairs k) (in_range k h).0 in
      let second = by_end (second_of problem.pairs k) (in_range k h).1 in
      omega (arith, ints)

  pair_listed : (k : ℕ) → k < length problem.pairs → IsPairInOrderBy problem shares t k → get_or by_now (first_of problem.pairs k) 0 ≤ get_or by_now (second_of problem.pairs k) 0
  pair_listed k h one =
      let first = by_end (first_of problem.pairs k) (in_range k h).0 in
      let second = by_end (second_of problem.pairs k) (in_range k h).1 in
      omega (arith, ints)

  pub ordered : ((k : ℕ) → k < length problem.pairs → get_or by_now (first_of problem.pairs k) 0 ≤ get_or by_now (second_of problem.pairs k) 0) → IsInOrderBy problem shares t
  ordered each k h = pair_ordered k h (each k h)

  pub unordered : (k : ℕ) → k < length problem.pairs → IsFirstWithout (λ j. get_or by_now (first_of problem.pairs j) 0 ≤ get_or by_now (second_of problem.pairs j) 0) k
      → IsFirstWithout (IsPairInOrderBy problem shares t) k
  unordered k h first = record {
    broken = λ kept. first.broken (pair_listed k h kept);
    before = λ j lt. pair_ordered j (omega arith) (first.before j lt);
  }
