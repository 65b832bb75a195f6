-- A schedule of whole blocks keeps strict precedence. Two periods in which a block is mined would make up two blocks. By the end of the period in
-- which a block is mined, as much of each block that it needs is mined: more than nothing, so in one of these periods the whole of it.
use Rattle.std.proofs.Common.{◌≡◌, ℕ, zero, suc, ◌+◌, ◌<◌, ◌≤◌, List, length, sym, subst, ◌∙◌, arith, ⊎_elim}
use Rattle.std.specs.Prelude.{ℤ, pos, ◌+ℤ◌, ◌≤ℤ◌, ◌<ℤ◌, ◌⊎◌}
use Rattle.std.proofs.lemmas.Bool.{cases_lt}
use Rattle.std.proofs.lemmas.Int.{ints}
use Rattle.pit_model.specs.Sum.{total}
use Rattle.pit_model.specs.Graph.{AreInRange, first_of, second_of}
use Rattle.schedule_model.specs.Problem.{Problem}
use Rattle.schedule_model.specs.Schedule.{IsScheduleOf, mined, mined_in_first}
use Rattle.schedule_model.specs.WholeBlocks.{AreWholeBlocks, IsMinedIn, KeepsStrictOrder, WholeBlocksKeepOrder}
use Rattle.schedule_model.proofs.Bounded.{mined_least, total-upto}

-- one part, and two parts, of a sum of numbers that are not negative
part : (n a : ℕ) (f : ℕ → ℤ) → ((i : ℕ) → pos 0 ≤ℤ f i) → a < n → f a ≤ℤ total n f
part n a f least h =
    let before = total-upto 0 a f least (omega arith) in
    let after = total-upto (suc a) n f least h in
    omega (arith, ints)

two_parts : (n a b : ℕ) (f : ℕ → ℤ) → ((i : ℕ) → pos 0 ≤ℤ f i) → a < b → b < n → (f a +ℤ f b) ≤ℤ total n f
two_parts n a b f least h below =
    let one = part b a f least h in
    let after = total-upto (suc b) n f least below in
    omega (arith, ints)

-- if each part is 0 or w, and the sum is more than 0, then some part is w
some_part : (n : ℕ) (f : ℕ → ℤ) (w : ℤ) → ((i : ℕ) → i < n → (f i ≡ pos 0) ⊎ (f i ≡ w)) → pos 0 <ℤ total n f → (s : ℕ) × (s < n) × (f s ≡ w)
some_part zero f w each more = absurd (omega (arith, ints))
some_part (suc n) f w each more = ⊎_elim
    (λ (none : f n ≡ pos 0).
    let rest : pos 0 <ℤ total n f = omega (arith, ints) in
    let found = some_part n f w (λ i h. each i (omega arith)) rest in
    (found.0, omega (arith, found.1), found.2))
    (λ (all : f n ≡ w). (n, omega arith, all))
    (each n (omega arith))

module _ (problem : Problem) (whole : ℕ) (shares : List ℕ) (some : 0 < whole) (is : IsScheduleOf whole problem shares) where
  not_twice : (b s t : ℕ) → b < problem.blocks → t < problem.periods → s < t → IsMinedIn whole problem shares b s → IsMinedIn whole problem shares b t → ⊥
  not_twice b s t hb ht h x y =
      let both = two_parts problem.periods s t (λ u. mined problem shares b u) (λ u. mined_least problem shares b u) h ht in
      let once = is.once b hb in
      omega (arith, ints)

  once : (b s t : ℕ) → b < problem.blocks → s < problem.periods → t < problem.periods → IsMinedIn whole problem shares b s → IsMinedIn whole problem shares b t → s ≡ t
  once b s t hb hs ht x y = ⊎_elim
      (λ (l : s < t). absurd (not_twice b s t hb ht l x y))
      (λ (m : t ≤ s). ⊎_elim (λ (l : t < s). absurd (not_twice b t s hb hs l y x)) (λ (n : s ≤ t). let e : s ≡ t = omega arith in e) (cases_lt t s))
      (cases_lt s t)

  needed : AreInRange problem.pairs problem.blocks → AreWholeBlocks whole problem shares → (k t : ℕ) → k < length problem.pairs → t < problem.periods
      → IsMinedIn whole problem shares (first_of problem.pairs k) t → (s : ℕ) × (s ≤ t) × IsMinedIn whole problem shares (second_of problem.pairs k) s
  needed range each k t hk ht x =
      let p = second_of problem.pairs k in
      let hp : p < problem.blocks = (range k hk).1 in
      let own = part (suc t) t (λ u. mined problem shares (first_of problem.pairs k) u) (λ u. mined_least problem shares (first_of problem.pairs k) u) (omega arith) in
      let order = is.in_order k t hk ht in
      let more : pos 0 <ℤ total (suc t) (λ u. mined problem shares p u) = omega (arith, ints) in
      let found = some_part (suc t) (λ u. mined problem shares p u) (pos whole) (λ i h. each i (omega arith) p hp) more in
      (found.0, omega (arith, found.1), found.2)

pub whole_blocks_keep_order : WholeBlocksKeepOrder
whole_blocks_keep_order problem whole shares range some is each = record {
  once = once problem whole shares some is;
  in_order = needed problem whole shares some is range each;
}
