-- Limits and refuted schedules compute.
use Rattle.std.proofs.Common.{◌≡◌, ◌↔◌, ℕ, zero, suc, ◌<◌, ◌≤◌, List, [], ◌∷◌, true, T, leb, leb→le, refl, arith, subst, ⊎_elim}
use Rattle.std.specs.Prelude.{ℤ, pos, ◌≤ℤ◌, int_le}
use Rattle.std.proofs.lemmas.Bool.{cases_lt}
use Rattle.std.specs.Fmt.{digits}
use Rattle.std.proofs.lemmas.Int.{ints}
use Rattle.pit_model.specs.PitText.{with_decimals}
use Rattle.schedule_model.specs.Schedule.{mined_in_first, whole_block}
use Rattle.schedule_model.specs.ExampleSchedules.{none, shares_of, to_dump, to_mill}
use Rattle.scheduling.specs.Order.{AreMinedOnceBy, IsInOrderBefore, IsInOrderBy, IsMinedOnceBy, IsPairInOrderBy}
use Rattle.schedule_texts.specs.ProblemText.{counts}
use Rattle.schedule_texts.specs.declared.problem.Counts.{Counts}
use Rattle.schedule_runs.specs.ExampleRefusals.{LimitsOfProblems, RefutedSchedules, example_sizes, some_ore, two_out_of_range}
use Rattle.schedule_runs.specs.ExampleAnswer.{example_problem}
use Rattle.schedule_runs.specs.Limited.{AreInRangeOf, HasLawful, IsInRange, IsLawfulCount, fewest, greatest, how_many, least_in, most_in, number_at, quantity_at, section_at, section_numbers, sizes_in}
use Rattle.schedule_runs.specs.Refusals.{StaysWhole}
use Rattle.schedule_runs.specs.SharesRead.{IsLawfulShare}
use Rattle.schedule_runs.specs.declared.broken_limit.Quantity.{Quantity}
use Rattle.schedule_runs.specs.declared.broken_limit.Quantity.TheVariants.{Blocks, Periods, Destinations, Columns, Limits, Terms, Nodes, Capacities}
use Rattle.schedule_runs.specs.declared.broken_limit.Section.{Section}
use Rattle.schedule_runs.specs.declared.broken_limit.Section.TheVariants as sections
use Rattle.schedule_runs.specs.Verdicts.{verdict_text}

le : (x y : ℤ) → int_le x y ≡ true → x ≤ℤ y
le x y e = omega (arith, ints, e)

-- what is lawful of a quantity, and of a number, read from both sides
of_quantity : (quantity : Quantity) (n : ℕ) → IsLawfulCount quantity n ↔ ((fewest quantity ≤ n) × (n ≤ greatest quantity))
of_quantity quantity n = (λ c. (c.low, c.high), λ p. record { low = p.0; high = p.1 })

of_number : (section : Section) (i : ℕ) (x : ℤ) → IsInRange example_sizes section i x ↔ ((least_in section ≤ℤ x) × (x ≤ℤ most_in example_sizes section i))
of_number section i x = (λ c. (c.low, c.high), λ p. record { low = p.0; high = p.1 })

lawful_at : (c : Counts) (i : ℕ) → T (leb (fewest (quantity_at i)) (how_many c (quantity_at i))) → T (leb (how_many c (quantity_at i)) (greatest (quantity_at i))) → HasLawful c i
lawful_at c i a b = record { low = leb→le _ _ a; high = leb→le _ _ b }

before_one : (P : ℕ → Type 0) → P 0 → (i : ℕ) → i < 1 → P i
before_one P a zero h = a
before_one P a (suc i) h = absurd (omega arith)

before_next : (P : ℕ → Type 0) (n : ℕ) → ((i : ℕ) → i < n → P i) → P n → (i : ℕ) → i < suc n → P i
before_next P n below here i h = ⊎_elim (λ (l : i < n). below i l) (λ (l : n ≤ i). let e : n ≡ i = omega arith in subst P e here) (cases_lt i n)

terms_before : (i : ℕ) → i < 5 → HasLawful (counts 1 1 1 0 0 1000 25) i
terms_before =
    let c = counts 1 1 1 0 0 1000 25 in
    before_next (HasLawful c) 4 (before_next (HasLawful c) 3 (before_next (HasLawful c) 2 (before_next (HasLawful c) 1 (before_one (HasLawful c)
    (lawful_at c 0 tt tt)) (lawful_at c 1 tt tt)) (lawful_at c 2 tt tt)) (lawful_at c 3 tt tt)) (lawful_at c 4 tt tt)

nodes_before : (i : ℕ) → i < 6 → HasLawful (counts 65 65536 1 0 2 0 0) i
nodes_before =
    let c = counts 65 65536 1 0 2 0 0 in
    before_next (HasLawful c) 5 (before_next (HasLawful c) 4 (before_next (HasLawful c) 3 (before_next (HasLawful c) 2 (before_next (HasLawful c) 1 (before_one (HasLawful c)
    (lawful_at c 0 tt tt)) (lawful_at c 1 tt tt)) (lawful_at c 2 tt tt)) (lawful_at c 3 tt tt)) (lawful_at c 4 tt tt)) (lawful_at c 5 tt tt)

capacities_before : (i : ℕ) → i < 7 → HasLawful (counts 1 65536 1 0 2 0 0) i
capacities_before =
    let c = counts 1 65536 1 0 2 0 0 in
    before_next (HasLawful c) 6 (before_next (HasLawful c) 5 (before_next (HasLawful c) 4 (before_next (HasLawful c) 3 (before_next (HasLawful c) 2 (before_next (HasLawful c) 1 (before_one (HasLawful c)
    (lawful_at c 0 tt tt)) (lawful_at c 1 tt tt)) (lawful_at c 2 tt tt)) (lawful_at c 3 tt tt)) (lawful_at c 4 tt tt)) (lawful_at c 5 tt tt)) (lawful_at c 6 tt tt)

-- the sections before the uses have no number
sections_before : (k : ℕ) → k < 3 → AreInRangeOf (sizes_in two_out_of_range.sizes) (section_at k) (section_numbers two_out_of_range (section_at k))
sections_before =
    let InRange : ℕ → Type 0 = λ k. AreInRangeOf (sizes_in two_out_of_range.sizes) (section_at k) (section_numbers two_out_of_range (section_at k)) in
    before_next InRange 2 (before_next InRange 1 (before_one InRange (λ i h. absurd (omega arith))) (λ i h. absurd (omega arith))) (λ i h. absurd (omega arith))

pub limits_of_problems : LimitsOfProblems
limits_of_problems = record {
  blocks = of_quantity Blocks;
  periods = of_quantity Periods;
  destinations = of_quantity Destinations;
  columns = of_quantity Columns;
  limits = of_quantity Limits;
  terms = of_quantity Terms;
  nodes = of_quantity Nodes;
  capacities = of_quantity Capacities;
  periods_first = record {
    place = 1;
    inside = omega arith;
    is = refl;
    count = refl;
    first = record {
      broken = λ c. let z : 1 ≤ 0 = c.low in omega arith;
      before = before_one (HasLawful (counts 1 0 65 0 0 0 0)) (lawful_at (counts 1 0 65 0 0 0 0) 0 tt tt);
    };
  };
  too_many_terms = record {
    place = 5;
    inside = omega arith;
    is = refl;
    count = refl;
    first = record { broken = λ c. let z : 1025 ≤ 1024 = c.high in omega arith; before = terms_before };
  };
  too_many_nodes = record {
    place = 6;
    inside = omega arith;
    is = refl;
    count = refl;
    first = record { broken = λ c. let z : 4259840 ≤ 4194304 = c.high in omega arith; before = nodes_before };
  };
  too_many_capacities = record {
    place = 7;
    inside = omega arith;
    is = refl;
    count = refl;
    first = record { broken = λ c. let z : 131072 ≤ 65536 = c.high in omega arith; before = capacities_before };
  };
  discount = of_number sections.Discounts 1;
  capacity = of_number sections.Capacities 1;
  amount = of_number sections.Amounts 1;
  destination_of_value = of_number sections.Values 3;
  column_of_value = of_number sections.Values 4;
  lag_of_value = of_number sections.Values 5;
  destination_of_use = of_number sections.Uses 4;
  limit_of_use = of_number sections.Uses 5;
  column_of_use = of_number sections.Uses 6;
  lag_of_use = of_number sections.Uses 7;
  use_first = record {
    place = 3;
    inside = omega arith;
    is = refl;
    before = sections_before;
    listed = omega arith;
    first = record {
      broken = λ r. let z : pos 2 ≤ℤ pos 1 = r.high in omega (arith, ints, z);
      before = before_one (λ j. IsInRange (sizes_in two_out_of_range.sizes) sections.Uses j (number_at two_out_of_range.uses j)) (record { low = le _ _ refl; high = le _ _ refl });
    };
  };
  pairs = refl;
  price = λ x. (λ p. (p.least, p.most), λ p. record { least = p.0; most = p.1 });
}

-- what is mined by the end of a period, of both blocks
once_by : (shares : List ℕ) (t : ℕ) → int_le (mined_in_first example_problem shares 0 (suc t)) (pos whole_block) ≡ true
    → int_le (mined_in_first example_problem shares 1 (suc t)) (pos whole_block) ≡ true → AreMinedOnceBy example_problem shares t
once_by shares t a b = before_next (IsMinedOnceBy example_problem shares t) 1 (before_one (IsMinedOnceBy example_problem shares t) (le _ _ a)) (le _ _ b)

order_by : (shares : List ℕ) (t : ℕ) → int_le (mined_in_first example_problem shares 1 (suc t)) (mined_in_first example_problem shares 0 (suc t)) ≡ true → IsInOrderBy example_problem shares t
order_by shares t a = before_one (IsPairInOrderBy example_problem shares t) (le _ _ a)

before_last : (shares : List ℕ) → AreMinedOnceBy example_problem shares 0 → IsInOrderBy example_problem shares 0 → IsInOrderBefore example_problem shares 1
before_last shares once order = record { once = before_one (AreMinedOnceBy example_problem shares) once; in_order = before_one (IsInOrderBy example_problem shares) order }

pub refuted_schedules : RefutedSchedules
unfolding verdict_text with_decimals digits
refuted_schedules =
    let twice = shares_of (to_dump 600000) none (to_dump 400001) none in
    let ahead = shares_of (to_dump 500000) (to_mill 500000) none (to_mill 1) in
    let much = shares_of (to_dump 1000000) (to_mill 1) none none in
    record {
      more_than_once = (
        omega arith,
        omega arith,
        before_last twice (once_by twice 0 refl refl) (order_by twice 0 refl),
        record {
          broken = λ h. let z : pos 1000001 ≤ℤ pos 1000000 = h in omega (arith, ints, z);
          before = λ i l. absurd (omega arith);
        },
      );
      before_needed = (
        0,
        omega arith,
        refl,
        refl,
        omega arith,
        before_last ahead (once_by ahead 0 refl refl) (order_by ahead 0 refl),
        once_by ahead 1 refl refl,
        record {
          broken = λ h. let z : pos 500001 ≤ℤ pos 500000 = h in omega (arith, ints, z);
          before = λ i l. absurd (omega arith);
        },
      );
      over_limit = (
        omega arith,
        omega arith,
        refl,
        record {
          once = before_next (λ b. mined_in_first example_problem much b 2 ≤ℤ pos whole_block) 1 (before_one (λ b. mined_in_first example_problem much b 2 ≤ℤ pos whole_block) (le _ _ refl)) (le _ _ refl);
          in_order = before_next (IsInOrderBy example_problem much) 1 (before_one (IsInOrderBy example_problem much) (order_by much 0 refl)) (order_by much 1 refl);
        },
        λ r s l h. absurd (omega arith),
        record {
          broken = λ h. let z : pos 1000001000000 ≤ℤ pos 1000000000000 = h in omega (arith, ints, z);
          before = λ i l. absurd (omega arith);
        },
      );
      of_no_block = (
        omega arith,
        record {
          broken = λ s. let e : pos 2 ≡ pos s.share.block = s.listed.block in let l : s.share.block < 2 = s.lawful.block in omega (arith, ints, e);
          before = λ i l.
              before_one (IsLawfulShare example_problem (pos 1 ∷ pos 1 ∷ pos 2 ∷ pos 1000000 ∷ pos 2 ∷ pos 0 ∷ pos 0 ∷ pos 1 ∷ []))
              (record {
                share = record { block = 1; period = 1; destination = 2; amount = 1000000 };
                listed = record { block = refl; period = refl; destination = refl; amount = refl };
                lawful = record { block = omega arith; period = omega arith; destination = omega arith; most = leb→le _ _ tt };
              }) i l;
        },
      );
      twice_too_much = (
        omega arith,
        record {
          broken = λ h. let z : pos 1200000 ≤ℤ pos 1000000 = h in omega (arith, ints, z);
          before = before_one (StaysWhole example_problem (some_ore ∷ some_ore ∷ [])) (le _ _ refl);
        },
      );
      twice_text = refl;
      before_text = refl;
      over_text = refl;
      whole_text = refl;
    }
