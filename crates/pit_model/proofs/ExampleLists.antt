-- Short lists, element by element.
use Rattle.std.proofs.Common.{◌≡◌, ℕ, zero, suc, ◌<◌, ◌≤◌, refl, sym, ap, subst, arith, List, [], ◌∷◌, get_or}
use Rattle.std.specs.Prelude.{ℤ, pos, slice_index_or}
use Rattle.std.specs.List.{Contains}
use Rattle.pit_model.specs.declared.journal.Entry.{Entry}
use Rattle.pit_model.specs.declared.journal.Verdict.TheVariants.{Applied}
use Rattle.pit_model.specs.declared.shell.Shell.{Shell}
use Rattle.pit_model.specs.Fixed.{is_among}
use Rattle.pit_model.specs.JournalText.{most_seat}
use Rattle.pit_model.specs.Uniqueness.{plain}
use Rattle.pit_model.specs.ExampleTraces.{journal_entry}
use Rattle.pit_model.specs.ExampleLists.{ShortLists}
use Rattle.pit_model.proofs.ExampleFixed.{one_of}
use Rattle.pit_model.proofs.ExamplePits.{pits_of_two_blocks}

below_four : (x : ℕ) → x < 4 → (k d : ℕ) → k < 1 → slice_index_or (x ∷ []) k d < 4
below_four x l zero d h = l
below_four x l (suc k) d h = absurd (omega (arith, h))

seated : (k : ℕ) (d : Entry) → k < 1 → ((slice_index_or (journal_entry 64 2 Applied ∷ []) k d).seat ≤ most_seat) × ((slice_index_or (journal_entry 64 2 Applied ∷ []) k d).arc < 3)
seated zero d l = (omega arith, omega arith)
seated (suc k) d l = absurd (omega (arith, l))

-- the blocks of a shell that looks so
blocks_of : (shell : Shell) (factor : ℕ) (pit : List ℕ) (worth : ℤ) → plain shell ≡ (factor, pit, worth) → shell.pit.items ≡ pit
blocks_of shell factor pit worth is = ap (λ (p : ℕ × List ℕ × ℤ). p.1) is

one_within : (u : ℕ) → Contains (0 ∷ []) u → Contains (0 ∷ 1 ∷ []) u
one_within u (zero, l, is) = (0, omega arith, is)
one_within u (suc k, l, is) = absurd (omega (arith, l))

no_second : Contains {X = ℕ} (0 ∷ []) 1 → ⊥
no_second (zero, l, is) = omega (arith, is)
no_second (suc k, l, is) = omega (arith, l)

pub short_lists : ShortLists
short_lists = record {
  pit = record { set = is_among (0 ∷ 1 ∷ []); listed = refl; is_pit = pits_of_two_blocks.greatest };
  pairs_of_one_block = λ k l less below same.
      let first : k ≡ 0 = omega (arith, less, below) in
      let second : l ≡ 1 = omega (arith, less, below) in
      let pairs : List (ℕ × ℕ) = (0, 1) ∷ (0, 2) ∷ [] in
      let here : get_or pairs 0 (0, 0) ≡ get_or pairs 1 (0, 0) = subst (λ i. get_or pairs 0 (0, 0) ≡ get_or pairs i (0, 0)) second (subst (λ i. get_or pairs i (0, 0) ≡ get_or pairs l (0, 0)) first same) in
      let e : 1 ≡ 2 = ap (λ (p : ℕ × ℕ). p.1) here in
      omega (arith, e);
  not_twice = λ are. are 0 1 (omega arith) (omega arith) refl;
  fixable = record {
    forced_below = below_four 3 (omega arith);
    barred_below = below_four 1 (omega arith);
    forced_rising = λ k l. absurd (omega (arith, l));
    barred_rising = λ k l. absurd (omega (arith, l));
    apart = λ u forced barred. omega (arith, one_of 3 u forced, one_of 1 u barred);
  };
  not_both = λ are. are.apart 3 refl refl;
  seated = seated;
  no_arc_past_the_last = λ are. omega (arith, (are 0 (journal_entry 0 0 Applied) (omega arith)).1);
  no_seat_past_the_last = λ are. omega (arith, (are 0 (journal_entry 0 0 Applied) (omega arith)).0);
  within = λ inner outer a b u has.
      subst (λ xs. Contains xs u) (sym (blocks_of outer 1000 (0 ∷ 1 ∷ []) (pos 0) b)) (one_within u (subst (λ xs. Contains xs u) (blocks_of inner 400 (0 ∷ []) (pos 0) a) has));
  not_without = λ inner outer a b within.
      no_second (subst (λ xs. Contains xs 1) (blocks_of inner 400 (0 ∷ []) (pos 0) a)
      (within 1 (subst (λ xs. Contains xs 1) (sym (blocks_of outer 1000 (0 ∷ 1 ∷ []) (pos 0) b)) (1, omega arith, refl))));
}
