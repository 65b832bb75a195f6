-- The pits of small mines: each is shown by a flow, whose conditions compute.
use Rattle.std.proofs.Common.{◌≡◌, ℕ, zero, suc, ◌<◌, ◌⊎◌, Bool, true, false, refl, sym, subst, ◌-◌, arith, inl, inr, get_or, [], ◌∷◌}
use Rattle.std.specs.Prelude.{pos, ◌+ℤ◌, ◌-ℤ◌, ◌≤ℤ◌, ◌<ℤ◌}
use Rattle.std.proofs.lemmas.Int.{ints}
use Rattle.std.proofs.lemmas.Bool.{false≢true}
use Rattle.pit_model.specs.Sum.{when}
use Rattle.pit_model.specs.Mine.{Instance, instance_of, source, target, value}
use Rattle.pit_model.specs.Certificate.{IsReached}
use Rattle.pit_model.specs.Fixed.{is_among}
use Rattle.pit_model.specs.Fixed.IsRestOf.{all_open}
use Rattle.pit_model.specs.ExampleMines.{cut_fork, two_blocks}
use Rattle.pit_model.specs.ExamplePits.{CertificatesOfSmallMines, PitsOfTwoBlocks, amounts, loss}
use Rattle.pit_model.proofs.Duality.{certificate_gives_pit}
use Rattle.pit_model.proofs.Pits.{closed_extreme, free, nothing_fixed}
use Rattle.pit_model.proofs.Tested.{certified, closed_at, each_below, implied, in_range}

-- blocks 1 and 2 of the fork, of which 1 has an excess
fork_reached : (second : ℕ) → (u : ℕ) → u < 4 → is_among (1 ∷ 2 ∷ []) u ≡ true → (steps : ℕ) × IsReached cut_fork (is_among (1 ∷ 2 ∷ [])) (amounts (pos 0 ∷ pos (suc second) ∷ pos 5 ∷ [])) u steps
fork_reached second zero l h = absurd (false≢true h)
fork_reached second (suc zero) l h = (0, (refl, omega (arith, ints)))
fork_reached second (suc (suc zero)) l h = (1, (refl, (1, omega arith, (refl, omega (arith, ints)), (2, omega arith, inr (refl, refl, omega (arith, ints))))))
fork_reached second (suc (suc (suc zero))) l h = absurd (false≢true h)
fork_reached second (suc (suc (suc (suc u)))) l h = absurd (omega arith)

-- both blocks, of which the second has an excess and needs the first
two_reached : (u : ℕ) → u < 2 → is_among (0 ∷ 1 ∷ []) u ≡ true → (steps : ℕ) × IsReached (two_blocks (loss 3) (pos 5)) (is_among (0 ∷ 1 ∷ [])) (amounts (pos 3 ∷ [])) u steps
two_reached zero l h = (1, (refl, (1, omega arith, (refl, omega (arith, ints)), (0, omega arith, inl (refl, refl)))))
two_reached (suc zero) l h = (0, (refl, omega (arith, ints)))
two_reached (suc (suc u)) l h = absurd (omega arith)

-- no closed set of two blocks that break even is worth more than 0
even_worth : (a b : Bool) → (b ≡ true → a ≡ true) → (pos 0 +ℤ when a (loss 5) +ℤ when b (pos 5)) ≤ℤ pos 0
even_worth true true h = omega (arith, ints)
even_worth true false h = omega (arith, ints)
even_worth false true h = absurd (false≢true (h refl))
even_worth false false h = omega (arith, ints)

both_in : (u : ℕ) → u < 2 → is_among (0 ∷ 1 ∷ []) u ≡ true
both_in zero l = refl
both_in (suc zero) l = refl
both_in (suc (suc u)) l = absurd (omega arith)

-- the dual of the two blocks that break even
abbrev transposed_back : Instance
transposed_back = instance_of 2 (pos 5 ∷ loss 5 ∷ []) ((0, 1) ∷ [])

one_pair : (k : ℕ) → k < 1 → (l : ℕ) × (l < 1) × (get_or transposed_back.pairs l (0, 0) ≡ get_or transposed_back.pairs k (0, 0))
one_pair zero l = (0, omega arith, refl)
one_pair (suc k) l = absurd (omega arith)

both_signs : (u : ℕ) → u < 2 → value transposed_back u ≡ pos 0 -ℤ value (two_blocks (loss 5) (pos 5)) u
both_signs zero l = refl
both_signs (suc zero) l = refl
both_signs (suc (suc u)) l = absurd (omega arith)

pub pits_of_two_blocks : PitsOfTwoBlocks
pits_of_two_blocks =
    let even = two_blocks (loss 5) (pos 5) in
    let both = is_among (0 ∷ 1 ∷ []) in
    let closed : (k : ℕ) → k < 1 → both (source even k) ≡ true → both (target even k) ≡ true =
    λ k l h. implied (both (source even k)) (both (target even k)) (each_below 1 (closed_at even both) refl k l) h in
    record {
      pays = certificate_gives_pit (two_blocks (loss 3) (pos 5)) both (amounts (pos 3 ∷ [])) (in_range (two_blocks (loss 3) (pos 5)) refl)
          (certified (two_blocks (loss 3) (pos 5)) both (amounts (pos 3 ∷ [])) refl refl refl refl refl two_reached);
      worth_is = refl;
      breaks_even = certificate_gives_pit even (is_among []) (amounts (pos 5 ∷ [])) (in_range even refl)
          (certified even (is_among []) (amounts (pos 5 ∷ [])) refl refl refl refl refl (λ u l h. absurd (false≢true h)));
      not_both = λ pit. absurd (false≢true (closed_extreme pit (is_among []) (λ k l h. absurd (false≢true h)) refl 0 (omega arith) refl));
      not_alone = λ alone. absurd (false≢true (alone 0 (omega arith) refl));
      waste_alone = λ k l h. implied _ _ (each_below 1 (closed_at even (is_among (0 ∷ []))) refl k l) h;
      greatest = record {
        allowed = free even both closed;
        best = λ other ok. even_worth (other 0) (other 1) (ok.closed 0 (omega arith));
        extreme = λ other ok equal u l h. both_in u l;
      };
      not_nothing = λ pit. absurd (false≢true (closed_extreme pit both closed refl 0 (omega arith) refl));
      searched = (
        even,
        all_open nothing_fixed refl,
        record {
          reversed = record { same_blocks = refl; pairs_are = record { count = refl; forth = one_pair; back = one_pair } };
          counted = refl;
          negated = both_signs;
        },
        record {
          in_range = λ k l. let e : k ≡ 0 = omega arith in subst (λ i. (source transposed_back i < 2) × (target transposed_back i < 2)) (sym e) (omega arith, omega arith);
          rising = λ k l less inside. absurd (omega arith);
          acyclic = (λ u. 1 - u, λ k l. let e : k ≡ 0 = omega arith in subst (λ i. (1 - target transposed_back i) < (1 - source transposed_back i)) (sym e) (omega arith));
        },
      );
    }

-- with nothing left over no step leads anywhere
none_above : (steps u : ℕ) → u < 2 → IsReached (two_blocks (loss 5) (pos 5)) (is_among (0 ∷ 1 ∷ [])) (amounts (pos 5 ∷ [])) u steps → ⊥
none_above zero zero l h = let above = h.1 in omega (arith, ints)
none_above zero (suc zero) l h = let above = h.1 in omega (arith, ints)
none_above zero (suc (suc u)) l h = omega arith
none_above (suc steps) u l h = none_above steps h.1.0 h.1.1 h.1.2

no_way_back : (k : ℕ) → k < 3 → ((source cut_fork k ≡ 1) × (target cut_fork k ≡ 2)) ⊎ ((source cut_fork k ≡ 2) × (target cut_fork k ≡ 1) × (pos 0 <ℤ amounts (pos 0 ∷ pos 1 ∷ pos 0 ∷ []) k)) → ⊥
no_way_back zero l (inl way) = let e = way.0 in omega arith
no_way_back zero l (inr way) = let e = way.0 in omega arith
no_way_back (suc zero) l (inl way) = let e = way.0 in omega arith
no_way_back (suc zero) l (inr way) = let e = way.0 in omega arith
no_way_back (suc (suc zero)) l (inl way) = let e = way.0 in omega arith
no_way_back (suc (suc zero)) l (inr way) = let above = way.2 in omega (arith, ints)
no_way_back (suc (suc (suc k))) l way = omega arith

pub certificates_of_small_mines : CertificatesOfSmallMines
certificates_of_small_mines =
    let pit = is_among (1 ∷ 2 ∷ []) in
    record {
      shows = record {
        set = pit;
        listed = refl;
        counted = refl;
        certifies = certified cut_fork pit (amounts (pos 0 ∷ pos 1 ∷ pos 5 ∷ [])) refl refl refl refl refl (fork_reached 0);
      };
      shows_too = record {
        set = pit;
        listed = refl;
        counted = refl;
        certifies = certified cut_fork pit (amounts (pos 0 ∷ pos 2 ∷ pos 5 ∷ [])) refl refl refl refl refl (fork_reached 1);
      };
      not_lacking = λ c. let h : pos 0 ≤ℤ loss 1 = c.inside 2 (omega arith) refl in omega (arith, ints);
      not_entering = λ c. let h : pos 1 ≡ pos 0 = c.none_enters 0 (omega arith) refl (λ e. false≢true e) in omega (arith, ints);
      not_unreached = λ c. let r = c.reached 1 (omega arith) refl in none_above r.0 1 (omega arith) r.1;
      not_open = λ c. false≢true (c.closed 0 (omega arith) refl);
      not_left = λ c. let h : pos 2 ≤ℤ pos 0 = c.outside 1 (omega arith) (λ e. false≢true e) in omega (arith, ints);
      not_backward = λ c. let h : pos 0 ≤ℤ loss 1 = c.not_negative 0 (omega arith) in omega (arith, ints);
      down = (2, omega arith, inl (refl, refl));
      back = (2, omega arith, inr (refl, refl, omega (arith, ints)));
      not_back = λ h. no_way_back h.0 h.1 h.2;
    }
