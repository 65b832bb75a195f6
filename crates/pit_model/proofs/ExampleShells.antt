-- Shells of small deposits: the pit at each factor is shown by a flow.
use Rattle.std.proofs.Common.{◌≡◌, ℕ, zero, suc, ◌<◌, not, Bool, true, false, refl, sym, ap, subst, ◌∙◌, arith, inl, List, [], ◌∷◌}
use Rattle.std.specs.Prelude.{ℤ, pos, ◌+ℤ◌, ◌≤ℤ◌}
use Rattle.std.proofs.lemmas.Int.{ints}
use Rattle.std.proofs.lemmas.Bool.{false≢true}
use Rattle.pit_model.specs.declared.direction.Direction.{Direction}
use Rattle.pit_model.specs.declared.direction.Direction.TheVariants.{Greatest, Least}
use Rattle.pit_model.specs.declared.shell.Shell.{Shell}
use Rattle.pit_model.specs.Sum.{when}
use Rattle.pit_model.specs.Graph.{first_of, second_of}
use Rattle.pit_model.specs.Mine.{members, worth}
use Rattle.pit_model.specs.Certificate.{IsReached}
use Rattle.pit_model.specs.Deposit.{Deposit, mine_at}
use Rattle.pit_model.specs.Fixed.{is_among}
use Rattle.pit_model.specs.Pit.{IsPit, no_blocks_fixed}
use Rattle.pit_model.specs.Shells.{IsShell}
use Rattle.pit_model.specs.Uniqueness.{plain}
use Rattle.pit_model.specs.ExampleMines.{pair_deposit, three_deposit}
use Rattle.pit_model.specs.ExamplePits.{ShellsOfPair, amounts, loss}
use Rattle.pit_model.proofs.Duality.{certificate_gives_pit}
use Rattle.pit_model.proofs.Pits.{free}
use Rattle.pit_model.proofs.Tested.{certified, closed_at, each_below, implied, in_range}

shell_of :
    (direction : Direction) (deposit : Deposit) (shell : Shell) (factor : ℕ) (pit : List ℕ) (its_worth : ℤ) (set : ℕ → Bool) → plain shell ≡ (factor, pit, its_worth)
    → pit ≡ members deposit.blocks set → IsPit direction (mine_at deposit factor) no_blocks_fixed set → its_worth ≡ worth (mine_at deposit factor) set
    → IsShell direction deposit shell
shell_of direction deposit shell factor pit its_worth set is listed is_pit worth_is =
    let at : shell.factor ≡ factor = ap (λ (p : ℕ × List ℕ × ℤ). p.0) is in
    let blocks : shell.pit.items ≡ pit = ap (λ (p : ℕ × List ℕ × ℤ). p.1) is in
    let worths : shell.worth ≡ its_worth = ap (λ (p : ℕ × List ℕ × ℤ). p.2) is in
    record {
      set = set;
      listed = blocks ∙ listed;
      is_pit = subst (λ f. IsPit direction (mine_at deposit f) no_blocks_fixed set) (sym at) is_pit;
      worth_is = worths ∙ worth_is ∙ ap (λ f. worth (mine_at deposit f) set) (sym at);
    }

abbrev both : ℕ → Bool
both = is_among (0 ∷ 1 ∷ [])

-- no closed set is worth more than 0 at 400
even_worth : (a b : Bool) → (b ≡ true → a ≡ true) → (pos 0 +ℤ when a (loss 3000000000) +ℤ when b (pos 3000000000)) ≤ℤ pos 0
even_worth true true h = omega (arith, ints)
even_worth true false h = omega (arith, ints)
even_worth false true h = absurd (false≢true (h refl))
even_worth false false h = omega (arith, ints)

both_in : (u : ℕ) → u < 2 → both u ≡ true
both_in zero l = refl
both_in (suc zero) l = refl
both_in (suc (suc u)) l = absurd (omega arith)

-- at 400 nothing, by a flow that takes all that the second block is worth
least_at_400 : IsPit Least (mine_at pair_deposit 400) no_blocks_fixed (is_among [])
least_at_400 =
    certificate_gives_pit (mine_at pair_deposit 400) (is_among []) (amounts (pos 3000000000 ∷ [])) (in_range (mine_at pair_deposit 400) refl)
    (certified (mine_at pair_deposit 400) (is_among []) (amounts (pos 3000000000 ∷ [])) refl refl refl refl refl (λ u l h. absurd (false≢true h)))

greatest_at_400 : IsPit Greatest (mine_at pair_deposit 400) no_blocks_fixed both
greatest_at_400 = record {
  allowed = free (mine_at pair_deposit 400) both
      (λ k l h. implied (both (first_of pair_deposit.pairs k)) (both (second_of pair_deposit.pairs k)) (each_below 1 (closed_at (mine_at pair_deposit 400) both) refl k l) h);
  best = λ other ok. even_worth (other 0) (other 1) (ok.closed 0 (omega arith));
  extreme = λ other ok equal u l h. both_in u l;
}

reached_at_1000 : (u : ℕ) → u < 2 → both u ≡ true → (steps : ℕ) × IsReached (mine_at pair_deposit 1000) both (amounts (pos 3000000000 ∷ [])) u steps
reached_at_1000 zero l h = (1, (refl, (1, omega arith, (refl, omega (arith, ints)), (0, omega arith, inl (refl, refl)))))
reached_at_1000 (suc zero) l h = (0, (refl, omega (arith, ints)))
reached_at_1000 (suc (suc u)) l h = absurd (omega arith)

least_at_1000 : IsPit Least (mine_at pair_deposit 1000) no_blocks_fixed both
least_at_1000 =
    certificate_gives_pit (mine_at pair_deposit 1000) both (amounts (pos 3000000000 ∷ [])) (in_range (mine_at pair_deposit 1000) refl)
    (certified (mine_at pair_deposit 1000) both (amounts (pos 3000000000 ∷ [])) refl refl refl refl refl reached_at_1000)

reached_at_500 : (u : ℕ) → u < 3 → both u ≡ true → (steps : ℕ) × IsReached (mine_at three_deposit 500) both (amounts (pos 3000000000 ∷ pos 0 ∷ [])) u steps
reached_at_500 zero l h = (1, (refl, (1, omega arith, (refl, omega (arith, ints)), (0, omega arith, inl (refl, refl)))))
reached_at_500 (suc zero) l h = (0, (refl, omega (arith, ints)))
reached_at_500 (suc (suc zero)) l h = absurd (false≢true h)
reached_at_500 (suc (suc (suc u))) l h = absurd (omega arith)

least_at_500 : IsPit Least (mine_at three_deposit 500) no_blocks_fixed both
least_at_500 =
    certificate_gives_pit (mine_at three_deposit 500) both (amounts (pos 3000000000 ∷ pos 0 ∷ [])) (in_range (mine_at three_deposit 500) refl)
    (certified (mine_at three_deposit 500) both (amounts (pos 3000000000 ∷ pos 0 ∷ [])) refl refl refl refl refl reached_at_500)

-- outside of the shell at 500 is block 2 alone, and both pairs end in the shell
no_pair_left : (l : ℕ) → l < 2 → not (both (second_of three_deposit.pairs l)) ≡ true → ⊥
no_pair_left zero l h = false≢true h
no_pair_left (suc zero) l h = false≢true h
no_pair_left (suc (suc k)) l h = omega arith

pub shells_of_pair : ShellsOfPair
shells_of_pair = record {
  waste_at_300 = refl;
  ore_at_300 = refl;
  ore_at_400 = refl;
  ore_at_1000 = refl;
  at_400 = λ shell is. shell_of Least pair_deposit shell 400 [] (pos 0) (is_among []) is refl least_at_400 refl;
  greatest_at_400 = λ shell is. shell_of Greatest pair_deposit shell 400 (0 ∷ 1 ∷ []) (pos 0) both is refl greatest_at_400 refl;
  at_1000 = λ shell is. shell_of Least pair_deposit shell 1000 (0 ∷ 1 ∷ []) (pos 6000000000) both is refl least_at_1000 refl;
  rest_at_800 = record {
    before = both;
    is_before = least_at_500;
    blocks = 2 ∷ [];
    part = record { blocks = 1; pairs = [] };
    outside = record {
      is_part = record { blocks_are = refl; count = refl; inside = λ k l. absurd (omega arith); all = λ l below a b. absurd (no_pair_left l below b) };
      is_graph = record { in_range = λ k l. absurd (omega arith); rising = λ k l less inside. absurd (omega arith); acyclic = (λ u. 0, λ k l. absurd (omega arith)) };
    };
    rest_is = refl;
  };
}
