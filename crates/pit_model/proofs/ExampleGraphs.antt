-- Small graphs and their cycles.
use Rattle.std.proofs.Common.{◌≡◌, ℕ, zero, suc, ◌+◌, ◌<◌, ◌≤◌, ◌⊎◌, Bool, true, refl, sym, subst, ◌∙◌, arith, inl, inr, ⊎_elim, get_or, length, List, [], ◌∷◌}
use Rattle.std.specs.Prelude.{pos, replicate}
use Rattle.std.proofs.lemmas.Int.{ints}
use Rattle.std.proofs.lemmas.Bool.{cases_eq, false≢true}
use Rattle.std.proofs.lemmas.List.{get_or-replicate, length-replicate}
use Rattle.pit_model.specs.Graph.{Graph, first_of, second_of}
use Rattle.pit_model.specs.Part.{IsClass, IsRenumbered}
use Rattle.pit_model.specs.Cycle.{IsLeastNeeded}
use Rattle.pit_model.specs.Fixed.{is_among}
use Rattle.pit_model.specs.ExampleGraphs.{CyclesOfSmallGraphs, LimitsOfMines, PartsOfFive, five}
use Rattle.pit_model.proofs.ExampleFixed.{one_of, three_of}

two_of : (x y u : ℕ) → is_among (x ∷ y ∷ []) u ≡ true → (u ≡ x) ⊎ (u ≡ y)
two_of x y u h = ⊎_elim (λ e. inl e) (λ nx. ⊎_elim (λ e. inr e) (λ ny. absurd (grind (arith))) (cases_eq u y)) (cases_eq u x)

-- a part of two blocks that a pair joins
pair_class : (low high k : ℕ) (k_below : k < 2) → first_of five.pairs k ≡ high → second_of five.pairs k ≡ low → low ≤ high → low < 5
    → is_among (low ∷ high ∷ []) low ≡ true
    → ((l : ℕ) → l < 2 → is_among (low ∷ high ∷ []) (first_of five.pairs l) ≡ is_among (low ∷ high ∷ []) (second_of five.pairs l))
    → IsClass five (is_among (low ∷ high ∷ [])) low
pair_class low high k k_below first second le inside member together = record {
  inside = inside;
  member = member;
  least = λ u l h. ⊎_elim (λ (e : u ≡ low). omega arith) (λ (e : u ≡ high). omega arith) (two_of low high u h);
  connected = λ u l h. ⊎_elim
      (λ (e : u ≡ low). (0, sym e))
      (λ (e : u ≡ high). (1, (low, refl, (k, k_below, inr (first ∙ sym e, second)))))
      (two_of low high u h);
  together = together;
}

each_two : (P : ℕ → Type 0) → P 0 → P 1 → (k : ℕ) → k < 2 → P k
each_two P a b zero l = a
each_two P a b (suc zero) l = b
each_two P a b (suc (suc k)) l = absurd (omega arith)

abbrev small : Graph
small = record { blocks = 2; pairs = (1, 0) ∷ [] }

pub parts_of_five : PartsOfFive
parts_of_five = record {
  first = pair_class 0 2 0 (omega arith) refl refl (omega arith) (omega arith) refl
      (each_two (λ l. is_among (0 ∷ 2 ∷ []) (first_of five.pairs l) ≡ is_among (0 ∷ 2 ∷ []) (second_of five.pairs l)) refl refl);
  second = pair_class 1 3 1 (omega arith) refl refl (omega arith) (omega arith) refl
      (each_two (λ l. is_among (1 ∷ 3 ∷ []) (first_of five.pairs l) ≡ is_among (1 ∷ 3 ∷ []) (second_of five.pairs l)) refl refl);
  alone = record {
    inside = omega arith;
    member = refl;
    least = λ u l h. let e = one_of 4 u h in omega arith;
    connected = λ u l h. (0, sym (one_of 4 u h));
    together = each_two (λ l. is_among (4 ∷ []) (first_of five.pairs l) ≡ is_among (4 ∷ []) (second_of five.pairs l)) refl refl;
  };
  not_by_greatest = λ class. let h = class.least 0 (omega arith) refl in omega arith;
  not_half = λ class. false≢true (class.together 0 (omega arith));
  renumbered = record {
    blocks_are = refl;
    count = refl;
    inside = λ k l. let e : k ≡ 0 = omega arith in (1, omega arith, subst (λ (i : ℕ). IsRenumbered five (1 ∷ 3 ∷ []) small i 1) (sym e) (refl, refl));
    all = λ l below a b. ⊎_elim
        (λ (e : l ≡ 1). (0, omega arith, subst (λ (i : ℕ). IsRenumbered five (1 ∷ 3 ∷ []) small 0 i) (sym e) (refl, refl)))
        (λ (ne : l ≡ 1 → ⊥). let e : l ≡ 0 = omega arith in absurd (false≢true (subst (λ (i : ℕ). is_among (1 ∷ 3 ∷ []) (first_of five.pairs i) ≡ true) e a)))
        (cases_eq l 1);
  };
  in_order = record {
    in_range = each_two (λ k. (first_of five.pairs k < 5) × (second_of five.pairs k < 5)) (omega arith, omega arith) (omega arith, omega arith);
    rising = λ k l less inside.
        let e : k ≡ 0 = omega arith in
        let f : l ≡ 1 = omega arith in
        inl (subst (λ (i : ℕ). first_of five.pairs i < first_of five.pairs l) (sym e) (subst (λ (i : ℕ). 2 < first_of five.pairs i) (sym f) (omega arith)));
    acyclic = (λ u. u, each_two (λ k. second_of five.pairs k < first_of five.pairs k) (omega arith) (omega arith));
  };
  not_out_of_order = λ graph. ⊎_elim (λ less. omega arith) (λ same. let e = same.0 in omega arith) (graph.rising 0 1 (omega arith) (omega arith));
  not_twice = λ graph. ⊎_elim (λ less. omega arith) (λ same. let e = same.1 in omega arith) (graph.rising 0 1 (omega arith) (omega arith));
  not_round = λ graph.
      let height = graph.acyclic.0 in
      let a : height 2 < height 0 = graph.acyclic.1 0 (omega arith) in
      let b : height 0 < height 2 = graph.acyclic.1 1 (omega arith) in
      omega arith;
  not_outside = λ graph. let h = (graph.in_range 0 (omega arith)).0 in omega arith;
}

pub limits_of_mines : LimitsOfMines
limits_of_mines = record {
  taken = λ n m worth a b c d. record {
    few_blocks = a;
    few_arcs = let pair : ℕ × ℕ = (0, 0) in let e : length (replicate m pair) ≡ m = length-replicate m pair in rw e b;
    value_count = length-replicate n worth;
    low = λ u l. let e = get_or-replicate n u worth (pos 0) l in omega (arith, ints);
    high = λ u l. let e = get_or-replicate n u worth (pos 0) l in omega (arith, ints);
  };
  blocks = λ mine is. is.few_blocks;
  pairs = λ mine is. is.few_arcs;
  most = λ mine u is l. is.high u l;
  least = λ mine u is l. is.low u l;
  size = refl;
  seats = refl;
}

abbrev crossed : List (ℕ × ℕ)
crossed = (0, 1) ∷ (0, 2) ∷ (1, 0) ∷ (2, 0) ∷ []

abbrev entered : List (ℕ × ℕ)
entered = (0, 1) ∷ (1, 2) ∷ (2, 1) ∷ []

abbrev three : ℕ → Bool
three = is_among (0 ∷ 1 ∷ 2 ∷ [])

below_three : (u : ℕ) → u < 3 → three u ≡ true
below_three zero l = refl
below_three (suc zero) l = refl
below_three (suc (suc zero)) l = refl
below_three (suc (suc (suc u))) l = absurd (omega arith)

crossed_needs : (u : ℕ) → three u ≡ true → (u < 3) × ((k : ℕ) × (k < 4) × (first_of crossed k ≡ u) × (three (second_of crossed k) ≡ true))
crossed_needs u h =
    ⊎_elim (λ (e : u ≡ 0). (omega arith, (0, omega arith, sym e, refl)))
    (λ more. ⊎_elim (λ (e : u ≡ 1). (omega arith, (2, omega arith, sym e, refl))) (λ (e : u ≡ 2). (omega arith, (3, omega arith, sym e, refl))) more)
    (three_of 0 1 2 u h)

entered_needs : (u : ℕ) → three u ≡ true → (u < 4) × ((k : ℕ) × (k < 3) × (first_of entered k ≡ u) × (three (second_of entered k) ≡ true))
entered_needs u h =
    ⊎_elim (λ (e : u ≡ 0). (omega arith, (0, omega arith, sym e, refl)))
    (λ more. ⊎_elim (λ (e : u ≡ 1). (omega arith, (1, omega arith, sym e, refl))) (λ (e : u ≡ 2). (omega arith, (2, omega arith, sym e, refl))) more)
    (three_of 0 1 2 u h)

entered_first : (k u : ℕ) → k < 3 → first_of entered k ≡ u → three u ≡ true
entered_first zero u l e = subst (λ v. three v ≡ true) e refl
entered_first (suc zero) u l e = subst (λ v. three v ≡ true) e refl
entered_first (suc (suc zero)) u l e = subst (λ v. three v ≡ true) e refl
entered_first (suc (suc (suc k))) u l e = absurd (omega arith)

-- of the needs of blocks 0 and 1 the least
crossed_least_0 : (k : ℕ) → k < 4 → first_of crossed k ≡ 0 → three (second_of crossed k) ≡ true → 1 ≤ second_of crossed k
crossed_least_0 zero l e h = omega arith
crossed_least_0 (suc zero) l e h = omega arith
crossed_least_0 (suc (suc zero)) l e h = omega arith
crossed_least_0 (suc (suc (suc zero))) l e h = omega arith
crossed_least_0 (suc (suc (suc (suc k)))) l e h = omega arith

entered_least : (k u p : ℕ) → k < 3 → first_of entered k ≡ u → (u ≡ 0) ⊎ (u ≡ 2) → three (second_of entered k) ≡ true → 1 ≤ second_of entered k
entered_least zero u p l e w h = omega arith
entered_least (suc zero) u p l e w h = omega arith
entered_least (suc (suc zero)) u p l e w h = omega arith
entered_least (suc (suc (suc k))) u p l e w h = omega arith

entered_least_1 : (k : ℕ) → k < 3 → first_of entered k ≡ 1 → three (second_of entered k) ≡ true → 2 ≤ second_of entered k
entered_least_1 zero l e h = omega arith
entered_least_1 (suc zero) l e h = omega arith
entered_least_1 (suc (suc zero)) l e h = omega arith
entered_least_1 (suc (suc (suc k))) l e h = omega arith

crossed_next : (i : ℕ) → i + 1 < 2 → IsLeastNeeded crossed three (get_or (0 ∷ 1 ∷ []) i 0) (get_or (0 ∷ 1 ∷ []) (i + 1) 0)
crossed_next zero l = record { needed = (0, omega arith, refl, refl); member = refl; least = crossed_least_0 }
crossed_next (suc i) l = absurd (omega arith)

entered_next : (i : ℕ) → i + 1 < 3 → IsLeastNeeded entered three (get_or (0 ∷ 1 ∷ 2 ∷ []) i 0) (get_or (0 ∷ 1 ∷ 2 ∷ []) (i + 1) 0)
entered_next zero l = record { needed = (0, omega arith, refl, refl); member = refl; least = λ k m e h. entered_least k 0 1 m e (inl refl) h }
entered_next (suc zero) l = record { needed = (1, omega arith, refl, refl); member = refl; least = entered_least_1 }
entered_next (suc (suc i)) l = absurd (omega arith)

-- the places of a rising list are apart
places : (i : ℕ) → i < 3 → get_or (0 ∷ 1 ∷ 2 ∷ []) i 0 ≡ i
places zero l = refl
places (suc zero) l = refl
places (suc (suc zero)) l = refl
places (suc (suc (suc i))) l = absurd (omega arith)

two_places : (i : ℕ) → i < 2 → get_or (0 ∷ 1 ∷ []) i 0 ≡ i
two_places zero l = refl
two_places (suc zero) l = refl
two_places (suc (suc i)) l = absurd (omega arith)

pub cycles_of_small_graphs : CyclesOfSmallGraphs
cycles_of_small_graphs = record {
  least_need = record {
    set = three;
    largest = record { needy = crossed_needs; largest = λ other needy u h. below_three u (needy u h).0 };
    walk = 0 ∷ 1 ∷ [];
    walked = record {
      some = omega arith;
      first = record { member = refl; least = λ v h. omega arith };
      next = crossed_next;
      apart = λ i j less inside same. let a = two_places i (omega arith) in let b = two_places j inside in omega arith;
    };
    visit = 0;
    visited = omega arith;
    repeats = record { needed = (2, omega arith, refl, refl); member = refl; least = λ k l e h. omega arith };
    is = refl;
  };
  way_in = record {
    set = three;
    largest = record { needy = entered_needs; largest = λ other needy u h. let need = (needy u h).1 in entered_first need.0 u need.1 need.2 };
    walk = 0 ∷ 1 ∷ 2 ∷ [];
    walked = record {
      some = omega arith;
      first = record { member = refl; least = λ v h. omega arith };
      next = entered_next;
      apart = λ i j less inside same. let a = places i (omega arith) in let b = places j inside in omega arith;
    };
    visit = 1;
    visited = omega arith;
    repeats = record { needed = (2, omega arith, refl, refl); member = refl; least = λ k l e h. entered_least k 2 1 l e (inr refl) h };
    is = refl;
  };
}
