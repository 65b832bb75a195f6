-- What is found among the blocks of the outermost shell is enough. That shell is closed, and a closed set loses nothing at a
-- lesser factor by being cut down to it: what it would lose, the outermost shell would gain. So a best closed set may be
-- looked for inside, where closed sets and their worth are those of the part.
use Rattle.std.proofs.Common.{◌≡◌, ℕ, ◌<◌, ◌≤◌, ◌&&◌, ◌||◌, Bool, true, false, refl, sym, ap, subst, ◌∙◌, arith, ⊎_elim, List, [], get_or, length}
use Rattle.std.specs.Prelude.{ℤ, pos, ◌-ℤ◌, ◌*ℤ◌, ◌≤ℤ◌}
use Rattle.std.proofs.lemmas.Bool.{and_from, and_parts, cases_Bool, cases_eq, cases_lt, or_left, or_right, true≢false}
use Rattle.std.proofs.lemmas.Int.{ints}
use Rattle.std.proofs.lemmas.List.{get_or-map}
use Rattle.pit_model.specs.Sum.{total, when}
use Rattle.pit_model.specs.Graph.{Graph, first_of, second_of, AreInRange}
use Rattle.pit_model.specs.Mine.{IsClosed, members, value, worth}
use Rattle.pit_model.specs.Deposit.{IsPriced, mine_at}
use Rattle.pit_model.specs.Shells.{IsShell}
use Rattle.pit_model.specs.declared.direction.Direction.{Direction}
use Rattle.pit_model.specs.declared.direction.Direction.TheVariants.{Least, Greatest}
use Rattle.pit_model.specs.Pit.{IsPit, LiesToward, no_blocks_fixed}
use Rattle.pit_model.specs.declared.shell.Shell.{Shell}
use Rattle.pit_model.proofs.Pits.{closed_best, closed_extreme, free}
use Rattle.pit_model.proofs.Members.{members_each, members_place, members_rise}
use Rattle.pit_model.proofs.MemberSums.{summed, summed-members}
use Rattle.pit_model.proofs.Shells.{gains, value_at_is, values_rise}
use Rattle.pit_model.proofs.Sums.{total-same}
use Rattle.nesting.specs.Prices.{Prices, deposit_of}
use Rattle.nesting.specs.Outermost.{AreLifted, IsLiftedShell, IsOutermost}

-- what is summed of a set lies in a set around it
lies_inside : (a d : Bool) (x : ℤ) → (d ≡ true → a ≡ true) → when d x ≡ when a (when d x)
lies_inside true d x h = refl
lies_inside false true x h = absurd (true≢false (sym (h refl)))
lies_inside false false x h = refl

-- the part on the outermost shell
module _ (direction : Direction) (prices inner : Prices) (graph part : Graph) (lesser greater : ℕ) (blocks : List ℕ) (priced : IsPriced (deposit_of prices graph)) (le : lesser ≤ greater) (outer : IsOutermost direction prices graph greater blocks inner part) (range : AreInRange part.pairs part.blocks) where
  outer_closed : IsClosed (mine_at (deposit_of prices graph) greater) outer.set
  outer_closed = outer.is_pit.allowed.closed

  outer_best : (other : ℕ → Bool) → IsClosed (mine_at (deposit_of prices graph) greater) other → worth (mine_at (deposit_of prices graph) greater) other ≤ℤ worth (mine_at (deposit_of prices graph) greater) outer.set
  outer_best = closed_best outer.is_pit

  -- a block of the part
  each : (i : ℕ) → i < length blocks → (get_or blocks i 0 < graph.blocks) × (outer.set (get_or blocks i 0) ≡ true)
  each i l =
      let listed = outer.is_part.blocks_are in
      let at = members_each graph.blocks outer.set i (subst (λ (xs : List ℕ). i < length xs) listed l) in
      let here : get_or blocks i 0 ≡ get_or (members graph.blocks outer.set) i 0 = ap (λ (xs : List ℕ). get_or xs i 0) listed in
      let below = at.0 in
      (omega arith, ap outer.set here ∙ at.1)

  value_inside : (i : ℕ) → i < length blocks → value (mine_at (deposit_of prices graph) lesser) (get_or blocks i 0) ≡ value (mine_at (deposit_of inner part) lesser) i
  value_inside i l =
      let count = outer.is_part.count in
      let below : i < part.blocks = omega arith in
      let revenue : get_or inner.revenues i (pos 0) ≡ get_or prices.revenues (get_or blocks i 0) (pos 0) =
      ap (λ (xs : List ℤ). get_or xs i (pos 0)) outer.revenues ∙ get_or-map (λ u. get_or prices.revenues u (pos 0)) blocks i 0 (pos 0) l in
      let cost : get_or inner.costs i (pos 0) ≡ get_or prices.costs (get_or blocks i 0) (pos 0) =
      ap (λ (xs : List ℤ). get_or xs i (pos 0)) outer.costs ∙ get_or-map (λ u. get_or prices.costs u (pos 0)) blocks i 0 (pos 0) l in
      value_at_is (deposit_of prices graph) lesser (get_or blocks i 0) (each i l).0
      ∙ ap (λ r. pos lesser *ℤ r -ℤ pos 1000 *ℤ get_or prices.costs (get_or blocks i 0) (pos 0)) (sym revenue)
      ∙ ap (λ c. pos lesser *ℤ get_or inner.revenues i (pos 0) -ℤ pos 1000 *ℤ c) (sym cost)
      ∙ sym (value_at_is (deposit_of inner part) lesser i below)

  -- a set inside is worth what it is worth on the part
  worth_inside : (W : ℕ → Bool) → ((u : ℕ) → u < graph.blocks → W u ≡ true → outer.set u ≡ true)
      → worth (mine_at (deposit_of prices graph) lesser) W ≡ worth (mine_at (deposit_of inner part) lesser) (λ i. W (get_or blocks i 0))
  worth_inside W inside =
      let v = value (mine_at (deposit_of prices graph) lesser) in
      let w = value (mine_at (deposit_of inner part) lesser) in
      total-same graph.blocks (λ u. when (W u) (v u)) (λ u. when (outer.set u) (when (W u) (v u))) (λ u l. lies_inside (outer.set u) (W u) (v u) (inside u l))
      ∙ sym (summed-members graph.blocks outer.set (λ u. when (W u) (v u)))
      ∙ ap (summed (λ u. when (W u) (v u))) (sym outer.is_part.blocks_are)
      ∙ total-same (length blocks) (λ i. when (W (get_or blocks i 0)) (v (get_or blocks i 0))) (λ i. when (W (get_or blocks i 0)) (w i)) (λ i l. ap (when (W (get_or blocks i 0))) (value_inside i l))
      ∙ ap (λ m. total m (λ i. when (W (get_or blocks i 0)) (w i))) (sym outer.is_part.count)

  -- a closed set leaves a closed set of the part
  part_closed : (C : ℕ → Bool) → IsClosed (mine_at (deposit_of prices graph) lesser) C → IsClosed (mine_at (deposit_of inner part) lesser) (λ i. C (get_or blocks i 0))
  part_closed C closed k l h =
      let there = outer.is_part.inside k l in
      ap C there.2.1 ∙ closed there.0 there.1 (ap C (sym there.2.0) ∙ h)

  -- another closed set, cut down to the outermost shell
  module _ (C : ℕ → Bool) (closed : IsClosed (mine_at (deposit_of prices graph) lesser) C) where
    cut_closed : IsClosed (mine_at (deposit_of prices graph) lesser) (λ u. C u && outer.set u)
    cut_closed k l h =
        let here = and_parts (C (first_of graph.pairs k)) (outer.set (first_of graph.pairs k)) h in
        and_from _ _ (closed k l here.0) (outer_closed k l here.1)

    wide_closed : IsClosed (mine_at (deposit_of prices graph) greater) (λ u. C u || outer.set u)
    wide_closed k l h = ⊎_elim
        (λ (a : C (first_of graph.pairs k) ≡ true). or_left _ _ (closed k l a))
        (λ (a : C (first_of graph.pairs k) ≡ false). or_right _ _ (outer_closed k l (ap (λ b. b || outer.set (first_of graph.pairs k)) (sym a) ∙ h)))
        (cases_Bool (C (first_of graph.pairs k)))

    gained : worth (mine_at (deposit_of prices graph) lesser) C ≡ worth (mine_at (deposit_of prices graph) lesser) (λ u. C u && outer.set u)
        → worth (mine_at (deposit_of prices graph) greater) (λ u. C u || outer.set u) ≡ worth (mine_at (deposit_of prices graph) greater) outer.set
    gained same =
        let best = outer_best (λ u. C u || outer.set u) wide_closed in
        let more = gains graph.blocks (value (mine_at (deposit_of prices graph) lesser)) (value (mine_at (deposit_of prices graph) greater)) C outer.set
        (λ u l. values_rise (deposit_of prices graph) lesser greater u priced le l) in
        omega (arith, ints)

    no_loss : worth (mine_at (deposit_of prices graph) lesser) C ≤ℤ worth (mine_at (deposit_of prices graph) lesser) (λ u. C u && outer.set u)
    no_loss =
        let best = outer_best (λ u. C u || outer.set u) wide_closed in
        let more = gains graph.blocks (value (mine_at (deposit_of prices graph) lesser)) (value (mine_at (deposit_of prices graph) greater)) C outer.set
        (λ u l. values_rise (deposit_of prices graph) lesser greater u priced le l) in
        omega (arith, ints)

    cut_worth : worth (mine_at (deposit_of prices graph) lesser) (λ u. C u && outer.set u) ≡ worth (mine_at (deposit_of inner part) lesser) (λ i. C (get_or blocks i 0) && outer.set (get_or blocks i 0))
    cut_worth = worth_inside (λ u. C u && outer.set u) (λ u l h. (and_parts (C u) (outer.set u) h).1)

  -- a set inside that is the pit of the part
  module _ (found after : ℕ → Bool) (pit : IsPit direction (mine_at (deposit_of inner part) lesser) no_blocks_fixed found)
      (adds : (i : ℕ) → i < length blocks → after (get_or blocks i 0) ≡ found i) (only : (u : ℕ) → after u ≡ true → outer.set u ≡ true) where
    found_closed : IsClosed (mine_at (deposit_of inner part) lesser) found
    found_closed = pit.allowed.closed

    found_best : (other : ℕ → Bool) → IsClosed (mine_at (deposit_of inner part) lesser) other → worth (mine_at (deposit_of inner part) lesser) other ≤ℤ worth (mine_at (deposit_of inner part) lesser) found
    found_best = closed_best pit

    pub after_closed : IsClosed (mine_at (deposit_of prices graph) lesser) after
    after_closed k l h =
        let first = only (first_of graph.pairs k) h in
        let there = outer.is_part.all k l first (outer_closed k l first) in
        let r = range there.0 there.1 in
        let low = r.0 in
        let high = r.1 in
        let count = outer.is_part.count in
        let chosen : found (first_of part.pairs there.0) ≡ true = sym (adds (first_of part.pairs there.0) (omega arith)) ∙ ap after there.2.0 ∙ h in
        sym (ap after there.2.1) ∙ adds (second_of part.pairs there.0) (omega arith) ∙ found_closed there.0 there.1 chosen

    pub after_worth : worth (mine_at (deposit_of prices graph) lesser) after ≡ worth (mine_at (deposit_of inner part) lesser) found
    after_worth =
        let w = value (mine_at (deposit_of inner part) lesser) in
        let count = outer.is_part.count in
        worth_inside after (λ u l h. only u h)
        ∙ total-same part.blocks (λ i. when (after (get_or blocks i 0)) (w i)) (λ i. when (found i) (w i)) (λ i l. ap (λ b. when b (w i)) (adds i (omega arith)))

    pub after_best : (C : ℕ → Bool) → IsClosed (mine_at (deposit_of prices graph) lesser) C → worth (mine_at (deposit_of prices graph) lesser) C ≤ℤ worth (mine_at (deposit_of prices graph) lesser) after
    after_best C closed =
        let one = no_loss C closed in
        let two = cut_worth C closed in
        let three = found_best (λ i. C (get_or blocks i 0) && outer.set (get_or blocks i 0)) (part_closed (λ u. C u && outer.set u) (cut_closed C closed)) in
        let four = after_worth in
        omega (arith, ints)

    -- what is worth as much, cut down to the outermost shell, is closed on the part and worth as much there
    cut_is_best : (C : ℕ → Bool) → IsClosed (mine_at (deposit_of prices graph) lesser) C → worth (mine_at (deposit_of prices graph) lesser) C ≡ worth (mine_at (deposit_of prices graph) lesser) after
        → IsClosed (mine_at (deposit_of inner part) lesser) (λ i. C (get_or blocks i 0) && outer.set (get_or blocks i 0))
        × (worth (mine_at (deposit_of inner part) lesser) (λ i. C (get_or blocks i 0) && outer.set (get_or blocks i 0)) ≡ worth (mine_at (deposit_of inner part) lesser) found)
    cut_is_best C closed same =
        let cut_is : IsClosed (mine_at (deposit_of inner part) lesser) (λ i. C (get_or blocks i 0) && outer.set (get_or blocks i 0)) = part_closed (λ v. C v && outer.set v) (cut_closed C closed) in
        let one = no_loss C closed in
        let two = cut_worth C closed in
        let three = found_best (λ i. C (get_or blocks i 0) && outer.set (get_or blocks i 0)) cut_is in
        let four = after_worth in
        (cut_is, omega (arith, ints))

    -- a block of the outermost shell is one of the part
    placed : (u : ℕ) → u < graph.blocks → outer.set u ≡ true → (i : ℕ) × (i < length blocks) × (get_or blocks i 0 ≡ u)
    placed u l h =
        let place = members_place graph.blocks outer.set u l h in
        let listed = outer.is_part.blocks_are in
        (place.0, subst (λ (xs : List ℕ). place.0 < length xs) (sym listed) place.1, ap (λ (xs : List ℕ). get_or xs place.0 0) listed ∙ place.2)

    pub after_smallest : ((other : ℕ → Bool) → IsClosed (mine_at (deposit_of inner part) lesser) other → worth (mine_at (deposit_of inner part) lesser) other ≡ worth (mine_at (deposit_of inner part) lesser) found
        → (i : ℕ) → i < part.blocks → found i ≡ true → other i ≡ true)
        → (C : ℕ → Bool) → IsClosed (mine_at (deposit_of prices graph) lesser) C → worth (mine_at (deposit_of prices graph) lesser) C ≡ worth (mine_at (deposit_of prices graph) lesser) after
        → (u : ℕ) → u < graph.blocks → after u ≡ true → C u ≡ true
    after_smallest smallest C closed same u l h =
        let cut = cut_is_best C closed same in
        let at = placed u l (only u h) in
        let count = outer.is_part.count in
        let inside = at.1 in
        let chosen = smallest (λ j. C (get_or blocks j 0) && outer.set (get_or blocks j 0)) cut.0 cut.1 at.0 (omega arith) (sym (adds at.0 at.1) ∙ ap after at.2 ∙ h) in
        sym (ap C at.2) ∙ (and_parts (C (get_or blocks at.0 0)) (outer.set (get_or blocks at.0 0)) chosen).0

    -- where the outermost shell is the largest too, so is what was found: a set that is worth as much lies in that shell
    pub after_largest : ((other : ℕ → Bool) → IsClosed (mine_at (deposit_of inner part) lesser) other → worth (mine_at (deposit_of inner part) lesser) other ≡ worth (mine_at (deposit_of inner part) lesser) found
        → (i : ℕ) → i < part.blocks → other i ≡ true → found i ≡ true)
        → ((other : ℕ → Bool) → IsClosed (mine_at (deposit_of prices graph) greater) other → worth (mine_at (deposit_of prices graph) greater) other ≡ worth (mine_at (deposit_of prices graph) greater) outer.set
        → (v : ℕ) → v < graph.blocks → other v ≡ true → outer.set v ≡ true)
        → (C : ℕ → Bool) → IsClosed (mine_at (deposit_of prices graph) lesser) C → worth (mine_at (deposit_of prices graph) lesser) C ≡ worth (mine_at (deposit_of prices graph) lesser) after
        → (u : ℕ) → u < graph.blocks → C u ≡ true → after u ≡ true
    after_largest largest outer_largest C closed same u l h =
        let cut = cut_is_best C closed same in
        let two = cut_worth C closed in
        let four = after_worth in
        let equal = cut.1 in
        let kept : worth (mine_at (deposit_of prices graph) lesser) C ≡ worth (mine_at (deposit_of prices graph) lesser) (λ v. C v && outer.set v) = same ∙ four ∙ sym equal ∙ sym two in
        let lies : outer.set u ≡ true = outer_largest (λ v. C v || outer.set v) (wide_closed C closed) (gained C closed kept) u l (or_left (C u) (outer.set u) h) in
        let at = placed u l lies in
        let count = outer.is_part.count in
        let inside = at.1 in
        let held : (C (get_or blocks at.0 0) && outer.set (get_or blocks at.0 0)) ≡ true = and_from _ _ (ap C at.2 ∙ h) (ap outer.set at.2 ∙ lies) in
        let chosen = largest (λ j. C (get_or blocks j 0) && outer.set (get_or blocks j 0)) cut.0 cut.1 at.0 (omega arith) held in
        sym (ap after at.2) ∙ adds at.0 at.1 ∙ chosen

after_extreme : (direction : Direction) (prices inner : Prices) (graph part : Graph) (lesser greater : ℕ) (blocks : List ℕ) (priced : IsPriced (deposit_of prices graph)) (le : lesser ≤ greater) (outer : IsOutermost direction prices graph greater blocks inner part) (range : AreInRange part.pairs part.blocks)
    (found after : ℕ → Bool) (pit : IsPit direction (mine_at (deposit_of inner part) lesser) no_blocks_fixed found)
    (adds : (i : ℕ) → i < length blocks → after (get_or blocks i 0) ≡ found i) (only : (u : ℕ) → after u ≡ true → outer.set u ≡ true)
    → (C : ℕ → Bool) → IsClosed (mine_at (deposit_of prices graph) lesser) C → worth (mine_at (deposit_of prices graph) lesser) C ≡ worth (mine_at (deposit_of prices graph) lesser) after → LiesToward direction graph.blocks after C
after_extreme Least prices inner graph part lesser greater blocks priced le outer range found after pit adds only =
    after_smallest Least prices inner graph part lesser greater blocks priced le outer range found after pit adds only (closed_extreme pit)
after_extreme Greatest prices inner graph part lesser greater blocks priced le outer range found after pit adds only =
    after_largest Greatest prices inner graph part lesser greater blocks priced le outer range found after pit adds only (closed_extreme pit) (closed_extreme outer.is_pit)

-- the pit of the part is that of the whole, toward each direction
after_is_pit : (direction : Direction) (prices inner : Prices) (graph part : Graph) (lesser greater : ℕ) (blocks : List ℕ) (priced : IsPriced (deposit_of prices graph)) (le : lesser ≤ greater) (outer : IsOutermost direction prices graph greater blocks inner part) (range : AreInRange part.pairs part.blocks)
    (found after : ℕ → Bool) (pit : IsPit direction (mine_at (deposit_of inner part) lesser) no_blocks_fixed found)
    (adds : (i : ℕ) → i < length blocks → after (get_or blocks i 0) ≡ found i) (only : (u : ℕ) → after u ≡ true → outer.set u ≡ true)
    → IsPit direction (mine_at (deposit_of prices graph) lesser) no_blocks_fixed after
after_is_pit direction prices inner graph part lesser greater blocks priced le outer range found after pit adds only = record {
  allowed = free (mine_at (deposit_of prices graph) lesser) after (after_closed direction prices inner graph part lesser greater blocks priced le outer range found after pit adds only);
  best = λ C ok. after_best direction prices inner graph part lesser greater blocks priced le outer range found after pit adds only C ok.closed;
  extreme = λ C ok. after_extreme direction prices inner graph part lesser greater blocks priced le outer range found after pit adds only C ok.closed;
}

module _ (direction : Direction) (prices inner : Prices) (graph part : Graph) (lesser greater : ℕ) (blocks : List ℕ) (priced : IsPriced (deposit_of prices graph)) (le : lesser ≤ greater) (outer : IsOutermost direction prices graph greater blocks inner part) (range : AreInRange part.pairs part.blocks) where
  -- the blocks of the part stand apart
  apart : (i j : ℕ) → i < length blocks → j < length blocks → get_or blocks i 0 ≡ get_or blocks j 0 → i ≡ j
  apart i j l m same =
      let rise : (a b : ℕ) → a < b → b < length blocks → get_or blocks a 0 < get_or blocks b 0 =
      subst (λ (xs : List ℕ). (a b : ℕ) → a < b → b < length xs → get_or xs a 0 < get_or xs b 0) (sym outer.is_part.blocks_are) (members_rise graph.blocks outer.set) in
      ⊎_elim
      (λ (e : i ≡ j). e)
      (λ (ne : i ≡ j → ⊥). ⊎_elim
      (λ (low : i < j). absurd (let up = rise i j low m in omega arith))
      (λ (high : j ≤ i). absurd (let up = rise j i (omega arith) l in omega arith))
      (cases_lt i j))
      (cases_eq i j)

  -- a shell of the part, by the numbers of the whole
  module _ (shell lifted : Shell) (is : IsShell direction (deposit_of inner part) shell) (factor : shell.factor ≡ lesser) (by : IsLiftedShell graph.blocks blocks shell lifted) where
    listed_at : (j : ℕ) → j < length shell.pit.items → (get_or shell.pit.items j 0 < length blocks) × (is.set (get_or shell.pit.items j 0) ≡ true)
    listed_at j l =
        let at = members_each part.blocks is.set j (subst (λ (xs : List ℕ). j < length xs) is.listed l) in
        let here : get_or shell.pit.items j 0 ≡ get_or (members part.blocks is.set) j 0 = ap (λ (xs : List ℕ). get_or xs j 0) is.listed in
        let below = at.0 in
        let count = outer.is_part.count in
        (omega arith, ap is.set here ∙ at.1)

    stands : (i : ℕ) → i < length blocks → by.pit.set (get_or blocks i 0) ≡ is.set i
    stands i l = ⊎_elim
        (λ (yes : is.set i ≡ true).
        let count = outer.is_part.count in
        let place = members_place part.blocks is.set i (omega arith) yes in
        let inside : place.0 < length shell.pit.items = subst (λ (xs : List ℕ). place.0 < length xs) (sym is.listed) place.1 in
        let at : get_or shell.pit.items place.0 0 ≡ i = ap (λ (xs : List ℕ). get_or xs place.0 0) is.listed ∙ place.2 in
        sym (ap (λ a. by.pit.set (get_or blocks a 0)) at) ∙ by.pit.adds place.0 inside ∙ sym yes)
        (λ (no : is.set i ≡ false). ⊎_elim
        (λ (on : by.pit.set (get_or blocks i 0) ≡ true). absurd (
        let some = by.pit.only (get_or blocks i 0) on in
        let chosen = listed_at some.0 some.1 in
        let same = apart (get_or shell.pit.items some.0 0) i chosen.0 l some.2 in
        true≢false (sym chosen.1 ∙ ap is.set same ∙ no)))
        (λ (off : by.pit.set (get_or blocks i 0) ≡ false). off ∙ sym no)
        (cases_Bool (by.pit.set (get_or blocks i 0))))
        (cases_Bool (is.set i))

    lies : (u : ℕ) → by.pit.set u ≡ true → outer.set u ≡ true
    lies u h =
        let some = by.pit.only u h in
        sym (ap outer.set some.2) ∙ (each direction prices inner graph part lesser greater blocks priced le outer range (get_or shell.pit.items some.0 0) (listed_at some.0 some.1).0).1

    inner_pit : IsPit direction (mine_at (deposit_of inner part) lesser) no_blocks_fixed is.set
    inner_pit = subst (λ f. IsPit direction (mine_at (deposit_of inner part) f) no_blocks_fixed is.set) factor is.is_pit

    pub lifted_is_shell : IsShell direction (deposit_of prices graph) lifted
    lifted_is_shell =
        let same : lifted.factor ≡ lesser = by.factor ∙ factor in
        record {
          set = by.pit.set;
          listed = by.pit.listed;
          is_pit = subst (λ f. IsPit direction (mine_at (deposit_of prices graph) f) no_blocks_fixed by.pit.set) (sym same)
              (after_is_pit direction prices inner graph part lesser greater blocks priced le outer range is.set by.pit.set inner_pit stands lies);
          worth_is = by.worth ∙ is.worth_is ∙ ap (λ f. worth (mine_at (deposit_of inner part) f) is.set) factor
              ∙ sym (after_worth direction prices inner graph part lesser greater blocks priced le outer range is.set by.pit.set inner_pit stands lies)
              ∙ ap (λ f. worth (mine_at (deposit_of prices graph) f) by.pit.set) (sym same);
        }

-- one shell more
pub none_lifted : (n : ℕ) (blocks : List ℕ) (inner outer : List Shell) → outer ≡ [] → AreLifted n blocks inner outer 0
none_lifted n blocks inner outer none = record { size = ap (λ (xs : List Shell). length xs) none; each = λ i d l. absurd (omega arith) }
