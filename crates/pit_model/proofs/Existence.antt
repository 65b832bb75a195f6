-- Mergers end: each lowers the rank, which is never below 0. So there is a tree without a merger arc, whose strong blocks are a pit.
use Rattle.std.proofs.Common.{◌≡◌, ℕ, zero, suc, ◌+◌, ◌<◌, ◌&&◌, ◌||◌, not, eqb, eq-eqb, Bool, true, false, refl, sym, ap, subst, ◌∙◌, arith, get_or, length, List, Option, Some, None}
use Rattle.std.specs.Prelude.{ℤ, pos, ◌+ℤ◌, ◌-ℤ◌, ◌≤ℤ◌, ◌<ℤ◌, unsigned_abs, map}
use Rattle.std.specs.List.{position_or_len, range_with_len}
use Rattle.std.proofs.lemmas.Int.{ints}
use Rattle.std.proofs.lemmas.Bool.{false≢true}
use Rattle.std.proofs.lemmas.List.{get_or-map, length-map}
use Rattle.std.proofs.lemmas.List.FromFn.{get_or-range_with_len, length-range_with_len}
use Rattle.std.proofs.lemmas.List.Sums.{position_or_len_is}
use Rattle.pit_model.specs.declared.direction.Direction.{Direction}
use Rattle.pit_model.specs.declared.direction.Direction.TheVariants.{Greatest, Least}
use Rattle.pit_model.specs.Graph.{Graph}
use Rattle.pit_model.specs.Mine.{Instance, IsSimple, arcs, source, target, value}
use Rattle.pit_model.specs.Pit.{Fixed, IsPit, no_blocks_fixed}
use Rattle.pit_model.specs.Fixed.IsRestOf.{all_open, some_fixed}
use Rattle.pit_model.specs.Fixed.{IsClashFree, IsFixedJoined, IsFixedRest, graph_of_mine, is_open, mine_among, transposed}
use Rattle.pit_model.specs.Direction.{IsDual}
use Rattle.pit_model.specs.Tree.{Tree, flow, is_merger, is_strong, opening, IsNormalised}
use Rattle.pit_model.specs.Merger.{merged}
use Rattle.pit_model.specs.Rank.{rank}
use Rattle.pit_model.specs.FirstRun.{HasMerger, HasNoMerger, IsFirstMerger, first_merger, first_run}
use Rattle.pit_model.specs.Journal.{applied_count, replay}
use Rattle.pit_model.specs.Existence.{BudgetSuffices, PitExists}
use Rattle.pit_model.proofs.Duality.{certificate_gives_pit}
use Rattle.pit_model.proofs.Pits.{keeps_to_none}
use Rattle.pit_model.proofs.Fixed.{rest_gives_pit, settled_are_apart, transposed_at, transposed_count}
use Rattle.pit_model.proofs.OneRest.{part_once}
use Rattle.pit_model.proofs.Rest.{part_each}
use Rattle.pit_model.proofs.Simple.{graph_is_simple}
use Rattle.pit_model.proofs.Dual.{complement_is_greatest}
use Rattle.pit_model.proofs.FirstRuns.{after_first_none, after_first_some, first_merger_is_least, first_run-suc, first_run-zero, first_run_is_normalised}
use Rattle.pit_model.proofs.Gathered.{merger_keeps_normalised}
use Rattle.pit_model.proofs.Journals.{journal_keeps_normalised, replayed}
use Rattle.pit_model.proofs.Opening.{opening_is_normalised}
use Rattle.pit_model.proofs.RankBound.{rank_is_bounded}
use Rattle.pit_model.proofs.RankFalls.{merger_lowers_rank}
use Rattle.pit_model.proofs.Strong.{elim_option, no_merger_gives_certificate}

module _ (mine : Instance) (simple : IsSimple mine) where
  -- so long as a merger arc is left the rank is above 0
  above : (tree : Tree) → IsNormalised mine tree → HasMerger mine tree → pos 0 <ℤ rank mine tree
  above tree good left =
      let lower = merger_lowers_rank mine tree left.0 simple good left.1 in
      let least = (rank_is_bounded mine (merged mine tree left.0) simple (merger_keeps_normalised mine tree left.0 simple good left.1)).0 in
      omega (arith, ints)

  -- a tree without a merger arc
  abbrev Settled : Type 0
  Settled = (tree : Tree) × IsNormalised mine tree × HasNoMerger mine tree

  settle : (fuel : ℕ) (tree : Tree) → IsNormalised mine tree → rank mine tree ≤ℤ pos fuel → Settled
  settle zero tree good low =
      elim_option (first_merger mine tree) Settled
      (λ e. (tree, good, subst (IsFirstMerger mine tree) e (first_merger_is_least mine tree)))
      (λ k e. let is = subst (IsFirstMerger mine tree) e (first_merger_is_least mine tree) in let high = above tree good (k, is.0) in absurd (omega (arith, ints)))
  settle (suc fuel) tree good low =
      elim_option (first_merger mine tree) Settled
      (λ e. (tree, good, subst (IsFirstMerger mine tree) e (first_merger_is_least mine tree)))
      (λ k e.
      let is = subst (IsFirstMerger mine tree) e (first_merger_is_least mine tree) in
      let lower = merger_lowers_rank mine tree k simple good is.0 in
      settle fuel (merged mine tree k) (merger_keeps_normalised mine tree k simple good is.0) (omega (arith, ints)))

  -- where the first run has a merger arc left, it has made so many mergers, each of which took at least one off the rank
  run_falls : (made : ℕ) → HasMerger mine (first_run mine made) → (pos made +ℤ rank mine (first_run mine made)) ≤ℤ rank mine (opening mine)
  run_falls zero left = rw (first_run-zero mine) (omega (arith, ints))
  run_falls (suc made) left =
      let tree = first_run mine made in
      let good = first_run_is_normalised mine made simple in
      let next = first_run-suc mine made in
      elim_option (first_merger mine tree) ((pos (suc made) +ℤ rank mine (first_run mine (suc made))) ≤ℤ rank mine (opening mine))
      (λ e.
      let none : HasNoMerger mine tree = subst (IsFirstMerger mine tree) e (first_merger_is_least mine tree) in
      let stays = next ∙ after_first_none mine tree none in
      absurd (false≢true (sym (none left.0) ∙ subst (λ t. is_merger mine t left.0 ≡ true) stays left.1)))
      (λ k e.
      let is : IsFirstMerger mine tree (Some k) = subst (IsFirstMerger mine tree) e (first_merger_is_least mine tree) in
      let goes = next ∙ after_first_some mine tree k is in
      let lower = merger_lowers_rank mine tree k simple good is.0 in
      let before = run_falls made (k, is.0) in
      rw goes (omega (arith, ints)))

size_of : (x : ℤ) → x ≤ℤ pos (unsigned_abs x)
size_of x = omega (arith, ints)

least_exists : (mine : Instance) → IsSimple mine → (set : ℕ → Bool) × IsPit Least mine no_blocks_fixed set
least_exists mine simple =
    let first = opening mine in
    let end = settle mine simple (unsigned_abs (rank mine first)) first (opening_is_normalised mine) (size_of (rank mine first)) in
    let tree = end.0 in (
      is_strong mine tree,
      certificate_gives_pit mine (is_strong mine tree) (flow tree) simple.in_range (no_merger_gives_certificate mine tree simple.in_range end.1 (λ k l. end.2 k)),
    )

no_third : (o : Option ℕ) (mine : Instance) (tree : Tree) → IsFirstMerger mine tree o → (HasMerger mine tree → ⊥) → HasNoMerger mine tree
no_third None mine tree is never = is
no_third (Some k) mine tree is never = absurd (never (k, is.0))

pub budget_suffices : BudgetSuffices
budget_suffices = record {
  alone = λ mine budget simple enough.
      let tree = first_run mine budget in
      no_third (first_merger mine tree) mine tree (first_merger_is_least mine tree) (λ left.
      let falls = run_falls mine simple budget left in
      let high = above mine simple tree (first_run_is_normalised mine budget simple) left in
      let most = (rank_is_bounded mine (opening mine) simple (opening_is_normalised mine)).1 in
      omega (arith, ints));
  together = λ mine budget count journal simple enough spent.
      let falls = (replayed mine (Some budget) simple journal (opening mine) 0 (opening_is_normalised mine) spent.lawful).1 in
      let high = above mine simple (replay mine journal) (journal_keeps_normalised mine (Some budget) journal simple spent.lawful) spent.left in
      let most = (rank_is_bounded mine (opening mine) simple (opening_is_normalised mine)).1 in
      let made : applied_count journal ≡ count = spent.made in
      let same : budget ≡ count = let e = spent.allowed in cc in
      omega (arith, ints);
}

-- ---- toward each direction, and with fixed blocks

module _ (mine : Instance) (simple : IsSimple mine) where
  abbrev dual_mine : Instance
  dual_mine = record { blocks = mine.blocks; values = map (λ u. pos 0 -ℤ value mine u) (range_with_len 0 mine.blocks); pairs = transposed mine.pairs }

  swapped : (k : ℕ) → k < length (transposed mine.pairs) → (k < arcs mine) × (source dual_mine k ≡ target mine k) × (target dual_mine k ≡ source mine k)
  swapped k l =
      let size = transposed_count mine.pairs in
      let inside : k < length mine.pairs = omega arith in
      let at = transposed_at mine.pairs k inside in
      (inside, ap (λ (q : ℕ × ℕ). q.0) at, ap (λ (q : ℕ × ℕ). q.1) at)

  dual_is : IsDual mine dual_mine
  dual_is = record {
    reversed = record { same_blocks = refl; pairs_are = record { count = refl; forth = λ k l. (k, l, refl); back = λ k l. (k, l, refl) } };
    counted = length-map (range_with_len 0 mine.blocks) (λ u. pos 0 -ℤ value mine u) ∙ length-range_with_len 0 mine.blocks;
    negated = λ u l.
        let size = length-range_with_len 0 mine.blocks in
        let inside : u < length (range_with_len 0 mine.blocks) = omega arith in
        let plain : 0 + u ≡ u = omega arith in
        get_or-map (λ v. pos 0 -ℤ value mine v) (range_with_len 0 mine.blocks) u 0 (pos 0) inside ∙ ap (λ v. pos 0 -ℤ value mine v) (get_or-range_with_len 0 mine.blocks u 0 l ∙ plain);
  }

  dual_simple : IsSimple dual_mine
  dual_simple = record {
    in_range = λ k l. let at = swapped k l in let ends = simple.in_range k at.0 in let a = at.1 in let b = at.2 in (omega arith, omega arith);
    once = λ k l k_below l_below a b.
        let at = swapped k k_below in
        let there = swapped l l_below in
        simple.once k l at.0 there.0 (sym at.2 ∙ b ∙ there.2) (sym at.1 ∙ a ∙ there.1);
    one_way = λ k l k_below l_below a b.
        let at = swapped k k_below in
        let there = swapped l l_below in
        simple.one_way k l at.0 there.0 (sym at.2 ∙ b ∙ there.1) (sym at.1 ∙ a ∙ there.2);
  }

free_exists : (direction : Direction) (mine : Instance) → IsSimple mine → (set : ℕ → Bool) × IsPit direction mine no_blocks_fixed set
free_exists Least mine simple = least_exists mine simple
free_exists Greatest mine simple =
    let pit = least_exists (dual_mine mine simple) (dual_simple mine simple) in
    (λ u. not (pit.0 u), complement_is_greatest mine (dual_mine mine simple) pit.0 (dual_is mine simple) pit.1)

differs : (a b : ℕ) → (a ≡ b → ⊥) → eqb a b ≡ false
differs a b ne = grind (arith)

shut : (a b : Bool) → not (a || b) ≡ true → a ≡ false
shut true b h = absurd (false≢true h)
shut false b h = refl

module _ (mine : Instance) (fixed : Fixed) (dug left : ℕ → Bool) (blocks : List ℕ) (part : Graph) (rest : IsFixedRest (graph_of_mine mine) fixed dug left blocks part) (free : IsClashFree fixed dug) (found : ℕ → Bool) where
  -- what must be dug, and of the open blocks those that were found, by their places in the rest
  abbrev after : ℕ → Bool
  after u = dug u || (is_open dug left u && found (position_or_len (λ v. eqb v u) blocks))

  place_of : (i : ℕ) → i < length blocks → position_or_len (λ v. eqb v (get_or blocks i 0)) blocks ≡ i
  place_of i l =
      position_or_len_is (λ v. eqb v (get_or blocks i 0)) blocks i 0 (omega arith)
      (λ k less. differs (get_or blocks k 0) (get_or blocks i 0) (λ same. let e = part_once (graph_of_mine mine) part (is_open dug left) blocks rest.is_part k i (omega arith) l same in omega arith))
      (λ inside. eq-eqb (get_or blocks i 0) (get_or blocks i 0) refl)

  joined : IsFixedJoined dug left blocks found after
  joined = record {
    keeps = λ u h. rw h refl;
    misses = λ u h. let off = settled_are_apart mine fixed dug left rest.settled free u h in rw (off, h) refl;
    adds = λ i l.
        let v = get_or blocks i 0 in
        let opened : is_open dug left v ≡ true = (part_each (graph_of_mine mine) part (is_open dug left) blocks rest.is_part i l).1 in
        let off : dug v ≡ false = shut (dug v) (left v) opened in
        ap (λ b. b || (is_open dug left v && found (position_or_len (λ w. eqb w v) blocks))) off
        ∙ ap (λ b. b && found (position_or_len (λ w. eqb w v) blocks)) opened ∙ ap found (place_of i l);
  }

pub pit_exists : PitExists
pit_exists direction mine fixed rest (all_open none same) simple free =
    let pit = free_exists direction mine (subst IsSimple same simple) in
    (pit.0, keeps_to_none direction mine fixed pit.0 none pit.1)
pit_exists direction mine fixed rest (some_fixed u some dug left blocks part is same) simple free =
    let small = mine_among mine blocks part in
    let apart = free dug is.settled.dug_is in
    let pit = free_exists direction small (graph_is_simple small is.is_graph) in (
      after mine fixed dug left blocks part is apart pit.0,
      rest_gives_pit direction mine fixed dug left blocks part pit.0 (after mine fixed dug left blocks part is apart pit.0) is pit.1 (joined mine fixed dug left blocks part is apart pit.0),
    )
