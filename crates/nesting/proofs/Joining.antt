-- What grows from factor to factor: at first nothing is taken; then what is found on the rest joins the shell before, which
-- gives the pit of the whole.
use Rattle.std.proofs.Common.{◌≡◌, ℕ, zero, suc, ◌<◌, ◌≤◌, not, ◌+◌, Bool, true, false, cond, refl, sym, ap, subst, ◌∙◌, arith, ⊎_elim, inl, List, ◌∷◌, get_or, length, replicate, map, take, drop, ◌++◌}
use Rattle.std.specs.Prelude.{◌⊎◌, ℤ, pos}
use Rattle.std.specs.List.{range_with_len, filter, All}
use Rattle.std.proofs.lemmas.Bool.{cases_Bool, cases_eq, cases_lt, true≢false}
use Rattle.std.proofs.lemmas.List.{append-nil, drop_all, get_or-map, length-replicate, take_all}
use Rattle.std.proofs.lemmas.List.FromFn.{get_or-range_with_len, length-range_with_len}
use Rattle.pit_model.specs.Sum.{total, when}
use Rattle.pit_model.specs.Graph.{Graph, first_of, second_of, IsGraph}
use Rattle.pit_model.specs.declared.direction.Direction.{Direction}
use Rattle.pit_model.specs.Pit.{IsPit, ListsPit, no_blocks_fixed}
use Rattle.pit_model.specs.Mine.{Instance, members, value, worth}
use Rattle.pit_model.specs.Part.{IsPart}
use Rattle.pit_model.specs.Deposit.{Deposit, mine_at, IsPriced}
use Rattle.pit_model.specs.Shells.{AreFactors, factor_of, IsJoined, IsOutside, IsRest, IsShell}
use Rattle.pit_model.specs.declared.shell.Shell.{Shell}
use Rattle.pit_model.proofs.Members.{members_below, members_each, members_few, members_place, members_rise}
use Rattle.pit_model.proofs.MemberSums.{summed-members}
use Rattle.pit_model.proofs.Sums.{total-same}
use Rattle.pit_model.proofs.Shells.{not_true, value_at_is, rest_gives_shell}
use Rattle.nesting.specs.Prices.{Prices, price_of, deposit_of, ArePrices}
use Rattle.nesting.specs.Grown.{marked, rest_at, IsGrown}
use Rattle.nesting.proofs.PriceBounds.{IsSmall, each_small}

-- a deposit of prices and a graph with as many blocks
pub is_priced : (prices : Prices) (graph : Graph) → ArePrices prices.revenues prices.costs → length prices.revenues ≡ graph.blocks → IsPriced (deposit_of prices graph)
is_priced prices graph are rows = subst (λ n. IsPriced (deposit_of prices (record { blocks = n; pairs = graph.pairs }))) rows
    (record { few = are.few; revenues = are.revenue; costs = are.cost })

-- at first
all_of_range : (a n : ℕ) (test : ℕ → Bool) → ((u : ℕ) → test u ≡ true) → filter test (range_with_len a n) ≡ range_with_len a n
all_of_range a zero test all = refl
all_of_range a (suc n) test all = ap (λ b. cond b (a ∷ filter test (range_with_len (a + 1) n)) (filter test (range_with_len (a + 1) n))) (all a) ∙ ap (λ xs. a ∷ xs) (all_of_range (a + 1) n test all)

in_range : (n u : ℕ) → u < n → get_or (range_with_len 0 n) u 0 ≡ u
in_range n u l = let at = get_or-range_with_len 0 n u 0 l in omega arith

none_marked : (n u : ℕ) → marked (replicate n false) u ≡ false
none_marked zero u = refl
none_marked (suc n) zero = refl
none_marked (suc n) (suc u) = none_marked n u

pub starts : (direction : Direction) (prices : Prices) (factors : List ℕ) (graph part : Graph) (marks : List Bool) (blocks : List ℕ) → IsGraph graph.blocks graph.pairs → marks ≡ replicate graph.blocks false
    → blocks ≡ range_with_len 0 graph.blocks → part ≡ graph → IsGrown direction (deposit_of prices graph) factors 0 marks blocks part
starts direction prices factors graph part marks blocks is unmarked all same =
    let n = graph.blocks in
    let none : (u : ℕ) → marked (replicate n false) u ≡ false = none_marked n in
    subst (λ (ms : List Bool). IsGrown direction (deposit_of prices graph) factors 0 ms blocks part) (sym unmarked)
    (subst (λ (bs : List ℕ). IsGrown direction (deposit_of prices graph) factors 0 (replicate n false) bs part) (sym all)
    (subst (λ (p : Graph). IsGrown direction (deposit_of prices graph) factors 0 (replicate n false) (range_with_len 0 n) p) (sym same)
    (record {
      size = length-replicate n false;
      before = none;
      outside = record {
        is_part = record {
          blocks_are = sym (all_of_range 0 n (λ u. not (marked (replicate n false) u)) (λ u. ap not (none u)));
          count = sym (length-range_with_len 0 n);
          inside = λ k l. (k, l, (in_range n (first_of graph.pairs k) (is.in_range k l).0, in_range n (second_of graph.pairs k) (is.in_range k l).1));
          all = λ l below out out2. (l, below, (in_range n (first_of graph.pairs l) (is.in_range l below).0, in_range n (second_of graph.pairs l) (is.in_range l below).1));
        };
        is_graph = is;
      };
    })))

-- a block of the rest is a block, and not marked
pub left_over : (deposit : Deposit) (marks : List Bool) (blocks : List ℕ) (part : Graph) → IsOutside deposit (marked marks) blocks part
    → (i : ℕ) → i < length blocks → (get_or blocks i 0 < deposit.blocks) × (marked marks (get_or blocks i 0) ≡ false)
left_over deposit marks blocks part outside i l =
    let listed = outside.is_part.blocks_are in
    let at = members_each deposit.blocks (λ u. not (marked marks u)) i (subst (λ (xs : List ℕ). i < length xs) listed l) in
    let here : get_or blocks i 0 ≡ get_or (members deposit.blocks (λ u. not (marked marks u))) i 0 = ap (λ (xs : List ℕ). get_or xs i 0) listed in
    let below = at.0 in
    (omega arith, ap (marked marks) here ∙ not_true (marked marks (get_or (members deposit.blocks (λ u. not (marked marks u))) i 0)) at.1)

-- blocks of the rest stand apart
apart : (deposit : Deposit) (marks : List Bool) (blocks : List ℕ) (part : Graph) → IsOutside deposit (marked marks) blocks part
    → (i j : ℕ) → i < length blocks → j < length blocks → get_or blocks i 0 ≡ get_or blocks j 0 → i ≡ j
apart deposit marks blocks part outside i j l m same =
    let listed = outside.is_part.blocks_are in
    let rise : (a b : ℕ) → a < b → b < length blocks → get_or blocks a 0 < get_or blocks b 0 =
    subst (λ (xs : List ℕ). (a b : ℕ) → a < b → b < length xs → get_or xs a 0 < get_or xs b 0) (sym listed) (members_rise deposit.blocks (λ u. not (marked marks u))) in
    ⊎_elim
    (λ (e : i ≡ j). e)
    (λ (ne : i ≡ j → ⊥). ⊎_elim
    (λ (low : i < j). absurd (let up = rise i j low m in omega arith))
    (λ (high : j ≤ i). absurd (let up = rise j i (omega arith) l in omega arith))
    (cases_lt i j))
    (cases_eq i j)

-- what was marked joins the shell with what was found
pub joins : (deposit : Deposit) (old new : List Bool) (blocks found : List ℕ) (part : Graph) → IsOutside deposit (marked old) blocks part
    → ((u : ℕ) → marked old u ≡ true → marked new u ≡ true)
    → ((j : ℕ) → j < length found → marked new (get_or blocks (get_or found j 0) 0) ≡ true)
    → ((u : ℕ) → marked new u ≡ true → (marked old u ≡ true) ⊎ ((j : ℕ) × (j < length found) × (get_or blocks (get_or found j 0) 0 ≡ u)))
    → (test : ℕ → Bool) → found ≡ members (length blocks) test → IsJoined (marked old) blocks test (marked new)
joins deposit old new blocks found part outside keeps adds only test listed = record {
  keeps = keeps;
  adds = λ i l. ⊎_elim
      (λ (yes : test i ≡ true).
      let place = members_place (length blocks) test i l yes in
      let inside : place.0 < length found = subst (λ (xs : List ℕ). place.0 < length xs) (sym listed) place.1 in
      let at : get_or found place.0 0 ≡ i = ap (λ (xs : List ℕ). get_or xs place.0 0) listed ∙ place.2 in
      sym (ap (λ a. marked new (get_or blocks a 0)) at) ∙ adds place.0 inside ∙ sym yes)
      (λ (no : test i ≡ false). ⊎_elim
      (λ (on : marked new (get_or blocks i 0) ≡ true). absurd (⊎_elim
      (λ (before : marked old (get_or blocks i 0) ≡ true). true≢false (sym before ∙ (left_over deposit old blocks part outside i l).1))
      (λ (some : (j : ℕ) × (j < length found) × (get_or blocks (get_or found j 0) 0 ≡ get_or blocks i 0)).
      let j = some.0 in
      let chosen = members_each (length blocks) test j (subst (λ (xs : List ℕ). j < length xs) listed some.1) in
      let at : get_or found j 0 ≡ get_or (members (length blocks) test) j 0 = ap (λ (xs : List ℕ). get_or xs j 0) listed in
      let below = chosen.0 in
      let same = apart deposit old blocks part outside (get_or found j 0) i (omega arith) l some.2 in
      true≢false (sym chosen.1 ∙ ap test (sym at ∙ same) ∙ no))
      (only (get_or blocks i 0) on)))
      (λ (off : marked new (get_or blocks i 0) ≡ false). off ∙ sym no)
      (cases_Bool (marked new (get_or blocks i 0))))
      (cases_Bool (test i));
}

-- where nothing was found, nothing is joined
pub joins_none : (deposit : Deposit) (marks : List Bool) (blocks found : List ℕ) (part : Graph) → IsOutside deposit (marked marks) blocks part
    → length found ≡ 0 → (test : ℕ → Bool) → found ≡ members (length blocks) test → IsJoined (marked marks) blocks test (marked marks)
joins_none deposit marks blocks found part outside none =
    joins deposit marks marks blocks found part outside (λ u h. h) (λ j l. absurd (omega arith)) (λ u h. inl h)

-- the shell before, joined with what was found, is the pit of the whole
pub grows : (direction : Direction) (prices : Prices) (graph part next : Graph) (factors : List ℕ) (k : ℕ) (old new : List Bool) (blocks others found : List ℕ)
    → IsPriced (deposit_of prices graph) → AreFactors factors → k < length factors
    → IsGrown direction (deposit_of prices graph) factors k old blocks part
    → (shown : ListsPit direction (rest_at prices (factor_of factors k) blocks part) no_blocks_fixed found)
    → ((test : ℕ → Bool) → found ≡ members (length blocks) test → IsJoined (marked old) blocks test (marked new))
    → length new ≡ graph.blocks → IsOutside (deposit_of prices graph) (marked new) others next
    → IsGrown direction (deposit_of prices graph) factors (suc k) new others next
grows direction prices graph part next factors k old new blocks others found priced are known grown shown joined size outside =
    let count = grown.outside.is_part.count in
    record {
      size = size;
      before = rest_gives_shell direction (deposit_of prices graph) factors k (marked old) blocks part shown.set (marked new) priced are.rising known grown.before grown.outside shown.is_pit
          (joined shown.set (shown.listed ∙ ap (λ n. members n shown.set) count));
      outside = outside;
    }

-- the marked blocks and their worth are the shell
pub is_shell : (direction : Direction) (prices : Prices) (graph next : Graph) (factors : List ℕ) (k : ℕ) (marks : List Bool) (others : List ℕ) (shell : Shell)
    → IsGrown direction (deposit_of prices graph) factors (suc k) marks others next → shell.factor ≡ factor_of factors k
    → shell.pit.items ≡ members (length marks) (marked marks) → shell.worth ≡ total (length shell.pit.items) (λ i. price_of prices (factor_of factors k) (get_or shell.pit.items i 0))
    → IsShell direction (deposit_of prices graph) shell
is_shell direction prices graph next factors k marks others shell grown factor pit sum =
    let deposit = deposit_of prices graph in
    let listed : shell.pit.items ≡ members graph.blocks (marked marks) = pit ∙ ap (λ n. members n (marked marks)) grown.size in
    let worth_is : shell.worth ≡ worth (mine_at deposit (factor_of factors k)) (marked marks) =
    sum ∙ ap (λ (xs : List ℕ). total (length xs) (λ i. price_of prices (factor_of factors k) (get_or xs i 0))) listed
    ∙ summed-members graph.blocks (marked marks) (price_of prices (factor_of factors k))
    ∙ total-same graph.blocks (λ u. when (marked marks u) (price_of prices (factor_of factors k) u)) (λ u. when (marked marks u) (value (mine_at deposit (factor_of factors k)) u))
    (λ u l. ap (when (marked marks u)) (sym (value_at_is deposit (factor_of factors k) u l))) in
    record {
      set = marked marks;
      listed = listed;
      is_pit = subst (λ f. IsPit direction (mine_at deposit f) no_blocks_fixed (marked marks)) (sym factor) grown.before;
      worth_is = worth_is ∙ ap (λ f. worth (mine_at deposit f) (marked marks)) (sym factor);
    }

pub is_rest : (direction : Direction) (prices : Prices) (graph part : Graph) (factors : List ℕ) (k : ℕ) (marks : List Bool) (blocks : List ℕ)
    → IsGrown direction (deposit_of prices graph) factors k marks blocks part → IsRest direction (deposit_of prices graph) factors k (rest_at prices (factor_of factors k) blocks part)
is_rest direction prices graph part factors k marks blocks grown = record {
  before = marked marks;
  is_before = grown.before;
  blocks = blocks;
  part = part;
  outside = grown.outside;
  rest_is = refl;
}

-- a slice of a list, written over the whole of it
pub written_over : (n : ℕ) (xs ys : List Bool) → length xs ≡ length ys → n ≡ length ys → take n (xs ++ drop (length xs) ys) ≡ xs
written_over n xs ys same all =
    ap (λ zs. take n (xs ++ zs)) (drop_all (length xs) ys (omega arith)) ∙ ap (take n) (append-nil xs) ∙ take_all n xs (omega arith)

-- what is left of the graph outside the marks
pub is_outside : (prices : Prices) (graph part other : Graph) (marks ms : List Bool) (blocks : List ℕ) → IsPart graph (λ u. not (get_or ms u false)) blocks part → IsGraph part.blocks part.pairs → ms ≡ marks → other ≡ part
    → IsOutside (deposit_of prices graph) (marked marks) blocks other
is_outside prices graph part other marks ms blocks p ordered same same2 =
    subst (λ (xs : List Bool). IsOutside (deposit_of prices graph) (marked xs) blocks other) same
    (subst (λ (h : Graph). IsOutside (deposit_of prices graph) (marked ms) blocks h) (sym same2)
    (record {
      is_part = record { blocks_are = p.blocks_are; count = p.count; inside = p.inside; all = p.all };
      is_graph = ordered;
    }))

-- the values of the rest are within the limits
pub values_small : (prices : Prices) (factor u : ℕ) (blocks : List ℕ) (values : List ℤ) → ArePrices prices.revenues prices.costs → factor ≤ 100000
    → ((i : ℕ) → i < length blocks → get_or blocks i 0 < length prices.revenues) → values ≡ map (price_of prices factor) blocks → u < length blocks → IsSmall (get_or values u (pos 0))
values_small prices factor u blocks values are few inside is l =
    let at : get_or values u (pos 0) ≡ price_of prices factor (get_or blocks u 0) = ap (λ (xs : List ℤ). get_or xs u (pos 0)) is ∙ get_or-map (price_of prices factor) blocks u 0 (pos 0) l in
    subst IsSmall (sym at) (each_small prices factor (get_or blocks u 0) are few (inside u l))

-- the instance of the rest
pub same_instance : (i : Instance) (prices : Prices) (factor : ℕ) (blocks : List ℕ) (part : Graph) → i.blocks ≡ part.blocks → i.values ≡ map (price_of prices factor) blocks → i.pairs ≡ part.pairs → i ≡ rest_at prices factor blocks part
same_instance i prices factor blocks part same_n same_v same_p =
    let with_n : ℕ → Instance = λ n. record { blocks = n; values = i.values; pairs = i.pairs } in
    let with_v : List ℤ → Instance = λ vs. record { blocks = part.blocks; values = vs; pairs = i.pairs } in
    let with_p : List (ℕ × ℕ) → Instance = λ ps. record { blocks = part.blocks; values = map (price_of prices factor) blocks; pairs = ps } in
    ap with_n same_n ∙ ap with_v same_v ∙ ap with_p same_p

pub found_below : (direction : Direction) (prices : Prices) (factor : ℕ) (blocks found : List ℕ) (part : Graph) → part.blocks ≡ length blocks → ListsPit direction (rest_at prices factor blocks part) no_blocks_fixed found → (j : ℕ) → j < length found → get_or found j 0 < length blocks
found_below direction prices factor blocks found part count shown j l =
    let each = members_each part.blocks shown.set j (subst (λ (xs : List ℕ). j < length xs) shown.listed l) in
    let at : get_or found j 0 ≡ get_or (members part.blocks shown.set) j 0 = ap (λ (xs : List ℕ). get_or xs j 0) shown.listed in
    let below = each.0 in
    omega arith

-- the marked blocks are blocks
pub marked_below : (n : ℕ) (marks : List Bool) (pit : List ℕ) → pit ≡ members (length marks) (marked marks) → length marks ≡ n → All (λ u. u < n) pit
marked_below n marks pit is size =
    subst (λ (xs : List ℕ). All (λ u. u < n) xs) (sym is) (subst (λ m. All (λ u. u < m) (members (length marks) (marked marks))) size (members_below (length marks) (marked marks)))

pub marked_few : (n : ℕ) (marks : List Bool) (pit : List ℕ) → pit ≡ members (length marks) (marked marks) → length marks ≡ n → length pit ≤ n
marked_few n marks pit is size =
    let few = members_few (length marks) (marked marks) in
    let same = ap (λ (xs : List ℕ). length xs) is in
    omega arith
