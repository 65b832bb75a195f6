-- A mine whose values rise outside its pit, up to those of another mine, has the pit of that other mine: that pit holds the one
-- before, and sets that hold it differ by the same sum in both mines. The values rise with the factor; negated ones as it falls.
use Rattle.std.proofs.Common.{◌≡◌, ℕ, ◌+◌, ◌<◌, ◌^◌, ◌&&◌, ◌||◌, Bool, true, false, refl, sym, ap, subst, ◌∙◌, arith, ⊎_elim, List, get_or, length}
use Rattle.std.specs.Prelude.{ℤ, pos, ◌+ℤ◌, ◌-ℤ◌, ◌≤ℤ◌}
use Rattle.std.specs.List.{All, range_with_len}
use Rattle.std.proofs.lemmas.List.Elements.{All-from_get_or}
use Rattle.std.proofs.lemmas.List.FromFn.{get_or-range_with_len, length-range_with_len}
use Rattle.std.proofs.lemmas.Bool.{and_from, and_parts, cases_Bool, cases_eq, or_left, true≢false}
use Rattle.std.proofs.lemmas.Int.{ints}
use Rattle.std.proofs.lemmas.List.{ext_get_or, get_or-map, get_or-set_same, get_or-set_other, length-map, length-set}
use Rattle.pit_model.specs.Sum.{total, when}
use Rattle.pit_model.specs.Graph.{Graph, first_of}
use Rattle.pit_model.specs.Pit.{IsPit, no_blocks_fixed}
use Rattle.pit_model.specs.Mine.{Instance, IsClosed, instance_of, members, value, worth}
use Rattle.pit_model.specs.Deposit.{Deposit, IsPriced, mine_at, value_at}
use Rattle.pit_model.specs.declared.direction.Direction.{Direction}
use Rattle.pit_model.specs.declared.direction.Direction.TheVariants.{Least, Greatest}
use Rattle.pit_model.specs.declared.shell.Shell.{Shell}
use Rattle.pit_model.specs.Shells.{IsShell}
use Rattle.pit_model.specs.Direction.{IsDual}
use Rattle.pit_model.proofs.Pits.{closed_best, closed_extreme, free}
use Rattle.pit_model.proofs.MemberSums.{summed-members}
use Rattle.pit_model.proofs.Rest.{union_closed}
use Rattle.pit_model.proofs.Shells.{gains, value_at_is, values_rise}
use Rattle.pit_model.proofs.Sums.{total-same, total-sub}
use Rattle.pit_model.proofs.Dual.{complement_is_greatest}
use Rattle.mine_graph.specs.Raised.{raised_at}
use Rattle.nesting.specs.Prices.{Prices, deposit_of, price_of}
use Rattle.nesting.specs.Grown.{marked}
use Rattle.nesting.specs.declared.parametric_shells.ParametricState.{ParametricState}
use Rattle.nesting.proofs.PriceBounds.{IsSmall}
use Rattle.nesting.specs.Parametric.{ArePairsToward, Follows, IsHeld, HasIncreased, IsSearchedAt, IsSolvedAt, searched_mine, set_toward, searched_value}

-- the numbers of all blocks
pub range_below : (n : ℕ) → All (λ u. u < n) (range_with_len 0 n)
range_below n =
    let size = length-range_with_len 0 n in
    All-from_get_or (λ u. u < n) (range_with_len 0 n) 0 (λ k l.
    let at = get_or-range_with_len 0 n k 0 (omega arith) in
    omega arith)

-- ---- one block more
pub risen_marked : (direction : Direction) (prices : Prices) (marks : List Bool) (factor i : ℕ) (before mine : Instance) → HasIncreased direction prices marks factor i before mine → marked marks i ≡ true → HasIncreased direction prices marks factor (i + 1) before mine
risen_marked direction prices marks factor i before mine is on = record {
  blocks = is.blocks;
  pairs = is.pairs;
  size = is.size;
  risen = λ u l off. ⊎_elim
      (λ (e : u ≡ i). absurd (true≢false (sym on ∙ sym (ap (marked marks) e) ∙ off)))
      (λ (ne : u ≡ i → ⊥). is.risen u (omega arith) off)
      (cases_eq u i);
  kept = is.kept;
  later = λ u l. is.later u (omega arith);
}

pub risen_same : (direction : Direction) (prices : Prices) (marks : List Bool) (factor i : ℕ) (before mine : Instance) → HasIncreased direction prices marks factor i before mine → value before i ≡ searched_value direction (price_of prices factor i) → HasIncreased direction prices marks factor (i + 1) before mine
risen_same direction prices marks factor i before mine is same = record {
  blocks = is.blocks;
  pairs = is.pairs;
  size = is.size;
  risen = λ u l off. ⊎_elim
      (λ (e : u ≡ i). subst (λ v. value mine v ≡ searched_value direction (price_of prices factor v)) (sym e) (is.later i (omega arith) ∙ same))
      (λ (ne : u ≡ i → ⊥). is.risen u (omega arith) off)
      (cases_eq u i);
  kept = is.kept;
  later = λ u l. is.later u (omega arith);
}

pub risen_raised : (direction : Direction) (prices : Prices) (marks : List Bool) (factor i : ℕ) (before mine : Instance) (amount : ℤ) → HasIncreased direction prices marks factor i before mine → i < length mine.values → marked marks i ≡ false
    → (value before i +ℤ amount) ≡ searched_value direction (price_of prices factor i) → HasIncreased direction prices marks factor (i + 1) before (raised_at mine i amount)
risen_raised direction prices marks factor i before mine amount is inside off same =
    let other : (u : ℕ) → (u ≡ i → ⊥) → value (raised_at mine i amount) u ≡ value mine u = λ u ne. get_or-set_other mine.values i u (value mine i +ℤ amount) (pos 0) ne in
    let here : value (raised_at mine i amount) i ≡ searched_value direction (price_of prices factor i) =
    get_or-set_same mine.values i (value mine i +ℤ amount) (pos 0) inside ∙ ap (λ x. x +ℤ amount) (is.later i (omega arith)) ∙ same in
    record {
      blocks = is.blocks;
      pairs = is.pairs;
      size = length-set mine.values i (value mine i +ℤ amount) ∙ is.size;
      risen = λ u l h. ⊎_elim
          (λ (e : u ≡ i). subst (λ v. value (raised_at mine i amount) v ≡ searched_value direction (price_of prices factor v)) (sym e) here)
          (λ (ne : u ≡ i → ⊥). other u ne ∙ is.risen u (omega arith) h)
          (cases_eq u i);
      kept = λ u on. other u (λ (e : u ≡ i). true≢false (sym on ∙ ap (marked marks) e ∙ off)) ∙ is.kept u on;
      later = λ u l. other u (λ (e : u ≡ i). omega arith) ∙ is.later u (omega arith);
    }

-- ---- the law
-- a set that holds another, and the other: by how much they differ in two mines that are the same outside the other
cut : (c s : Bool) (x y : ℤ) → (s ≡ true → c ≡ true) → (s ≡ false → x ≡ y) → (when c x -ℤ when c y) ≡ (when s x -ℤ when s y)
cut true true x y over same = refl
cut false true x y over same = absurd (true≢false (sym (over refl)))
cut true false x y over same = let e = same refl in omega (arith, ints)
cut false false x y over same = refl

-- the pit of a mine, and a closed set of one whose values are not lower
module _ (n : ℕ) (pairs : List (ℕ × ℕ)) (low high : List ℤ) (more : (u : ℕ) → u < n → get_or low u (pos 0) ≤ℤ get_or high u (pos 0)) (A C : ℕ → Bool)
    (pit : IsPit Least (instance_of n low pairs) no_blocks_fixed A) (closed : IsClosed (instance_of n high pairs) C) where
  met : IsClosed (instance_of n low pairs) (λ u. A u && C u)
  met k l h =
      let held = and_parts (A (first_of pairs k)) (C (first_of pairs k)) h in
      and_from _ _ (pit.allowed.closed k l held.0) (closed k l held.1)

  gained : (worth (instance_of n low pairs) A -ℤ worth (instance_of n low pairs) (λ u. A u && C u)) ≤ℤ (worth (instance_of n high pairs) (λ u. A u || C u) -ℤ worth (instance_of n high pairs) C)
  gained = gains n (value (instance_of n low pairs)) (value (instance_of n high pairs)) A C more

  -- the closed set gains by joining the pit
  joins : worth (instance_of n high pairs) C ≤ℤ worth (instance_of n high pairs) (λ u. A u || C u)
  joins =
      let best = closed_best pit (λ u. A u && C u) met in
      let rises = gained in
      omega (arith, ints)

  -- and where it gains nothing, it holds the pit
  holds : worth (instance_of n high pairs) (λ u. A u || C u) ≤ℤ worth (instance_of n high pairs) C → (u : ℕ) → u < n → A u ≡ true → C u ≡ true
  holds none u below h =
      let best = closed_best pit (λ u. A u && C u) met in
      let rises = gained in
      let same : worth (instance_of n low pairs) (λ u. A u && C u) ≡ worth (instance_of n low pairs) A = omega (arith, ints) in
      (and_parts (A u) (C u) (closed_extreme pit (λ u. A u && C u) met same u below h)).1

-- values before and after the rise, and the pit S of the lower mine, which is that of the mine before
module _ (n : ℕ) (pairs : List (ℕ × ℕ)) (low high vs ws : List ℤ) (S P : ℕ → Bool) (more : (u : ℕ) → u < n → get_or low u (pos 0) ≤ℤ get_or high u (pos 0))
    (outside : (u : ℕ) → u < n → S u ≡ false → get_or vs u (pos 0) ≡ get_or low u (pos 0))
    (risen : (u : ℕ) → u < n → S u ≡ false → get_or ws u (pos 0) ≡ get_or high u (pos 0))
    (kept : (u : ℕ) → u < n → S u ≡ true → get_or ws u (pos 0) ≡ get_or vs u (pos 0))
    (here : IsPit Least (instance_of n vs pairs) no_blocks_fixed S) (there : IsPit Least (instance_of n low pairs) no_blocks_fixed S)
    (pit : IsPit Least (instance_of n ws pairs) no_blocks_fixed P) where
  rise : (u : ℕ) → u < n → get_or vs u (pos 0) ≤ℤ get_or ws u (pos 0)
  rise u l = ⊎_elim
      (λ (on : S u ≡ true). let same = kept u l on in omega (arith, ints))
      (λ (off : S u ≡ false).
      let before = outside u l off in
      let after = risen u l off in
      let rises = more u l in
      omega (arith, ints))
      (cases_Bool (S u))

  -- the pit after the rise holds the one before
  pub grown : (u : ℕ) → u < n → S u ≡ true → P u ≡ true
  grown = holds n pairs vs ws rise S P here pit.allowed.closed (closed_best pit (λ v. S v || P v) (union_closed (instance_of n ws pairs) S P here.allowed.closed pit.allowed.closed))

  shift : (C : ℕ → Bool) → ((u : ℕ) → u < n → S u ≡ true → C u ≡ true)
      → (worth (instance_of n high pairs) C -ℤ worth (instance_of n ws pairs) C) ≡ (worth (instance_of n high pairs) S -ℤ worth (instance_of n ws pairs) S)
  shift C over =
      let v = value (instance_of n high pairs) in
      let w = value (instance_of n ws pairs) in
      sym (total-sub n (λ u. when (C u) (v u)) (λ u. when (C u) (w u)))
      ∙ total-same n (λ u. when (C u) (v u) -ℤ when (C u) (w u)) (λ u. when (S u) (v u) -ℤ when (S u) (w u))
      (λ u l. cut (C u) (S u) (v u) (w u) (over u l) (λ off. sym (risen u l off)))
      ∙ total-sub n (λ u. when (S u) (v u)) (λ u. when (S u) (w u))

  pub pit_there : IsPit Least (instance_of n high pairs) no_blocks_fixed P
  pit_there =
      let A = instance_of n high pairs in
      let M = instance_of n ws pairs in
      let own = shift P grown in
      record {
        allowed = free A P pit.allowed.closed;
        best = λ other ok.
            let gain = joins n pairs low high more S other there ok.closed in
            let up = closed_best pit (λ u. S u || other u) (union_closed M S other here.allowed.closed ok.closed) in
            let wide = shift (λ u. S u || other u) (λ u l h. or_left (S u) (other u) h) in
            omega (arith, ints);
        extreme = λ other ok same u l h.
            let up = closed_best pit (λ v. S v || other v) (union_closed M S other here.allowed.closed ok.closed) in
            let wide = shift (λ v. S v || other v) (λ v m on. or_left (S v) (other v) on) in
            let none : worth A (λ v. S v || other v) ≤ℤ worth A other = omega (arith, ints) in
            let narrow = shift other (holds n pairs low high more S other there ok.closed none) in
            let level : worth M other ≡ worth M P = omega (arith, ints) in
            closed_extreme pit other ok.closed level u l h;
      }

-- ---- the mine that is searched
-- its values, block by block
value_toward : (direction : Direction) (deposit : Deposit) (factor : ℕ) (pairs : List (ℕ × ℕ)) (u : ℕ) → u < deposit.blocks
    → value (searched_mine direction deposit factor pairs) u ≡ searched_value direction (value_at deposit factor u)
value_toward direction deposit factor pairs u below =
    let size = length-range_with_len 0 deposit.blocks in
    let from_zero = get_or-range_with_len 0 deposit.blocks u 0 below in
    let at : get_or (range_with_len 0 deposit.blocks) u 0 ≡ u = omega (arith, from_zero) in
    get_or-map (λ v. searched_value direction (value_at deposit factor v)) (range_with_len 0 deposit.blocks) u 0 (pos 0) (omega (arith, size, below))
    ∙ ap (λ v. searched_value direction (value_at deposit factor v)) at

-- each is within the limit
pub toward_most : (direction : Direction) (v : ℤ) → IsSmall v → searched_value direction v ≤ℤ pos (10 ^ 23)
toward_most Least v small = small.1
toward_most Greatest v small = let low = small.0 in omega (arith, ints)

-- they do not fall from turn to turn
values_toward_rise : (direction : Direction) (deposit : Deposit) (from to u : ℕ) → IsPriced deposit → Follows direction from to → u < deposit.blocks
    → searched_value direction (value_at deposit from u) ≤ℤ searched_value direction (value_at deposit to u)
values_toward_rise Least deposit from to u priced le l =
    let one = value_at_is deposit from u l in
    let two = value_at_is deposit to u l in
    let more = values_rise deposit from to u priced le l in
    omega (arith, ints)
values_toward_rise Greatest deposit from to u priced le l =
    let one = value_at_is deposit from u l in
    let two = value_at_is deposit to u l in
    let more = values_rise deposit to from u priced le l in
    omega (arith, ints)

-- toward the greatest pit it is the dual mine
dual_of : (deposit : Deposit) (factor : ℕ) (pairs : List (ℕ × ℕ)) → ArePairsToward Greatest deposit pairs → IsDual (mine_at deposit factor) (searched_mine Greatest deposit factor pairs)
dual_of deposit factor pairs are = record {
  reversed = record { same_blocks = refl; pairs_are = are };
  counted = length-map (range_with_len 0 deposit.blocks) (λ u. searched_value Greatest (value_at deposit factor u)) ∙ length-range_with_len 0 deposit.blocks;
  negated = λ u l. value_toward Greatest deposit factor pairs u l ∙ ap (λ v. pos 0 -ℤ v) (sym (value_at_is deposit factor u l));
}

-- its pit gives the pit toward the direction
pit_toward_is : (direction : Direction) (deposit : Deposit) (factor : ℕ) (pairs : List (ℕ × ℕ)) (P : ℕ → Bool) → ArePairsToward direction deposit pairs
    → IsPit Least (searched_mine direction deposit factor pairs) no_blocks_fixed P → IsPit direction (mine_at deposit factor) no_blocks_fixed (set_toward direction P)
pit_toward_is Least deposit factor pairs P are pit = subst (λ ps. IsPit Least (searched_mine Least deposit factor ps) no_blocks_fixed P) are pit
pit_toward_is Greatest deposit factor pairs P are pit =
    complement_is_greatest (mine_at deposit factor) (searched_mine Greatest deposit factor pairs) P (dual_of deposit factor pairs are) pit

-- a mine in memory that is searched at a factor
blocks_toward : (direction : Direction) (deposit : Deposit) (factor : ℕ) (mine : Instance) → IsSearchedAt direction deposit factor mine → mine.blocks ≡ deposit.blocks
blocks_toward Least deposit factor mine is = ap (λ (m : Instance). m.blocks) is
blocks_toward Greatest deposit factor mine is = is.reversed.same_blocks

-- it has a row for each block, and so has a copy of it
pub rows_searched : (direction : Direction) (prices : Prices) (graph : Graph) (factor : ℕ) (mine copy : Instance) → length prices.revenues ≡ graph.blocks
    → IsSearchedAt direction (deposit_of prices graph) factor mine → copy ≡ mine → length prices.revenues ≡ copy.blocks
rows_searched direction prices graph factor mine copy rows is same =
    rows ∙ sym (blocks_toward direction (deposit_of prices graph) factor mine is) ∙ sym (ap (λ (m : Instance). m.blocks) same)

pairs_toward : (direction : Direction) (deposit : Deposit) (factor : ℕ) (mine : Instance) → IsSearchedAt direction deposit factor mine → ArePairsToward direction deposit mine.pairs
pairs_toward Least deposit factor mine is = ap (λ (m : Instance). m.pairs) is
pairs_toward Greatest deposit factor mine is = is.reversed.pairs_are

searched_is : (direction : Direction) (deposit : Deposit) (factor : ℕ) (mine : Instance) → IsSearchedAt direction deposit factor mine → mine ≡ searched_mine direction deposit factor mine.pairs
searched_is Least deposit factor mine is = is ∙ ap (λ ps. searched_mine Least deposit factor ps) (sym (ap (λ (m : Instance). m.pairs) is))
searched_is Greatest deposit factor mine is =
    let values = (searched_mine Greatest deposit factor mine.pairs).values in
    let blocks : mine.blocks ≡ deposit.blocks = is.reversed.same_blocks in
    let count = (dual_of deposit factor mine.pairs is.reversed.pairs_are).counted in
    let counted = is.counted in
    let same : mine.values ≡ values = ext_get_or (pos 0) mine.values values (omega arith)
    (λ u l. let below : u < deposit.blocks = omega arith in
    is.negated u below ∙ ap (λ v. pos 0 -ℤ v) (value_at_is deposit factor u below) ∙ sym (value_toward Greatest deposit factor mine.pairs u below)) in
    ap (λ n. instance_of n mine.values mine.pairs) blocks ∙ ap (λ vs. instance_of deposit.blocks vs mine.pairs) same

-- the mine that has risen: its pit holds the one before, and is that of the next factor
module _ (direction : Direction) (prices : Prices) (graph : Graph) (from to : ℕ) (marks : List Bool) (before mine : Instance) (P : ℕ → Bool) (priced : IsPriced (deposit_of prices graph)) (follows : Follows direction from to)
    (held : IsHeld direction (deposit_of prices graph) from marks before) (is : HasIncreased direction prices marks to before.blocks before mine) (pit : IsPit Least mine no_blocks_fixed P) where
  abbrev low : List ℤ
  low = (searched_mine direction (deposit_of prices graph) from before.pairs).values

  abbrev high : List ℤ
  high = (searched_mine direction (deposit_of prices graph) to before.pairs).values

  same_blocks : mine.blocks ≡ graph.blocks
  same_blocks = is.blocks ∙ held.blocks

  more : (u : ℕ) → u < graph.blocks → get_or low u (pos 0) ≤ℤ get_or high u (pos 0)
  more u l =
      let deposit = deposit_of prices graph in
      let one = value_toward direction deposit from before.pairs u l in
      let two = value_toward direction deposit to before.pairs u l in
      let rises = values_toward_rise direction deposit from to u priced follows l in
      omega (arith, ints)

  old_outside : (u : ℕ) → u < graph.blocks → held.set u ≡ false → value before u ≡ get_or low u (pos 0)
  old_outside u l off = held.outside u l off ∙ sym (value_toward direction (deposit_of prices graph) from before.pairs u l)

  new_outside : (u : ℕ) → u < graph.blocks → held.set u ≡ false → value mine u ≡ searched_value direction (value_at (deposit_of prices graph) to u)
  new_outside u l off = let all = held.blocks in is.risen u (omega arith) (held.marks_are u l ∙ off)

  new_values : (u : ℕ) → u < graph.blocks → held.set u ≡ false → value mine u ≡ get_or high u (pos 0)
  new_values u l off = new_outside u l off ∙ sym (value_toward direction (deposit_of prices graph) to before.pairs u l)

  old_values : (u : ℕ) → u < graph.blocks → held.set u ≡ true → value mine u ≡ value before u
  old_values u l on = is.kept u (held.marks_are u l ∙ on)

  pit_before : IsPit Least (instance_of graph.blocks before.values before.pairs) no_blocks_fixed held.set
  pit_before = subst (λ (m : Instance). IsPit Least m no_blocks_fixed held.set) (ap (λ n. instance_of n before.values before.pairs) held.blocks) held.here

  pit_now : IsPit Least (instance_of graph.blocks mine.values before.pairs) no_blocks_fixed P
  pit_now = subst (λ (m : Instance). IsPit Least m no_blocks_fixed P) (ap (λ n. instance_of n mine.values mine.pairs) same_blocks ∙ ap (λ ps. instance_of graph.blocks mine.values ps) is.pairs) pit

  pit_high : IsPit Least (searched_mine direction (deposit_of prices graph) to before.pairs) no_blocks_fixed P
  pit_high = pit_there graph.blocks before.pairs low high before.values mine.values held.set P more old_outside new_values old_values pit_before held.there pit_now

  same_pairs : ArePairsToward direction (deposit_of prices graph) mine.pairs
  same_pairs = subst (λ ps. ArePairsToward direction (deposit_of prices graph) ps) (sym is.pairs) held.pairs

  pub pit_next : IsPit Least (searched_mine direction (deposit_of prices graph) to mine.pairs) no_blocks_fixed P
  pit_next = subst (λ ps. IsPit Least (searched_mine direction (deposit_of prices graph) to ps) no_blocks_fixed P) (sym is.pairs) pit_high

  pub held_next : (new : List Bool) → length new ≡ mine.blocks → ((u : ℕ) → u < mine.blocks → marked new u ≡ P u) → IsHeld direction (deposit_of prices graph) to new mine
  held_next new size marks_are =
      let all = same_blocks in
      record {
        set = P;
        size = size ∙ same_blocks;
        marks_are = λ u l. marks_are u (omega arith);
        blocks = same_blocks;
        pairs = same_pairs;
        outside = λ u l off. ⊎_elim
            (λ (on : held.set u ≡ true).
            absurd (true≢false (sym (grown graph.blocks before.pairs low high before.values mine.values held.set P more old_outside new_values old_values pit_before held.there pit_now u l on) ∙ off)))
            (λ (out : held.set u ≡ false). new_outside u l out)
            (cases_Bool (held.set u));
        here = pit;
        there = pit_next;
      }

-- the mine that is searched at a factor, solved
outside_toward : (direction : Direction) (deposit : Deposit) (factor : ℕ) (mine : Instance) → IsSearchedAt direction deposit factor mine
    → (u : ℕ) → u < deposit.blocks → value mine u ≡ searched_value direction (value_at deposit factor u)
outside_toward direction deposit factor mine is u l =
    ap (λ (m : Instance). value m u) (searched_is direction deposit factor mine is) ∙ value_toward direction deposit factor mine.pairs u l

pub held_first : (direction : Direction) (prices : Prices) (graph : Graph) (factor : ℕ) (new : List Bool) (mine : Instance) (P : ℕ → Bool) → IsSearchedAt direction (deposit_of prices graph) factor mine → IsPit Least mine no_blocks_fixed P
    → length new ≡ mine.blocks → ((u : ℕ) → u < mine.blocks → marked new u ≡ P u) → IsHeld direction (deposit_of prices graph) factor new mine
held_first direction prices graph factor new mine P is pit size marks_are =
    let deposit = deposit_of prices graph in
    let blocks : mine.blocks ≡ graph.blocks = blocks_toward direction deposit factor mine is in
    record {
      set = P;
      size = size ∙ blocks;
      marks_are = λ u l. marks_are u (omega arith);
      blocks = blocks;
      pairs = pairs_toward direction deposit factor mine is;
      outside = λ u l off. outside_toward direction deposit factor mine is u l;
      here = pit;
      there = subst (λ (m : Instance). IsPit Least m no_blocks_fixed P) (searched_is direction deposit factor mine is) pit;
    }

-- the pit of a factor, listed, is its shell
pub is_shell : (direction : Direction) (prices : Prices) (graph : Graph) (factor : ℕ) (pairs : List (ℕ × ℕ)) (P : ℕ → Bool) (shell : Shell) → ArePairsToward direction (deposit_of prices graph) pairs
    → IsPit Least (searched_mine direction (deposit_of prices graph) factor pairs) no_blocks_fixed P → shell.pit.items ≡ members graph.blocks (set_toward direction P)
    → shell.factor ≡ factor → shell.worth ≡ total (length shell.pit.items) (λ i. price_of prices factor (get_or shell.pit.items i 0)) → IsShell direction (deposit_of prices graph) shell
is_shell direction prices graph factor pairs P shell are pit listed named sum =
    let deposit = deposit_of prices graph in
    let set = set_toward direction P in
    let worth_is : shell.worth ≡ worth (mine_at deposit factor) set =
    sum ∙ ap (λ (xs : List ℕ). total (length xs) (λ i. price_of prices factor (get_or xs i 0))) listed
    ∙ summed-members graph.blocks set (price_of prices factor)
    ∙ total-same graph.blocks (λ u. when (set u) (price_of prices factor u)) (λ u. when (set u) (value (mine_at deposit factor) u))
    (λ u l. ap (when (set u)) (sym (value_at_is deposit factor u l))) in
    record {
      set = set;
      listed = listed;
      is_pit = subst (λ f. IsPit direction (mine_at deposit f) no_blocks_fixed set) (sym named) (pit_toward_is direction deposit factor pairs P are pit);
      worth_is = worth_is ∙ ap (λ f. worth (mine_at deposit f) set) (sym named);
    }

-- ---- what a solve gives
pub first_held : (direction : Direction) (prices : Prices) (graph : Graph) (factor : ℕ) (mine : Instance) (risen : ParametricState) (shell : Shell) → IsSearchedAt direction (deposit_of prices graph) factor mine
    → IsSolvedAt direction prices factor mine risen shell → IsHeld direction (deposit_of prices graph) factor risen.marks.items risen.mine
first_held direction prices graph factor mine risen shell is solved =
    subst (λ (m : Instance). IsHeld direction (deposit_of prices graph) factor risen.marks.items m) (sym solved.same)
    (held_first direction prices graph factor risen.marks.items mine solved.set is solved.is_pit solved.size solved.marks_are)

pub first_is_shell : (direction : Direction) (prices : Prices) (graph : Graph) (factor : ℕ) (mine : Instance) (risen : ParametricState) (shell : Shell) → IsSearchedAt direction (deposit_of prices graph) factor mine
    → IsSolvedAt direction prices factor mine risen shell → IsShell direction (deposit_of prices graph) shell
first_is_shell direction prices graph factor mine risen shell is solved =
    let deposit = deposit_of prices graph in
    is_shell direction prices graph factor mine.pairs solved.set shell (pairs_toward direction deposit factor mine is)
    (subst (λ (m : Instance). IsPit Least m no_blocks_fixed solved.set) (searched_is direction deposit factor mine is) solved.is_pit)
    (solved.listed ∙ ap (λ n. members n (set_toward direction solved.set)) (blocks_toward direction deposit factor mine is)) solved.factor_is solved.worth_is

module _ (direction : Direction) (prices : Prices) (graph : Graph) (from to : ℕ) (marks : List Bool) (before mine : Instance) (risen : ParametricState) (shell : Shell) (priced : IsPriced (deposit_of prices graph))
    (follows : Follows direction from to) (held : IsHeld direction (deposit_of prices graph) from marks before) (is : HasIncreased direction prices marks to before.blocks before mine)
    (solved : IsSolvedAt direction prices to mine risen shell) where
  pub next_held : IsHeld direction (deposit_of prices graph) to risen.marks.items risen.mine
  next_held = subst (λ (m : Instance). IsHeld direction (deposit_of prices graph) to risen.marks.items m) (sym solved.same)
      (held_next direction prices graph from to marks before mine solved.set priced follows held is solved.is_pit risen.marks.items solved.size solved.marks_are)

  pub next_is_shell : IsShell direction (deposit_of prices graph) shell
  next_is_shell = is_shell direction prices graph to mine.pairs solved.set shell (same_pairs direction prices graph from to marks before mine solved.set priced follows held is solved.is_pit)
      (pit_next direction prices graph from to marks before mine solved.set priced follows held is solved.is_pit)
      (solved.listed ∙ ap (λ n. members n (set_toward direction solved.set)) (is.blocks ∙ held.blocks)) solved.factor_is solved.worth_is
