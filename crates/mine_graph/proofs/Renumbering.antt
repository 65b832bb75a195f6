-- The rows of a part's blocks, one after another, give its pairs; and its pairs, renumbered, are a graph without a cycle.
use Rattle.std.proofs.Common.{◌≡◌, ℕ, suc, ◌+◌, ◌<◌, ◌≤◌, ◌==◌, nat_lt, Bool, true, false, ◌&&◌, ◌||◌, refl, sym, ap, subst, ◌∙◌, arith, ⊎_elim, inl, inr, List, [], ◌∷◌, ◌++◌, map, get_or, length}
use Rattle.std.proofs.lemmas.Bool.{cases_eq, cases_lt, cases_Bool, and_parts, eq-eqb, ne_eqb, lt-ltb, le-ltb}
use Rattle.std.proofs.lemmas.List.{get_or-map, length-map, get_or_past}
use Rattle.pit_model.specs.Graph.{Graph, first_of, second_of, AreInRange, AreRising, IsAcyclic, IsGraph}
use Rattle.pit_model.specs.Mine.{members}
use Rattle.pit_model.specs.Part.{IsPart}
use Rattle.mine_graph.specs.Renumbered.{has_label, placed_pair, is_inside, is_inside_before, IsPlaced}
use Rattle.pit_model.proofs.Members.{IsMemberAt, bound_of, first_bound, members_cut, members_each, members_ext, members_few, members_one_more, members_place, members_rise}

and_false : (b : Bool) → (b && false) ≡ false
and_false true = refl
and_false false = refl

and_true : (b : Bool) → (b && true) ≡ b
and_true true = refl
and_true false = refl

or_false : (b : Bool) → (b || false) ≡ b
or_false true = refl
or_false false = refl

-- the pairs inside so far: those of the blocks below one, and those of this block with a number below k
abbrev pub inside_so_far : List (ℕ × ℕ) → List ℕ → ℕ → ℕ → ℕ → ℕ → Bool
inside_so_far pairs labels label block k i =
    is_inside pairs labels label i && (nat_lt (first_of pairs i) block || (first_of pairs i == block && nat_lt i k))

-- pair k of the block is the next one
at_row : (pairs : List (ℕ × ℕ)) (labels : List ℕ) (label block k bound : ℕ) → first_of pairs k ≡ block
    → inside_so_far pairs labels label block bound k ≡ (is_inside pairs labels label k && nat_lt k bound)
at_row pairs labels label block k bound e =
    ap (λ b. is_inside pairs labels label k && (b || (first_of pairs k == block && nat_lt k bound))) (le-ltb (first_of pairs k) block (omega arith))
    ∙ ap (λ b. is_inside pairs labels label k && (b && nat_lt k bound)) (eq-eqb (first_of pairs k) block e)

off_row : (pairs : List (ℕ × ℕ)) (labels : List ℕ) (label block k i : ℕ) → (first_of pairs i ≡ block → ⊥)
    → inside_so_far pairs labels label block k i ≡ (is_inside pairs labels label i && nat_lt (first_of pairs i) block)
off_row pairs labels label block k i ne =
    ap (λ b. is_inside pairs labels label i && (nat_lt (first_of pairs i) block || (b && nat_lt i k))) (ne_eqb (first_of pairs i) block ne)
    ∙ ap (λ b. is_inside pairs labels label i && b) (or_false (nat_lt (first_of pairs i) block))

-- in rising pairs a later pair has no lesser block
later_first : (pairs : List (ℕ × ℕ)) (i k : ℕ) → AreRising pairs → i < k → k < length pairs → first_of pairs i ≤ first_of pairs k
later_first pairs i k rising l inside = ⊎_elim
    (λ (h : first_of pairs i < first_of pairs k). omega arith)
    (λ (h : (first_of pairs i ≡ first_of pairs k) × (second_of pairs i < second_of pairs k)). let e = h.0 in omega arith)
    (rising i k l inside)

-- where the row begins, the pairs of the blocks below are inside so far
pub row_begins : (pairs : List (ℕ × ℕ)) (labels : List ℕ) (label block begin : ℕ) → ((k : ℕ) → k < length pairs → first_of pairs k ≡ block → begin ≤ k)
    → members (length pairs) (inside_so_far pairs labels label block begin) ≡ members (length pairs) (is_inside_before pairs labels label block)
row_begins pairs labels label block begin own = members_ext (length pairs) (inside_so_far pairs labels label block begin) (is_inside_before pairs labels label block) (λ i l. ⊎_elim
    (λ (e : first_of pairs i ≡ block).
    let low = own i l e in
    at_row pairs labels label block i begin e ∙ ap (λ b. is_inside pairs labels label i && b) (le-ltb i begin low ∙ sym (le-ltb (first_of pairs i) block (omega arith))))
    (λ (ne : first_of pairs i ≡ block → ⊥). off_row pairs labels label block begin i ne)
    (cases_eq (first_of pairs i) block))

pub row_ends : (pairs : List (ℕ × ℕ)) (labels : List ℕ) (label block end : ℕ) → ((k : ℕ) → k < length pairs → first_of pairs k ≡ block → k < end)
    → members (length pairs) (inside_so_far pairs labels label block end) ≡ members (length pairs) (is_inside_before pairs labels label (block + 1))
row_ends pairs labels label block end own = members_ext (length pairs) (inside_so_far pairs labels label block end) (is_inside_before pairs labels label (block + 1)) (λ i l. ⊎_elim
    (λ (e : first_of pairs i ≡ block).
    let high = own i l e in
    at_row pairs labels label block i end e ∙ ap (λ b. is_inside pairs labels label i && b) (lt-ltb i end high ∙ sym (lt-ltb (first_of pairs i) (block + 1) (omega arith))))
    (λ (ne : first_of pairs i ≡ block → ⊥). off_row pairs labels label block end i ne ∙ ap (λ b. is_inside pairs labels label i && b) (⊎_elim
    (λ (low : first_of pairs i < block). lt-ltb (first_of pairs i) block low ∙ sym (lt-ltb (first_of pairs i) (block + 1) (omega arith)))
    (λ (high : block ≤ first_of pairs i). le-ltb (first_of pairs i) block high ∙ sym (le-ltb (first_of pairs i) (block + 1) (omega arith)))
    (cases_lt (first_of pairs i) block)))
    (cases_eq (first_of pairs i) block))

-- a pair of the row that isn't the one at hand counts as before
row_same : (pairs : List (ℕ × ℕ)) (labels : List ℕ) (label block k i : ℕ) → (i ≡ k → ⊥)
    → inside_so_far pairs labels label block k i ≡ inside_so_far pairs labels label block (k + 1) i
row_same pairs labels label block k i ne = ap (λ b. is_inside pairs labels label i && (nat_lt (first_of pairs i) block || (first_of pairs i == block && b))) (⊎_elim
    (λ (low : i < k). lt-ltb i k low ∙ sym (lt-ltb i (k + 1) (omega arith)))
    (λ (high : k ≤ i). le-ltb i k high ∙ sym (le-ltb i (k + 1) (omega arith)))
    (cases_lt i k))

-- nothing behind the bound is inside so far
behind_row : (pairs : List (ℕ × ℕ)) (labels : List ℕ) (label block k i bound : ℕ) → AreRising pairs → first_of pairs k ≡ block → k ≤ i → i < length pairs → bound ≤ i
    → inside_so_far pairs labels label block bound i ≡ false
behind_row pairs labels label block k i bound rising e l m past = ⊎_elim
    (λ (z : first_of pairs i ≡ block). at_row pairs labels label block i bound z ∙ ap (λ b. is_inside pairs labels label i && b) (le-ltb i bound past) ∙ and_false (is_inside pairs labels label i))
    (λ (ne : first_of pairs i ≡ block → ⊥).
    let high : block ≤ first_of pairs i = ⊎_elim
    (λ (s : i ≡ k). absurd (ne (ap (first_of pairs) s ∙ e)))
    (λ (ns : i ≡ k → ⊥). let up = later_first pairs k i rising (omega arith) m in omega arith)
    (cases_eq i k) in
    off_row pairs labels label block bound i ne ∙ ap (λ b. is_inside pairs labels label i && b) (le-ltb (first_of pairs i) block high) ∙ and_false (is_inside pairs labels label i))
    (cases_eq (first_of pairs i) block)

-- the next pair of the row is inside
pub row_adds : (pairs : List (ℕ × ℕ)) (labels : List ℕ) (label block k : ℕ) → AreRising pairs → k < length pairs → first_of pairs k ≡ block
    → is_inside pairs labels label k ≡ true
    → members (length pairs) (inside_so_far pairs labels label block (k + 1)) ≡ members (length pairs) (inside_so_far pairs labels label block k) ++ k ∷ []
row_adds pairs labels label block k rising inside e on =
    members_one_more (length pairs) k (inside_so_far pairs labels label block k) (inside_so_far pairs labels label block (k + 1)) inside
    (λ i l. row_same pairs labels label block k i (λ z. omega arith))
    (λ i l m. behind_row pairs labels label block k i k rising e l m (omega arith))
    (λ i l m. behind_row pairs labels label block k i (k + 1) rising e (omega arith) m (omega arith))
    (at_row pairs labels label block k (k + 1) e ∙ ap (λ b. b && nat_lt k (k + 1)) on ∙ lt-ltb k (k + 1) (omega arith))

-- the next pair of the row leads outside
pub row_skips : (pairs : List (ℕ × ℕ)) (labels : List ℕ) (label block k : ℕ) → is_inside pairs labels label k ≡ false
    → members (length pairs) (inside_so_far pairs labels label block (k + 1)) ≡ members (length pairs) (inside_so_far pairs labels label block k)
row_skips pairs labels label block k off = members_ext (length pairs) (inside_so_far pairs labels label block (k + 1)) (inside_so_far pairs labels label block k) (λ i l. ⊎_elim
    (λ (z : i ≡ k). let none : is_inside pairs labels label i ≡ false = ap (is_inside pairs labels label) z ∙ off in
    ap (λ b. b && (nat_lt (first_of pairs i) block || (first_of pairs i == block && nat_lt i (k + 1)))) none
    ∙ sym (ap (λ b. b && (nat_lt (first_of pairs i) block || (first_of pairs i == block && nat_lt i k))) none))
    (λ (ne : i ≡ k → ⊥). sym (row_same pairs labels label block k i ne))
    (cases_eq i k))

-- before the first block nothing is inside
pub rows_begin : (pairs : List (ℕ × ℕ)) (labels : List ℕ) (label n : ℕ) → AreInRange pairs n
    → members (length pairs) (is_inside_before pairs labels label (bound_of n (has_label labels label) 0)) ≡ []
rows_begin pairs labels label n range =
    members_cut (length pairs) 0 (is_inside_before pairs labels label (bound_of n (has_label labels label) 0)) (omega arith) (λ i _ l. ⊎_elim
    (λ (on : is_inside pairs labels label i ≡ true).
    let own = (and_parts (has_label labels label (first_of pairs i)) (has_label labels label (second_of pairs i)) on).0 in
    let low = first_bound n (has_label labels label) (first_of pairs i) (range i l).0 own in
    ap (λ b. is_inside pairs labels label i && b) (le-ltb (first_of pairs i) (bound_of n (has_label labels label) 0) low) ∙ and_false (is_inside pairs labels label i))
    (λ (off : is_inside pairs labels label i ≡ false). ap (λ b. b && nat_lt (first_of pairs i) (bound_of n (has_label labels label) 0)) off)
    (cases_Bool (is_inside pairs labels label i)))

-- between a block and the next one lies no row
pub rows_on : (pairs : List (ℕ × ℕ)) (labels : List ℕ) (label n place u : ℕ) → AreInRange pairs n → IsMemberAt n (has_label labels label) place u
    → members (length pairs) (is_inside_before pairs labels label (u + 1)) ≡ members (length pairs) (is_inside_before pairs labels label (bound_of n (has_label labels label) (suc place)))
rows_on pairs labels label n place u range at =
    let next : ℕ = bound_of n (has_label labels label) (suc place) in
    let up = at.next in
    members_ext (length pairs) (is_inside_before pairs labels label (u + 1)) (is_inside_before pairs labels label next) (λ i l. ⊎_elim
    (λ (on : is_inside pairs labels label i ≡ true).
    let own = (and_parts (has_label labels label (first_of pairs i)) (has_label labels label (second_of pairs i)) on).0 in
    ap (λ b. is_inside pairs labels label i && b) (⊎_elim
    (λ (low : first_of pairs i < u + 1). lt-ltb (first_of pairs i) (u + 1) low ∙ sym (lt-ltb (first_of pairs i) next (omega arith)))
    (λ (high : u + 1 ≤ first_of pairs i). le-ltb (first_of pairs i) (u + 1) high ∙ sym (le-ltb (first_of pairs i) next (at.only (first_of pairs i) (range i l).0 own (omega arith))))
    (cases_lt (first_of pairs i) (u + 1))))
    (λ (off : is_inside pairs labels label i ≡ false). ap (λ b. b && nat_lt (first_of pairs i) (u + 1)) off ∙ sym (ap (λ b. b && nat_lt (first_of pairs i) next) off))
    (cases_Bool (is_inside pairs labels label i)))

pub rows_end : (pairs : List (ℕ × ℕ)) (labels : List ℕ) (label n place : ℕ) → AreInRange pairs n → length (members n (has_label labels label)) ≤ place
    → members (length pairs) (is_inside_before pairs labels label (bound_of n (has_label labels label) place)) ≡ members (length pairs) (is_inside pairs labels label)
rows_end pairs labels label n place range past =
    let all : bound_of n (has_label labels label) place ≡ n = get_or_past (members n (has_label labels label)) place n past in
    members_ext (length pairs) (is_inside_before pairs labels label (bound_of n (has_label labels label) place)) (is_inside pairs labels label) (λ i l.
    let below = (range i l).0 in
    ap (λ b. is_inside pairs labels label i && b) (lt-ltb (first_of pairs i) (bound_of n (has_label labels label) place) (omega arith)) ∙ and_true (is_inside pairs labels label i))

-- a block with the label and its place
pub placed_back : (n : ℕ) (labels blocks places : List ℕ) (label u : ℕ) → blocks ≡ members n (has_label labels label) → IsPlaced blocks (length blocks) places → u < n → has_label labels label u ≡ true
    → (get_or places u 0 < length blocks) × (get_or blocks (get_or places u 0) 0 ≡ u)
placed_back n labels blocks places label u is placed below own =
    let r = members_place n (has_label labels label) u below own in
    let j : ℕ = r.0 in
    let inside : j < length blocks = subst (λ xs. j < length xs) (sym is) r.1 in
    let at : get_or blocks j 0 ≡ u = ap (λ xs. get_or xs j 0) is ∙ r.2 in
    let place : get_or places u 0 ≡ j = ap (λ v. get_or places v 0) (sym at) ∙ placed j inside in
    (omega arith, ap (λ i. get_or blocks i 0) place ∙ at)

module _ (n : ℕ) (pairs : List (ℕ × ℕ)) (labels blocks places : List ℕ) (label : ℕ)
    (graph : IsGraph n pairs) (blocks_are : blocks ≡ members n (has_label labels label)) (placed : IsPlaced blocks (length blocks) places) where
  abbrev pub within : List ℕ
  within = members (length pairs) (is_inside pairs labels label)

  abbrev pub renumbered : List (ℕ × ℕ)
  renumbered = map (placed_pair pairs places) within

  size : length renumbered ≡ length within
  size = length-map within (placed_pair pairs places)

  at : (k : ℕ) → k < length within → get_or renumbered k (0, 0) ≡ placed_pair pairs places (get_or within k 0)
  at k l = get_or-map (placed_pair pairs places) within k 0 (0, 0) l

  -- a renumbered pair and the pair that it comes from
  from : (k : ℕ) → k < length within
      → (get_or within k 0 < length pairs)
      × ((first_of renumbered k < length blocks) × (get_or blocks (first_of renumbered k) 0 ≡ first_of pairs (get_or within k 0)))
      × ((second_of renumbered k < length blocks) × (get_or blocks (second_of renumbered k) 0 ≡ second_of pairs (get_or within k 0)))
  from k l =
      let each = members_each (length pairs) (is_inside pairs labels label) k l in
      let j : ℕ = get_or within k 0 in
      let range = graph.in_range j each.0 in
      let own = and_parts (has_label labels label (first_of pairs j)) (has_label labels label (second_of pairs j)) each.1 in
      let left = placed_back n labels blocks places label (first_of pairs j) blocks_are placed range.0 own.0 in
      let right = placed_back n labels blocks places label (second_of pairs j) blocks_are placed range.1 own.1 in
      let first : first_of renumbered k ≡ get_or places (first_of pairs j) 0 = ap (λ q. q.0) (at k l) in
      let second : second_of renumbered k ≡ get_or places (second_of pairs j) 0 = ap (λ q. q.1) (at k l) in (
        each.0,
        (subst (λ i. i < length blocks) (sym first) left.0, ap (λ i. get_or blocks i 0) first ∙ left.1),
        (subst (λ i. i < length blocks) (sym second) right.0, ap (λ i. get_or blocks i 0) second ∙ right.1),
      )

  pub renumbered_few : length renumbered ≤ length pairs
  renumbered_few = let few = members_few (length pairs) (is_inside pairs labels label) in let s = size in omega arith

  renumbered_in_range : AreInRange renumbered (length blocks)
  renumbered_in_range k l = let s = size in let f = from k (omega arith) in (f.1.0, f.2.0)

  -- places rise with their blocks
  places_rise : (i j : ℕ) → i < length blocks → get_or blocks i 0 < get_or blocks j 0 → i < j
  places_rise i j inside less = ⊎_elim
      (λ (low : i < j). low)
      (λ (high : j ≤ i). ⊎_elim
      (λ (same : j ≡ i). let e = ap (λ x. get_or blocks x 0) same in omega arith)
      (λ (apart : j ≡ i → ⊥).
      let up : get_or blocks j 0 < get_or blocks i 0 = subst (λ xs. get_or xs j 0 < get_or xs i 0) (sym blocks_are) (members_rise n (has_label labels label) j i (omega arith) (subst (λ xs. i < length xs) blocks_are inside)) in
      omega arith)
      (cases_eq j i))
      (cases_lt i j)

  renumbered_rising : AreRising renumbered
  renumbered_rising k l less inside =
      let s = size in
      let a = from k (omega arith) in
      let b = from l (omega arith) in
      let up = members_rise (length pairs) (is_inside pairs labels label) k l less (omega arith) in
      ⊎_elim
      (λ (h : first_of pairs (get_or within k 0) < first_of pairs (get_or within l 0)).
      inl (places_rise (first_of renumbered k) (first_of renumbered l) a.1.0 (let x = a.1.1 in let y = b.1.1 in omega arith)))
      (λ (h : (first_of pairs (get_or within k 0) ≡ first_of pairs (get_or within l 0)) × (second_of pairs (get_or within k 0) < second_of pairs (get_or within l 0))).
      let one = members_each (length pairs) (is_inside pairs labels label) k (omega arith) in
      let two = members_each (length pairs) (is_inside pairs labels label) l (omega arith) in
      let first : first_of renumbered k ≡ first_of renumbered l =
      ap (λ q. q.0) (at k (omega arith)) ∙ ap (λ u. get_or places u 0) h.0 ∙ sym (ap (λ q. q.0) (at l (omega arith))) in
      inr (first, places_rise (second_of renumbered k) (second_of renumbered l) a.2.0 (let x = a.2.1 in let y = b.2.1 in let low = h.1 in omega arith)))
      (graph.rising (get_or within k 0) (get_or within l 0) up b.0)

  renumbered_acyclic : IsAcyclic renumbered
  renumbered_acyclic = (
    λ i. graph.acyclic.0 (get_or blocks i 0),
    λ k l. let s = size in let f = from k (omega arith) in
        let falls = graph.acyclic.1 (get_or within k 0) f.0 in
        let first = ap graph.acyclic.0 f.1.1 in
        let second = ap graph.acyclic.0 f.2.1 in
        omega arith,
  )

  pub renumbered_graph : IsGraph (length blocks) renumbered
  renumbered_graph = record { in_range = renumbered_in_range; rising = renumbered_rising; acyclic = renumbered_acyclic }

  pub part_is : (part : Graph) → part.blocks ≡ length blocks → part.pairs ≡ renumbered → IsPart (record { blocks = n; pairs = pairs }) (has_label labels label) blocks part
  part_is part count same = record {
    blocks_are = blocks_are;
    count = count;
    inside = λ k l.
        let s = size in
        let f = from k (let c = ap (λ (qs : List (ℕ × ℕ)). length qs) same in omega arith) in
        (get_or within k 0, f.0, (ap (λ qs. get_or blocks (first_of qs k) 0) same ∙ f.1.1, ap (λ qs. get_or blocks (second_of qs k) 0) same ∙ f.2.1));
    all = λ l inside u p.
        let own : is_inside pairs labels label l ≡ true = ap (λ b. b && has_label labels label (second_of pairs l)) u ∙ p in
        let place = members_place (length pairs) (is_inside pairs labels label) l inside own in
        let s = size in
        let f = from place.0 place.1 in (
          place.0,
          (let c = ap (λ (qs : List (ℕ × ℕ)). length qs) same in let here = place.1 in omega arith),
          (ap (λ qs. get_or blocks (first_of qs place.0) 0) same ∙ f.1.1 ∙ ap (first_of pairs) place.2, ap (λ qs. get_or blocks (second_of qs place.0) 0) same ∙ f.2.1 ∙ ap (second_of pairs) place.2),
        );
  }

-- a part knows its set by the blocks alone
pub part_ext : (whole part : Graph) (s t : ℕ → Bool) (blocks : List ℕ) → AreInRange whole.pairs whole.blocks → ((u : ℕ) → u < whole.blocks → s u ≡ t u)
    → IsPart whole s blocks part → IsPart whole t blocks part
part_ext whole part s t blocks range same is = record {
  blocks_are = is.blocks_are ∙ members_ext whole.blocks s t same;
  count = is.count;
  inside = is.inside;
  all = λ l inside u p. let r = range l inside in is.all l inside (same (first_of whole.pairs l) r.0 ∙ u) (same (second_of whole.pairs l) r.1 ∙ p);
}
