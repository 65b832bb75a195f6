-- The walk round a cycle. As long as it meets no block twice it has no more places than there are blocks, so it comes
-- back; and since pairs rise, the first needed block that is left over is the least.
use Rattle.std.proofs.Common.{◌≡◌, ℕ, zero, suc, ◌+◌, ◌-◌, ◌<◌, ◌≤◌, Bool, true, refl, sym, ap, ◌∙◌, arith, subst, ⊎_elim, List, set, take, drop, get_or, length}
use Rattle.std.specs.Prelude.{◌⊎◌, IsTrue}
use Rattle.std.proofs.lemmas.Bool.{cases_eq, cases_lt, cases_order, lt-ltb, ltb-true}
use Rattle.std.proofs.lemmas.List.{get_or-set_same, get_or-set_other, get_or_past, get_or-take, length-take-le, drop-take}
use Rattle.pit_model.specs.Graph.{first_of, second_of, AreRising}
use Rattle.pit_model.specs.Cycle.{IsLargestWithPredecessorInside, IsLeast, IsLeastNeeded, IsWalk, IsCycleList}
use Rattle.csr.proofs.Offsets.{AreOffsets}
use Rattle.csr.specs.Left.{left_over}
use Rattle.csr.proofs.Pigeon.{pigeon_more}

-- where the blocks of a walk stand, each place plus 1
pub record ArePlaces (path : List ℕ) (count : ℕ) (places : List ℕ) : Type 0 where
  pub placed : (i : ℕ) → i < count → get_or places (get_or path i 0) 0 ≡ i + 1
  pub only : (u : ℕ) → (get_or places u 0 ≡ 0 → ⊥) → (i : ℕ) × (i < count) × (get_or path i 0 ≡ u)

pub over_yes : (left : List ℕ) (u : ℕ) → (get_or left u 0 ≡ 0 → ⊥) → left_over left u ≡ true
over_yes left u some = lt-ltb 0 (get_or left u 0) (omega arith)

pub over_no : (left : List ℕ) (u : ℕ) → left_over left u ≡ true → get_or left u 0 ≡ 0 → ⊥
over_no left u h e = let p = ltb-true 0 (get_or left u 0) h in omega arith

pub over_below : (left : List ℕ) (u : ℕ) → left_over left u ≡ true → u < length left
over_below left u h = ⊎_elim (λ (l : u < length left). l) (λ (l : length left ≤ u). absurd (over_no left u h (get_or_past left u 0 l))) (cases_lt u (length left))

module _ (pairs : List (ℕ × ℕ)) (starts left : List ℕ) (block k : ℕ) (rising : AreRising pairs) (csr : AreOffsets pairs starts (length left)) (below : block < length left)
    (from : get_or starts block 0 ≤ k) (passed : (x : ℕ) → get_or starts block 0 ≤ x → x < k → get_or left (second_of pairs x) 0 ≡ 0) where
  -- the first that passes is the least
  pub least_found : k < get_or starts (block + 1) 0 → (get_or left (second_of pairs k) 0 ≡ 0 → ⊥) → IsLeastNeeded pairs (left_over left) block (second_of pairs k)
  least_found to some =
      let r = csr.rises block below in
      let inside : k < length pairs = omega arith in
      let own = csr.owns block k below from to in
      record {
        needed = (k, inside, own, refl);
        member = over_yes left (second_of pairs k) some;
        least = λ x l e h.
            let f = csr.found block x below l e in
            ⊎_elim
            (λ (s : k ≡ x). let t = ap (second_of pairs) s in omega arith)
            (λ (s : (k < x) ⊎ (x < k)). ⊎_elim
            (λ (m : k < x). ⊎_elim
            (λ (b : first_of pairs k < first_of pairs x). absurd (omega arith))
            (λ (b : (first_of pairs k ≡ first_of pairs x) × (second_of pairs k < second_of pairs x)). let z = b.1 in omega arith)
            (rising k x m l))
            (λ (m : x < k). absurd (over_no left (second_of pairs x) h (passed x f.0 m))) s)
            (cases_order k x);
      }

  -- one passes
  pub none_missed : get_or starts (block + 1) 0 ≤ k → ((x : ℕ) × (x < length pairs) × (first_of pairs x ≡ block) × IsTrue (left_over left (second_of pairs x))) → ⊥
  none_missed to some =
      let f = csr.found block some.0 below some.1 some.2 in
      over_no left (second_of pairs some.0) some.3 (passed some.0 f.0 (let z = f.1 in omega arith))

-- each block of the walk is of the set
pub members : (pairs : List (ℕ × ℕ)) (in_set : ℕ → Bool) (path : List ℕ) (count : ℕ) → IsWalk pairs in_set path count → (i : ℕ) → i < count → in_set (get_or path i 0) ≡ true
members pairs in_set path count walk zero h = walk.first.member
members pairs in_set path count walk (suc i) h = let e : i + 1 ≡ suc i = omega arith in subst (λ k. in_set (get_or path k 0) ≡ true) e (walk.next i (omega arith)).member

module _ (pairs : List (ℕ × ℕ)) (left path : List ℕ) (places : List ℕ) (size : length path ≡ length left) (places_size : length places ≡ length left) where
  pub walk_one : (first : ℕ) → IsLeast (left_over left) first → ((u : ℕ) → get_or places u 0 ≡ 0) → (IsWalk pairs (left_over left) (set path 0 first) 1) × (ArePlaces (set path 0 first) 1 (set places first 1))
  walk_one first least none =
      let below = over_below left first least.member in
      let here : get_or (set path 0 first) 0 0 ≡ first = get_or-set_same path 0 first 0 (omega arith) in (
        record {
          some = omega arith;
          first = subst (IsLeast (left_over left)) (sym here) least;
          next = λ i h. absurd (omega arith);
          apart = λ i j h l. absurd (omega arith);
        },
        record {
          placed = λ i h. let e : i ≡ 0 = omega arith in
              ap (λ k. get_or (set places first 1) (get_or (set path 0 first) k 0) 0) e ∙ ap (λ k. get_or (set places first 1) k 0) here ∙ get_or-set_same places first 1 0 (omega arith) ∙ ap (λ k. k + 1) (sym e);
          only = λ u h. ⊎_elim
              (λ (e : u ≡ first). (0, omega arith, here ∙ sym e))
              (λ (ne : u ≡ first → ⊥). absurd (h (get_or-set_other places first u 1 0 ne ∙ none u)))
              (cases_eq u first);
        },
      )

  module _ (count next : ℕ) (walk : IsWalk pairs (left_over left) path count) (at : ArePlaces path count places) (room : count ≤ length path)
      (step : IsLeastNeeded pairs (left_over left) (get_or path (count - 1) 0) next) where
    pub fresh : get_or places next 0 ≡ 0 → (i : ℕ) → i < count → get_or path i 0 ≡ next → ⊥
    fresh none i h e = let p = at.placed i h in let q = ap (λ k. get_or places k 0) e in omega arith

    pub more_room : get_or places next 0 ≡ 0 → count < length path
    more_room none =
        let fits : count < length left = pigeon_more path count (length left) next room (over_below left next step.member) (λ i h. over_below left (get_or path i 0) (members pairs (left_over left) path count walk i h)) (fresh none) walk.apart in
        omega arith

    pub walk_more : get_or places next 0 ≡ 0 → (IsWalk pairs (left_over left) (set path count next) (count + 1)) × (ArePlaces (set path count next) (count + 1) (set places next (count + 1)))
    walk_more none =
        let some = walk.some in
        let fits = more_room none in
        let below = over_below left next step.member in
        let old : (i : ℕ) → i < count → get_or (set path count next) i 0 ≡ get_or path i 0 = λ i h. get_or-set_other path count i next 0 (λ e. omega arith) in
        let new : get_or (set path count next) count 0 ≡ next = get_or-set_same path count next 0 fits in (
          record {
            some = omega arith;
            first = subst (IsLeast (left_over left)) (sym (old 0 some)) walk.first;
            next = λ i h. ⊎_elim
                (λ (e : i + 1 ≡ count).
                let b : count - 1 ≡ i = omega arith in
                subst (λ x. IsLeastNeeded pairs (left_over left) x (get_or (set path count next) (i + 1) 0)) (sym (old i (omega arith)))
                (subst (λ y. IsLeastNeeded pairs (left_over left) (get_or path i 0) y) (sym (ap (λ k. get_or (set path count next) k 0) e ∙ new))
                (subst (λ k. IsLeastNeeded pairs (left_over left) (get_or path k 0) next) b step)))
                (λ (ne : i + 1 ≡ count → ⊥).
                subst (λ x. IsLeastNeeded pairs (left_over left) x (get_or (set path count next) (i + 1) 0)) (sym (old i (omega arith)))
                (subst (λ y. IsLeastNeeded pairs (left_over left) (get_or path i 0) y) (sym (old (i + 1) (omega arith))) (walk.next i (omega arith))))
                (cases_eq (i + 1) count);
            apart = λ i j h l e. ⊎_elim
                (λ (s : j ≡ count). fresh none i (omega arith) (sym (old i (omega arith)) ∙ e ∙ ap (λ k. get_or (set path count next) k 0) s ∙ new))
                (λ (ne : j ≡ count → ⊥). walk.apart i j h (omega arith) (sym (old i (omega arith)) ∙ e ∙ old j (omega arith)))
                (cases_eq j count);
          },
          record {
            placed = λ i h. ⊎_elim
                (λ (e : i ≡ count). ap (λ k. get_or (set places next (count + 1)) k 0) (ap (λ k. get_or (set path count next) k 0) e ∙ new) ∙ get_or-set_same places next (count + 1) 0 (omega arith) ∙ ap (λ k. k + 1) (sym e))
                (λ (ne : i ≡ count → ⊥). ap (λ k. get_or (set places next (count + 1)) k 0) (old i (omega arith)) ∙ get_or-set_other places next (get_or path i 0) (count + 1) 0 (fresh none i (omega arith)) ∙ at.placed i (omega arith))
                (cases_eq i count);
            only = λ u h. ⊎_elim
                (λ (e : u ≡ next). (count, omega arith, new ∙ sym e))
                (λ (ne : u ≡ next → ⊥). let r = at.only u (λ z. h (get_or-set_other places next u (count + 1) 0 ne ∙ z)) in (r.0, omega (arith, r.1), old r.0 r.1 ∙ r.2))
                (cases_eq u next);
          },
        )

    -- a block that stands on the walk already
    pub repeated : (get_or places next 0 ≡ 0 → ⊥) → (get_or places next 0 - 1 < count) × (get_or path (get_or places next 0 - 1) 0 ≡ next)
    repeated some =
        let r = at.only next some in
        let p = at.placed r.0 r.1 in
        let q = ap (λ k. get_or places k 0) r.2 in
        let e : get_or places next 0 - 1 ≡ r.0 = omega arith in
        (let l = r.1 in omega arith, ap (λ k. get_or path k 0) e ∙ r.2)

-- the walk, cut after its last block
pub cycle_is : (pairs : List (ℕ × ℕ)) (left path : List ℕ) (visit count : ℕ) → IsLargestWithPredecessorInside pairs (length left) (left_over left) → IsWalk pairs (left_over left) path count → visit < count → count ≤ length path
    → IsLeastNeeded pairs (left_over left) (get_or path (count - 1) 0) (get_or path visit 0) → (cycle : List ℕ) → cycle ≡ drop visit (take count path) → IsCycleList pairs (length left) cycle
cycle_is pairs left path visit count largest walk l room step cycle is =
    let size : length (take count path) ≡ count = length-take-le count path room in
    let at : (i : ℕ) → i < count → get_or (take count path) i 0 ≡ get_or path i 0 = λ i h. get_or-take count path i 0 h in
    let some = walk.some in
    record {
      set = left_over left;
      largest = largest;
      walk = take count path;
      walked = record {
        some = omega arith;
        first = subst (IsLeast (left_over left)) (sym (at 0 some)) walk.first;
        next = λ i h. subst (λ x. IsLeastNeeded pairs (left_over left) x (get_or (take count path) (i + 1) 0)) (sym (at i (omega arith)))
            (subst (λ y. IsLeastNeeded pairs (left_over left) (get_or path i 0) y) (sym (at (i + 1) (omega arith))) (walk.next i (omega arith)));
        apart = λ i j h m e. walk.apart i j h (omega arith) (sym (at i (omega arith)) ∙ e ∙ at j (omega arith));
      };
      visit = visit;
      visited = omega arith;
      repeats = subst (λ x. IsLeastNeeded pairs (left_over left) x (get_or (take count path) visit 0)) (sym (ap (λ k. get_or (take count path) (k - 1) 0) size ∙ at (count - 1) (omega arith)))
          (subst (λ y. IsLeastNeeded pairs (left_over left) (get_or path (count - 1) 0) y) (sym (at visit l)) step);
      is = is;
    }

pub cut_walk : (path whole : List ℕ) (visit count : ℕ) → visit ≤ count → whole ≡ path → take (count - visit) (drop visit whole) ≡ drop visit (take count path)
cut_walk path whole visit count l e =
    let s : visit + (count - visit) ≡ count = omega arith in
    ap (λ w. take (count - visit) (drop visit w)) e ∙ sym (drop-take visit (count - visit) path) ∙ ap (λ m. drop visit (take m path)) s
