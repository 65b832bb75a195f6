-- The steps of counting down: with each arc that is handled less is left of its block, and a block of which nothing is
-- left has all its arcs handled, so all that it needs stands before it in the queue.
use Rattle.std.proofs.Common.{◌≡◌, ℕ, suc, ◌+◌, ◌-◌, ◌<◌, ◌≤◌, Bool, true, false, not, eqb, refl, sym, ap, ◌∙◌, arith, ⊎_elim, List, set, get_or, length}
use Rattle.std.specs.Prelude.{◌&&◌, ◌||◌}
use Rattle.std.proofs.lemmas.Bool.{cases_eq, cases_Bool, false≢true, eq-eqb, ne_eqb, and_from, and_left, and_right, or_left, or_right, or_cases, or_from, eqb-true}
use Rattle.std.proofs.lemmas.List.{get_or-set_same, get_or-set_other, length-set}
use Rattle.pit_model.specs.Graph.{first_of, second_of}
use Rattle.csr.proofs.Offsets.{AreOffsets}
use Rattle.csr.specs.Count.{count}
use Rattle.csr.specs.Queue.{leads_to, is_unhandled, IsQueue, IsCounted, IsProcessed}
use Rattle.csr.proofs.Count.{count-same, count-fewer, count-none, count-yes, count-no}
use Rattle.csr.proofs.Pigeon.{pigeon_more}

-- settled up to `head`, and the arcs from `begin` up to `k` of the block at `head` are handled too
pub record IsProcessing (arcs : List (ℕ × ℕ)) (left order : List ℕ) (tail head begin k end : ℕ) : Type 0 where
  pub handled : ℕ → Bool
  pub counted : IsCounted arcs left order tail handled
  pub done : (x : ℕ) → x < length arcs → handled x ≡ true → (j : ℕ) × (j < suc head) × (get_or order j 0 ≡ first_of arcs x)
  pub all : (x j : ℕ) → x < length arcs → j < head → get_or order j 0 ≡ first_of arcs x → handled x ≡ true
  pub passed : (x : ℕ) → begin ≤ x → x < k → handled x ≡ true
  pub coming : (x : ℕ) → k ≤ x → x < end → handled x ≡ false

-- one arc more is handled
abbrev pub and_arc : (ℕ → Bool) → ℕ → ℕ → Bool
and_arc handled k x = handled x || eqb x k

pub and_arc-here : (h : ℕ → Bool) (k : ℕ) → and_arc h k k ≡ true
and_arc-here h k = or_right (h k) (eqb k k) (eq-eqb k k refl)

pub and_arc-kept : (h : ℕ → Bool) (k x : ℕ) → h x ≡ true → and_arc h k x ≡ true
and_arc-kept h k x e = or_left (h x) (eqb x k) e

pub and_arc-other : (h : ℕ → Bool) (k x : ℕ) → (x ≡ k → ⊥) → and_arc h k x ≡ h x
and_arc-other h k x ne = ⊎_elim
    (λ (e : h x ≡ true). or_left (h x) (eqb x k) e ∙ sym e)
    (λ (e : h x ≡ false). or_from (h x) (eqb x k) e (ne_eqb x k ne) ∙ sym e)
    (cases_Bool (h x))

open-yes : (arcs : List (ℕ × ℕ)) (h : ℕ → Bool) (u k : ℕ) → second_of arcs k ≡ u → h k ≡ false → is_unhandled arcs h u k ≡ true
open-yes arcs h u k e off = and_from (eqb (second_of arcs k) u) (not (h k)) (eq-eqb (second_of arcs k) u e) (ap not off)

open-done : (arcs : List (ℕ × ℕ)) (h : ℕ → Bool) (u k : ℕ) → h k ≡ true → is_unhandled arcs h u k ≡ false
open-done arcs h u k so = and_right (eqb (second_of arcs k) u) (not (h k)) (ap not so)

open-off : (arcs : List (ℕ × ℕ)) (h : ℕ → Bool) (u k : ℕ) → (second_of arcs k ≡ u → ⊥) → is_unhandled arcs h u k ≡ false
open-off arcs h u k ne = and_left (eqb (second_of arcs k) u) (not (h k)) (ne_eqb (second_of arcs k) u ne)

module _ (arcs : List (ℕ × ℕ)) (h : ℕ → Bool) (k : ℕ) (l : k < length arcs) (off : h k ≡ false) where
  same_test : (u x : ℕ) → (x ≡ k → ⊥) → is_unhandled arcs h u x ≡ is_unhandled arcs (and_arc h k) u x
  same_test u x ne = ap (λ b. eqb (second_of arcs x) u && not b) (sym (and_arc-other h k x ne))

  pub open-here : count (length arcs) (is_unhandled arcs h (second_of arcs k)) ≡ count (length arcs) (is_unhandled arcs (and_arc h k) (second_of arcs k)) + 1
  open-here = count-fewer (length arcs) k (is_unhandled arcs h (second_of arcs k)) (is_unhandled arcs (and_arc h k) (second_of arcs k)) l
      (open-yes arcs h (second_of arcs k) k refl off) (open-done arcs (and_arc h k) (second_of arcs k) k (and_arc-here h k))
      (λ x m ne. same_test (second_of arcs k) x ne)

  pub open-there : (u : ℕ) → (u ≡ second_of arcs k → ⊥) → count (length arcs) (is_unhandled arcs h u) ≡ count (length arcs) (is_unhandled arcs (and_arc h k) u)
  open-there u ne = count-same (length arcs) (is_unhandled arcs h u) (is_unhandled arcs (and_arc h k) u)
      (λ x m. ⊎_elim
      (λ (e : x ≡ k). open-off arcs h u x (λ s. ne (sym (ap (second_of arcs) (sym e) ∙ s))) ∙ sym (open-off arcs (and_arc h k) u x (λ s. ne (sym (ap (second_of arcs) (sym e) ∙ s)))))
      (λ (d : x ≡ k → ⊥). same_test u x d)
      (cases_eq x k))

-- an arc that leads to a queued block is handled
pub all_handled : (arcs : List (ℕ × ℕ)) (left : List ℕ) (h : ℕ → Bool) (u k : ℕ)
    → get_or left u 0 ≡ count (length arcs) (is_unhandled arcs h u) → get_or left u 0 ≡ 0 → k < length arcs → second_of arcs k ≡ u → h k ≡ true
all_handled arcs left h u k is none l e = ⊎_elim
    (λ (so : h k ≡ true). so)
    (λ (off : h k ≡ false). absurd (false≢true (sym (count-none (length arcs) (is_unhandled arcs h u) (sym is ∙ none) k l) ∙ open-yes arcs h u k e off)))
    (cases_Bool (h k))

-- one arc is handled: first what is left, then the queue
module _ (arcs : List (ℕ × ℕ)) (left order : List ℕ) (tail : ℕ) (h : ℕ → Bool) (k : ℕ)
    (l : k < length arcs) (off : h k ≡ false) (range : second_of arcs k < length left) (was : IsCounted arcs left order tail h) where
  pub some_left : get_or left (second_of arcs k) 0 ≡ count (length arcs) (is_unhandled arcs (and_arc h k) (second_of arcs k)) + 1
  some_left = was.counts (second_of arcs k) range ∙ open-here arcs h k l off

  abbrev less : List ℕ
  less = set left (second_of arcs k) (get_or left (second_of arcs k) 0 - 1)

  pub less-here : get_or less (second_of arcs k) 0 ≡ count (length arcs) (is_unhandled arcs (and_arc h k) (second_of arcs k))
  less-here = get_or-set_same left (second_of arcs k) (get_or left (second_of arcs k) 0 - 1) 0 range ∙ (let e = some_left in omega arith)

  pub less-there : (v : ℕ) → (v ≡ second_of arcs k → ⊥) → get_or less v 0 ≡ get_or left v 0
  less-there v ne = get_or-set_other left (second_of arcs k) v (get_or left (second_of arcs k) 0 - 1) 0 ne

  pub less-size : length less ≡ length left
  less-size = length-set left (second_of arcs k) (get_or left (second_of arcs k) 0 - 1)

  pub less-counts : (v : ℕ) → v < length less → get_or less v 0 ≡ count (length arcs) (is_unhandled arcs (and_arc h k) v)
  less-counts v m = ⊎_elim
      (λ (e : v ≡ second_of arcs k). ap (λ x. get_or less x 0) e ∙ less-here ∙ ap (λ x. count (length arcs) (is_unhandled arcs (and_arc h k) x)) (sym e))
      (λ (ne : v ≡ second_of arcs k → ⊥). less-there v ne ∙ was.counts v (let e = less-size in omega arith) ∙ open-there arcs h k l off v ne)
      (cases_eq v (second_of arcs k))

  -- the block is not in the queue yet
  pub not_queued : (i : ℕ) → i < tail → get_or order i 0 ≡ second_of arcs k → ⊥
  not_queued i m e = let z = (was.queue.free i m).1 in let y = ap (λ x. get_or left x 0) e in let x = some_left in omega arith

  -- there is more to come
  pub still : (get_or less (second_of arcs k) 0 ≡ 0 → ⊥) → IsCounted arcs less order tail (and_arc h k)
  still more = record {
    queue = record {
      room = was.queue.room;
      free = λ i m. (let a = (was.queue.free i m).0 in let e = less-size in omega arith, less-there (get_or order i 0) (not_queued i m) ∙ (was.queue.free i m).1);
      apart = was.queue.apart;
      waits = λ v m z. was.queue.waits v (let e = less-size in omega arith) (sym (less-there v (λ e. more (ap (λ x. get_or less x 0) (sym e) ∙ z))) ∙ z);
    };
    counts = less-counts;
    sooner = was.sooner;
  }

  -- there is room for one more
  pub room : length order ≡ length left → tail < length order
  room same = let fits : tail < length left = pigeon_more order tail (length left) (second_of arcs k) was.queue.room range (λ i m. (was.queue.free i m).0) not_queued was.queue.apart in omega arith

  -- nothing is left: the block is queued
  pub free : length order ≡ length left → (head : ℕ) → head < tail → get_or less (second_of arcs k) 0 ≡ 0
      → ((x : ℕ) → x < length arcs → and_arc h k x ≡ true → (j : ℕ) × (j < suc head) × (get_or order j 0 ≡ first_of arcs x))
      → IsCounted arcs less (set order tail (second_of arcs k)) (tail + 1) (and_arc h k)
  free same head ahead none done =
      let fits = room same in
      let old : (i : ℕ) → i < tail → get_or (set order tail (second_of arcs k)) i 0 ≡ get_or order i 0 = λ i m. get_or-set_other order tail i (second_of arcs k) 0 (λ e. omega arith) in
      let new : get_or (set order tail (second_of arcs k)) tail 0 ≡ second_of arcs k = get_or-set_same order tail (second_of arcs k) 0 fits in
      record {
        queue = record {
          room = (let e = length-set order tail (second_of arcs k) in omega arith);
          free = λ i m. ⊎_elim
              (λ (e : i ≡ tail).
              let is : get_or (set order tail (second_of arcs k)) i 0 ≡ second_of arcs k = ap (λ x. get_or (set order tail (second_of arcs k)) x 0) e ∙ new in
              (let s = less-size in omega arith, ap (λ x. get_or less x 0) is ∙ none))
              (λ (ne : i ≡ tail → ⊥).
              let b : i < tail = omega arith in
              let is = old i b in (
                let s = less-size in let a = (was.queue.free i b).0 in omega arith,
                ap (λ x. get_or less x 0) is ∙ less-there (get_or order i 0) (not_queued i b) ∙ (was.queue.free i b).1,
              ))
              (cases_eq i tail);
          apart = λ i j m b e. ⊎_elim
              (λ (s : j ≡ tail). not_queued i (omega arith) (sym (old i (omega arith)) ∙ e ∙ ap (λ x. get_or (set order tail (second_of arcs k)) x 0) s ∙ new))
              (λ (ne : j ≡ tail → ⊥). was.queue.apart i j m (omega arith) (sym (old i (omega arith)) ∙ e ∙ old j (omega arith)))
              (cases_eq j tail);
          waits = λ v m z. ⊎_elim
              (λ (e : v ≡ second_of arcs k). (tail, omega arith, new ∙ sym e))
              (λ (ne : v ≡ second_of arcs k → ⊥).
              let w = was.queue.waits v (let s = less-size in omega arith) (sym (less-there v ne) ∙ z) in
              (w.0, omega (arith, w.1), old w.0 w.1 ∙ w.2))
              (cases_eq v (second_of arcs k));
        };
        counts = less-counts;
        sooner = λ i x m b e. ⊎_elim
            (λ (s : i ≡ tail).
            let to : second_of arcs x ≡ second_of arcs k = e ∙ ap (λ x. get_or (set order tail (second_of arcs k)) x 0) s ∙ new in
            let so = all_handled arcs less (and_arc h k) (second_of arcs k) x less-here none b to in
            let d = done x b so in
            (d.0, omega (arith, d.1), old d.0 (omega (arith, d.1)) ∙ d.2))
            (λ (ne : i ≡ tail → ⊥).
            let c : i < tail = omega arith in
            let d = was.sooner i x c b (e ∙ old i c) in
            (d.0, d.1, old d.0 (omega (arith, d.1)) ∙ d.2))
            (cases_eq i tail);
      }

-- counting the arcs of each block
pub count_more : (arcs : List (ℕ × ℕ)) (left : List ℕ) (i : ℕ) → second_of arcs i < length left
    → ((u : ℕ) → u < length left → get_or left u 0 ≡ count i (leads_to arcs u))
    → (u : ℕ) → u < length left → get_or (set left (second_of arcs i) (get_or left (second_of arcs i) 0 + 1)) u 0 ≡ count (i + 1) (leads_to arcs u)
count_more arcs left i range before u h =
    let w : ℕ = second_of arcs i in
    let x : ℕ = get_or left w 0 + 1 in
    let p : i + 1 ≡ suc i = omega arith in
    ⊎_elim
    (λ (e : u ≡ w). ap (λ k. get_or (set left w x) k 0) e ∙ get_or-set_same left w x 0 range ∙ ap (λ k. get_or left k 0 + 1) (sym e) ∙ ap (λ k. k + 1) (before u h)
    ∙ sym (ap (λ k. count k (leads_to arcs u)) p ∙ count-yes i (leads_to arcs u) (eq-eqb w u (sym e))))
    (λ (ne : u ≡ w → ⊥). get_or-set_other left w u x 0 ne ∙ before u h ∙ sym (ap (λ k. count k (leads_to arcs u)) p ∙ count-no i (leads_to arcs u) (ne_eqb w u (λ e. ne (sym e)))))
    (cases_eq u w)

-- looking for the blocks that have nothing left
pub record IsQueuing (left order : List ℕ) (tail u : ℕ) : Type 0 where
  pub small : tail ≤ u
  pub free : (i : ℕ) → i < tail → (get_or order i 0 < u) × (get_or left (get_or order i 0) 0 ≡ 0)
  pub apart : (i j : ℕ) → i < j → j < tail → get_or order i 0 ≡ get_or order j 0 → ⊥
  pub waits : (v : ℕ) → v < u → get_or left v 0 ≡ 0 → (i : ℕ) × (i < tail) × (get_or order i 0 ≡ v)

open_all : (b : Bool) → b ≡ b && true
open_all true = refl
open_all false = refl

-- nothing is handled at first
pub processed_none : (arcs : List (ℕ × ℕ)) (left order : List ℕ) (tail : ℕ) → ((u : ℕ) → u < length left → get_or left u 0 ≡ count (length arcs) (leads_to arcs u)) → IsQueue left order tail → IsProcessed arcs left order tail 0
processed_none arcs left order tail counts queue = record {
  handled = λ k. false;
  counted = record {
    queue = queue;
    counts = λ u h. counts u h ∙ count-same (length arcs) (leads_to arcs u) (is_unhandled arcs (λ k. false) u) (λ k l. open_all (leads_to arcs u k));
    sooner = λ i k h l e.
        let f = queue.free i h in
        let z : count (length arcs) (leads_to arcs (get_or order i 0)) ≡ 0 = sym (counts (get_or order i 0) f.0) ∙ f.1 in
        absurd (false≢true (sym (count-none (length arcs) (leads_to arcs (get_or order i 0)) z k l) ∙ eq-eqb (second_of arcs k) (get_or order i 0) e));
  };
  done = λ k l e. absurd (false≢true e);
  all = λ k j l h. absurd (omega arith);
}

-- the arcs of one block, from the first to the last
module _ (arcs : List (ℕ × ℕ)) (offsets left order : List ℕ) (tail head begin end : ℕ)
    (csr : AreOffsets arcs offsets (length left)) (below : get_or order head 0 < length left)
    (b : begin ≡ get_or offsets (get_or order head 0) 0) (f : end ≡ get_or offsets (get_or order head 0 + 1) 0) where
  pub processing_none : head < tail → IsProcessed arcs left order tail head → IsProcessing arcs left order tail head begin begin end
  processing_none ahead was = record {
    handled = was.handled;
    counted = was.counted;
    done = λ x l e. let d = was.done x l e in (d.0, omega (arith, d.1), d.2);
    all = was.all;
    passed = λ x h l. absurd (omega arith);
    coming = λ x h l. ⊎_elim
        (λ (e : was.handled x ≡ true).
        let r = csr.rises (get_or order head 0) below in
        let inside : x < length arcs = omega arith in
        let d = was.done x inside e in
        absurd (was.counted.queue.apart d.0 head d.1 ahead (d.2 ∙ csr.owns (get_or order head 0) x below (omega arith) (omega arith))))
        (λ (e : was.handled x ≡ false). e)
        (cases_Bool (was.handled x));
  }

  pub processing_all : (k : ℕ) → end ≤ k → IsProcessing arcs left order tail head begin k end → IsProcessed arcs left order tail (suc head)
  processing_all k past was = record {
    handled = was.handled;
    counted = was.counted;
    done = was.done;
    all = λ x j l h e. ⊎_elim
        (λ (s : j ≡ head).
        let r = csr.found (get_or order head 0) x below l (sym e ∙ ap (λ i. get_or order i 0) s) in
        was.passed x (let z = r.0 in omega arith) (let z = r.1 in omega arith))
        (λ (ne : j ≡ head → ⊥). was.all x j l (omega arith) e)
        (cases_eq j head);
  }

-- one arc of the block
module _ (arcs : List (ℕ × ℕ)) (left order : List ℕ) (tail head begin k end : ℕ) (ahead : head < tail) (from : begin ≤ k) (to : k < end)
    (l : k < length arcs) (range : second_of arcs k < length left) (same : length order ≡ length left)
    (owner : first_of arcs k ≡ get_or order head 0) (was : IsProcessing arcs left order tail head begin k end) where
  pub off : was.handled k ≡ false
  off = was.coming k (omega arith) to

  done_more : (x : ℕ) → x < length arcs → and_arc was.handled k x ≡ true → (j : ℕ) × (j < suc head) × (get_or order j 0 ≡ first_of arcs x)
  done_more x m e = ⊎_elim
      (λ (h : was.handled x ≡ true). was.done x m h)
      (λ (h : eqb x k ≡ true). (head, omega arith, sym (ap (first_of arcs) (eqb-true x k h) ∙ owner)))
      (or_cases (was.handled x) (eqb x k) e)

  passed_more : (x : ℕ) → begin ≤ x → x < k + 1 → and_arc was.handled k x ≡ true
  passed_more x h m = ⊎_elim
      (λ (e : x ≡ k). ap (and_arc was.handled k) e ∙ and_arc-here was.handled k)
      (λ (ne : x ≡ k → ⊥). and_arc-kept was.handled k x (was.passed x h (omega arith)))
      (cases_eq x k)

  coming_more : (x : ℕ) → k + 1 ≤ x → x < end → and_arc was.handled k x ≡ false
  coming_more x h m = and_arc-other was.handled k x (λ e. omega arith) ∙ was.coming x (omega arith) m

  abbrev fewer : List ℕ
  fewer = set left (second_of arcs k) (get_or left (second_of arcs k) 0 - 1)

  pub some : 0 < get_or left (second_of arcs k) 0
  some = let e = some_left arcs left order tail was.handled k l off range was.counted in omega arith

  pub fits : tail < length order
  fits = room arcs left order tail was.handled k l off range was.counted same

  pub processing_still : (get_or (set left (second_of arcs k) (get_or left (second_of arcs k) 0 - 1)) (second_of arcs k) 0 ≡ 0 → ⊥)
      → IsProcessing arcs (set left (second_of arcs k) (get_or left (second_of arcs k) 0 - 1)) order tail head begin (k + 1) end
  processing_still more = record {
    handled = and_arc was.handled k;
    counted = still arcs left order tail was.handled k l off range was.counted more;
    done = done_more;
    all = λ x j m h e. and_arc-kept was.handled k x (was.all x j m h e);
    passed = passed_more;
    coming = coming_more;
  }

  pub processing_free : get_or (set left (second_of arcs k) (get_or left (second_of arcs k) 0 - 1)) (second_of arcs k) 0 ≡ 0
      → IsProcessing arcs (set left (second_of arcs k) (get_or left (second_of arcs k) 0 - 1)) (set order tail (second_of arcs k)) (tail + 1) head begin (k + 1) end
  processing_free none =
      let old : (i : ℕ) → i < tail → get_or (set order tail (second_of arcs k)) i 0 ≡ get_or order i 0 = λ i m. get_or-set_other order tail i (second_of arcs k) 0 (λ e. omega arith) in
      record {
        handled = and_arc was.handled k;
        counted = free arcs left order tail was.handled k l off range was.counted same head ahead none done_more;
        done = λ x m e. let d = done_more x m e in (d.0, d.1, old d.0 (omega (arith, d.1)) ∙ d.2);
        all = λ x j m h e. and_arc-kept was.handled k x (was.all x j m h (sym (old j (omega arith)) ∙ e));
        passed = passed_more;
        coming = coming_more;
      }
