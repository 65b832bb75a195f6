-- The steps of taking in: nothing, a block, one lot after another; and that at the end of the queue the blocks are a closure.
use Rattle.std.proofs.Common.{◌≡◌, ℕ, ◌+◌, ◌<◌, ◌≤◌, Bool, true, false, refl, sym, subst, ap, ◌∙◌, arith, inl, inr, ⊎_elim, List, replicate, set, get_or, length}
use Rattle.std.specs.Prelude.{◌⊎◌}
use Rattle.std.proofs.lemmas.Bool.{cases_eq, cases_lt, false≢true}
use Rattle.std.proofs.lemmas.List.{get_or-replicate, get_or_past, get_or-set_same, get_or-set_other, length-replicate, length-set}
use Rattle.pit_model.specs.Graph.{first_of, second_of, AreInRange, AreSamePairs}
use Rattle.pit_model.specs.Fixed.{IsClosedAlong, IsClosure, transposed}
use Rattle.pit_model.proofs.Fixed.{transposed_at, transposed_count}
use Rattle.mine_graph.specs.FixedBlocks.{mark_of}
use Rattle.mine_graph.specs.BreadthFirst.{IsAt, VisitsClosure, IsTrail, VisitsExactly, is_visited, queued, LeadsTo}
use Rattle.mine_graph.specs.declared.breadth_first.BreadthFirst.{BreadthFirst}
use Rattle.csr.proofs.Pigeon.{pigeon_more}

-- a block more
module _ (search : BreadthFirst) (block : ℕ) (below : block < length search.marks.items) (fresh : is_visited search block ≡ false) (was : IsTrail search) where
  new : (i : ℕ) → i < search.tail → queued search i ≡ block → ⊥
  new i h e = false≢true (sym fresh ∙ ap (is_visited search) (sym e) ∙ (was.marked i h).1)

  pub room : search.tail < length search.queue.items
  room = let fits : search.tail < length search.marks.items = pigeon_more search.queue.items search.tail (length search.marks.items) block was.room below (λ i h. (was.marked i h).0) new was.apart in let s = was.size in omega arith

  module _ (after : BreadthFirst) (marks_are : after.marks.items ≡ set search.marks.items block true) (queue_is : after.queue.items ≡ set search.queue.items search.tail block) (tail_is : after.tail ≡ search.tail + 1) where
    here : is_visited after block ≡ true
    here = ap (λ m. mark_of m block) marks_are ∙ get_or-set_same search.marks.items block true false below

    other : (u : ℕ) → (u ≡ block → ⊥) → is_visited after u ≡ is_visited search u
    other u ne = ap (λ m. mark_of m u) marks_are ∙ get_or-set_other search.marks.items block u true false ne

    grows : (u : ℕ) → is_visited search u ≡ true → is_visited after u ≡ true
    grows u e = ⊎_elim (λ (s : u ≡ block). ap (is_visited after) s ∙ here) (λ (ne : u ≡ block → ⊥). other u ne ∙ e) (cases_eq u block)

    old : (i : ℕ) → i < search.tail → queued after i ≡ queued search i
    old i h = ap (λ q. get_or q i 0) queue_is ∙ get_or-set_other search.queue.items search.tail i block 0 (λ e. omega arith)

    last : queued after search.tail ≡ block
    last = ap (λ q. get_or q search.tail 0) queue_is ∙ get_or-set_same search.queue.items search.tail block 0 room

    marks_size : length after.marks.items ≡ length search.marks.items
    marks_size = ap (λ (m : List Bool). length m) marks_are ∙ length-set search.marks.items block true

    queue_size : length after.queue.items ≡ length search.queue.items
    queue_size = ap (λ (q : List ℕ). length q) queue_is ∙ length-set search.queue.items search.tail block

    trail_more : IsTrail after
    trail_more = record {
      room = (let r = room in let s = queue_size in omega arith);
      size = queue_size ∙ was.size ∙ sym marks_size;
      marked = λ i h. ⊎_elim
          (λ (e : i ≡ search.tail).
          let is : queued after i ≡ block = ap (queued after) e ∙ last in
          (let s = marks_size in omega arith, ap (is_visited after) is ∙ here))
          (λ (ne : i ≡ search.tail → ⊥).
          let b : i < search.tail = omega arith in
          let is = old i b in
          (let s = marks_size in let m = (was.marked i b).0 in omega arith, ap (is_visited after) is ∙ grows (queued search i) (was.marked i b).1))
          (cases_eq i search.tail);
      apart = λ i j h l e. ⊎_elim
          (λ (s : j ≡ search.tail). new i (omega arith) (sym (old i (omega arith)) ∙ e ∙ ap (queued after) s ∙ last))
          (λ (ne : j ≡ search.tail → ⊥). was.apart i j h (omega arith) (sym (old i (omega arith)) ∙ e ∙ old j (omega arith)))
          (cases_eq j search.tail);
      found = λ u e. ⊎_elim
          (λ (s : u ≡ block). (search.tail, omega arith, last ∙ sym s))
          (λ (ne : u ≡ block → ⊥). let f = was.found u (sym (other u ne) ∙ e) in (f.0, omega (arith, f.1), old f.0 f.1 ∙ f.2))
          (cases_eq u block);
    }

    pub takes_one : VisitsExactly (λ u. block ≡ u) search after
    takes_one = record {
      trail = trail_more;
      size = marks_size;
      grows = grows;
      only = λ u e. ⊎_elim (λ (s : u ≡ block). inr (sym s)) (λ (ne : u ≡ block → ⊥). inl (sym (other u ne) ∙ e)) (cases_eq u block);
      all = λ u e. ap (is_visited after) (sym e) ∙ here;
      kept = old;
      more = omega arith;
    }

-- one lot after another
pub takes_both : (first second both : ℕ → Type 0) (a b c : BreadthFirst) → VisitsExactly first a b → VisitsExactly second b c
    → ((u : ℕ) → both u → first u ⊎ second u) → ((u : ℕ) → first u → both u) → ((u : ℕ) → second u → both u) → VisitsExactly both a c
takes_both first second both a b c one two split left right = record {
  trail = two.trail;
  size = two.size ∙ one.size;
  grows = λ u e. two.grows u (one.grows u e);
  only = λ u e. ⊎_elim
      (λ (h : is_visited b u ≡ true). ⊎_elim (λ (h : is_visited a u ≡ true). inl h) (λ (w : first u). inr (left u w)) (one.only u h))
      (λ (w : second u). inr (right u w))
      (two.only u e);
  all = λ u w. ⊎_elim (λ (x : first u). two.grows u (one.all u x)) (λ (x : second u). two.all u x) (split u w);
  kept = λ i h. (let m = one.more in two.kept i (omega arith)) ∙ one.kept i h;
  more = (let p = one.more in let q = two.more in omega arith);
}

-- a block of a range more
pub takes_more : (block : ℕ → ℕ) (begin k : ℕ) (a b c : BreadthFirst) → begin ≤ k → VisitsExactly (IsAt block begin k) a b → VisitsExactly (λ u. block k ≡ u) b c
    → VisitsExactly (IsAt block begin (k + 1)) a c
takes_more block begin k a b c from one two = takes_both (IsAt block begin k) (λ u. block k ≡ u) (IsAt block begin (k + 1)) a b c one two
    (λ u w. ⊎_elim
    (λ (e : w.0 ≡ k). inr (ap block (sym e) ∙ w.3))
    (λ (ne : w.0 ≡ k → ⊥). inl (w.0, w.1, omega (arith, w.2), w.3))
    (cases_eq w.0 k))
    (λ u w. (w.0, w.1, omega (arith, w.2), w.3))
    (λ u e. (k, from, omega arith, e))

-- the same blocks, asked for in other words
pub takes_as : (asked other : ℕ → Type 0) (a b : BreadthFirst) → ((u : ℕ) → asked u → other u) → ((u : ℕ) → other u → asked u) → VisitsExactly asked a b → VisitsExactly other a b
takes_as asked other a b forth back one = record {
  trail = one.trail;
  size = one.size;
  grows = one.grows;
  only = λ u e. ⊎_elim (λ (h : is_visited a u ≡ true). inl h) (λ (w : asked u). inr (forth u w)) (one.only u e);
  all = λ u w. one.all u (back u w);
  kept = one.kept;
  more = one.more;
}

-- nothing new is asked for
pub takes_nothing : (asked : ℕ → Type 0) (a : BreadthFirst) → IsTrail a → ((u : ℕ) → asked u → is_visited a u ≡ true) → VisitsExactly asked a a
takes_nothing asked a trail old = record { trail = trail; size = refl; grows = λ u e. e; only = λ u e. inl e; all = old; kept = λ i h. refl; more = omega arith }

-- in a list of marks that are all false
pub none_marked : (n : ℕ) (marks : List Bool) (u : ℕ) → marks ≡ replicate n false → mark_of marks u ≡ false
none_marked n marks u is = ap (λ m. mark_of m u) is ∙ ⊎_elim
    (λ (l : u < n). get_or-replicate n u false false l)
    (λ (l : n ≤ u). get_or_past (replicate n false) u false (let s = length-replicate n false in omega arith))
    (cases_lt u n)

module _ (pairs : List (ℕ × ℕ)) (seeds : ℕ → Bool) where
  pub spread_none : (asked : ℕ → Type 0) (before after : BreadthFirst) → ((u : ℕ) → is_visited before u ≡ false) → VisitsExactly asked before after
      → ((u : ℕ) → asked u → seeds u ≡ true) → ((u : ℕ) → seeds u ≡ true → asked u) → VisitsClosure pairs seeds after 0
  spread_none asked before after none takes forth back = record {
    trail = takes.trail;
    holds = λ u e. takes.all u (back u e);
    least = λ other holds closed u e. ⊎_elim
        (λ (h : is_visited before u ≡ true). absurd (false≢true (sym (none u) ∙ h)))
        (λ (w : asked u). holds u (forth u w))
        (takes.only u e);
    handled = λ i u h. absurd (omega arith);
  }

  pub spread_more : (before after : BreadthFirst) (head a : ℕ) → head < before.tail → queued before head ≡ a → VisitsClosure pairs seeds before head
      → VisitsExactly (LeadsTo pairs a) before after → VisitsClosure pairs seeds after (head + 1)
  spread_more before after head a ahead is was takes = record {
    trail = takes.trail;
    holds = λ u e. takes.grows u (was.holds u e);
    least = λ other holds closed u e. ⊎_elim
        (λ (h : is_visited before u ≡ true). was.least other holds closed u h)
        (λ (w : LeadsTo pairs a u).
        let at : other a ≡ true = was.least other holds closed a (ap (is_visited before) (sym is) ∙ (was.trail.marked head ahead).1) in
        ap other (sym w.3) ∙ closed w.0 w.1 (ap other w.2 ∙ at))
        (takes.only u e);
    handled = λ i u h w.
        let kept : queued after i ≡ queued before i = takes.kept i (omega arith) in
        ⊎_elim
        (λ (e : i ≡ head). takes.all u (w.0, w.1, w.2 ∙ kept ∙ ap (queued before) e ∙ is, w.3))
        (λ (ne : i ≡ head → ⊥). takes.grows u (was.handled i u (omega arith) (w.0, w.1, w.2 ∙ kept, w.3)))
        (cases_eq i head);
  }

  -- at the end of the queue
  pub spread_all : (search : BreadthFirst) (head : ℕ) → search.tail ≤ head → VisitsClosure pairs seeds search head → IsClosure pairs seeds (is_visited search)
  spread_all search head end was = record {
    holds = was.holds;
    closed = λ k l e. let f = was.trail.found (first_of pairs k) e in was.handled f.0 (second_of pairs k) (omega (arith, f.1)) (k, l, sym f.2, refl);
    least = was.least;
  }

-- the same pairs lead to the same blocks
module _ (ps qs : List (ℕ × ℕ)) (same : AreSamePairs ps qs) where
  pub leads_forth : (a u : ℕ) → LeadsTo ps a u → LeadsTo qs a u
  leads_forth a u leads = let f = same.forth leads.0 leads.1 in (f.0, f.1, ap (λ (q : ℕ × ℕ). q.0) f.2 ∙ leads.2, ap (λ (q : ℕ × ℕ). q.1) f.2 ∙ leads.3)

  pub leads_back : (a u : ℕ) → LeadsTo qs a u → LeadsTo ps a u
  leads_back a u leads = let b = same.back leads.0 leads.1 in (b.0, b.1, ap (λ (q : ℕ × ℕ). q.0) b.2 ∙ leads.2, ap (λ (q : ℕ × ℕ). q.1) b.2 ∙ leads.3)

  -- and have the same closures
  closed_back : (set : ℕ → Bool) → IsClosedAlong qs set → IsClosedAlong ps set
  closed_back set closed k l e = let f = same.forth k l in ap (λ (q : ℕ × ℕ). set q.1) (sym f.2) ∙ closed f.0 f.1 (ap (λ (q : ℕ × ℕ). set q.0) f.2 ∙ e)

  closed_forth : (set : ℕ → Bool) → IsClosedAlong ps set → IsClosedAlong qs set
  closed_forth set closed k l e = let b = same.back k l in ap (λ (q : ℕ × ℕ). set q.1) (sym b.2) ∙ closed b.0 b.1 (ap (λ (q : ℕ × ℕ). set q.0) b.2 ∙ e)

  pub closure_back : (seeds set : ℕ → Bool) → IsClosure qs seeds set → IsClosure ps seeds set
  closure_back seeds set is = record {
    holds = is.holds;
    closed = closed_back set is.closed;
    least = λ other holds closed. is.least other holds (closed_forth other closed);
  }

-- transposed pairs are of the same blocks
pub turned_range : (pairs qs : List (ℕ × ℕ)) (n : ℕ) → AreInRange pairs n → AreSamePairs (transposed pairs) qs → AreInRange qs n
turned_range pairs qs n range same k l =
    let b = same.back k l in
    let size = transposed_count pairs in
    let inside : b.0 < length pairs = omega (arith, b.1) in
    let r = range b.0 inside in
    subst (λ (q : ℕ × ℕ). (q.0 < n) × (q.1 < n)) (sym (transposed_at pairs b.0 inside) ∙ b.2) (r.1, r.0)
