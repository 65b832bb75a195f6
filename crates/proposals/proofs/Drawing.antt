-- Each step keeps the rule of the counter: a seat that is not done has room, so the counter never comes past the chunks and the seats together.
use Rattle.std.proofs.Common.{◌≡◌, ◌≢◌, ℕ, zero, suc, ◌+◌, ◌%◌, ◌<◌, ◌≤◌, Bool, false, cond, eqb, List, [], ◌∷◌, ◌++◌, length, get_or, set, sym, refl, ap, ◌∙◌, subst, ⊎_elim, arith}
use Rattle.std.specs.Prelude.{ltb}
use Rattle.std.proofs.lemmas.Bool.Decides.{nat_tests}
use mathlib.Core.Option.{none, some, some-injective, some-ne-none}
use lib.ListN.{get_elem?}
use Rattle.atomic_table.specs.Table.{State, Me, Act, Valid, step, keeps, stepped, carried_after, Allows, Splits, Joins, Enters, Final, Seen, opening}
use Rattle.atomic_table.specs.Seated.{TableId}
use Rattle.atomic_table.specs.declared.shared.Seat.{Seat}
use Rattle.atomic_table.proofs.Lists.{at_set, set_else}
use Rattle.proposals.specs.declared.draw_ledger.DrawLedger.{DrawLedger}
use Rattle.proposals.specs.declared.draw_ledger.Batch.{Batch}
use Rattle.proposals.specs.Drawn.{one_if, times, past, sum_over, hand, Fits, Given, batch, whole, drawing, all_drawn, IsEachBelowOnce, Drew, empty_draws, cut, one_seat, gathered}
use Rattle.proposals.specs.DrawSeats.{IsDrawer}
use Rattle.proposals.proofs.Dealing.{at_end}

abbrev pub St : Type 0
St = State (Unit {0}) DrawLedger

pub total_set : (f : DrawLedger → ℕ) (l : List DrawLedger) (i : ℕ) (v w : DrawLedger) → get_elem? l i ≡ some v → sum_over f (set l i w) + f v ≡ sum_over f l + f w
total_set f [] i v w e = absurd (some-ne-none v (sym e))
total_set f (x ∷ xs) zero v w e = let s : f x ≡ f v = ap f (some-injective x v e) in omega arith
total_set f (x ∷ xs) (suc i) v w e = let h = total_set f xs i v w e in omega arith

total_snoc : (f : DrawLedger → ℕ) (l : List DrawLedger) (v : DrawLedger) → sum_over f (l ++ v ∷ []) ≡ sum_over f l + f v
total_snoc f [] v = omega arith
total_snoc f (x ∷ xs) v = let h = total_snoc f xs v in omega arith

pub times_append : (x : ℕ) (l m : List ℕ) → times x (l ++ m) ≡ times x l + times x m
times_append x [] m = omega arith
times_append x (y ∷ ys) m = let h = times_append x ys m in omega arith

pub past_append : (c : ℕ) (l m : List ℕ) → past c (l ++ m) ≡ past c l + past c m
past_append c [] m = omega arith
past_append c (y ∷ ys) m = let h = past_append c ys m in omega arith

abbrev Each : Batch → List DrawLedger → Type 0
Each k l = (j : ℕ) (v : DrawLedger) → get_elem? l j ≡ some v → Fits k v

total_below : (k : Batch) (l : List DrawLedger) → Each k l → sum_over (λ v. past k.chunks v.drawn) l ≤ sum_over (λ v. v.seats) l
total_below k [] h = omega arith
total_below k (x ∷ xs) h = let a = (h 0 x refl).once_past in let b = total_below k xs (λ j v e. h (suc j) v e) in omega arith

each_set : (k : Batch) (l : List DrawLedger) (i : ℕ) (w : DrawLedger) → Each k l → Fits k w → Each k (set l i w)
each_set k l i w h mine j v e = ⊎_elim
    (λ (t : (j ≡ i) × (w ≡ v)). subst (λ (x : DrawLedger). Fits k x) t.1 mine)
    (λ (t : (j ≢ i) × (get_elem? l j ≡ some v)). h j v t.1)
    (at_set l i j w v e)

each_snoc : (k : Batch) (l : List DrawLedger) (w : DrawLedger) → Each k l → Fits k w → Each k (l ++ w ∷ [])
each_snoc k l w h mine j v e = ⊎_elim
    (λ (t : get_elem? l j ≡ some v). h j v t)
    (λ (t : (j ≡ length l) × (w ≡ v)). subst (λ (x : DrawLedger). Fits k x) t.1 mine)
    (at_end l w v j e)

once_next : (x n : ℕ) → one_if (ltb x (n + 1)) ≡ one_if (ltb x n) + one_if (eqb x n)
once_next x n = grind (arith, nat_tests)

one_past : (n c : ℕ) → cond (ltb n c) 0 1 ≤ 1
one_past n c = grind (arith, nat_tests)

is_past : (c : ℕ) → ◌≡◌ {A = ℕ} (cond (ltb c c) 0 1) 1
is_past c = grind (arith, nat_tests)

-- the next number is below the chunks, or it makes its seat done
next_bound : (n c d : ℕ) → n ≤ c + d → n + 1 ≤ c + (d + cond (ltb n c) 0 1)
next_bound n c d le = grind (arith, nat_tests)

-- a seat that is not done has room: were it done, the seats that are done would still be no more than the seats
slack : (k : Batch) (s : St) (h : Given k s) (id : ℕ) (v : DrawLedger) → get_elem? s.views id ≡ some v → v.seats ≡ 1 → past k.chunks v.drawn ≡ 0 → sum_over (λ x. past k.chunks x.drawn) s.views + 1 ≤ k.seats
slack k s h id v at one going =
    let w : DrawLedger = hand v.chunks 1 (k.chunks ∷ []) in
    let p : past k.chunks w.drawn ≡ 1 = let u = is_past k.chunks in omega arith in
    let fits : Fits k w = record { same = λ _. (h.each id v at).same (omega arith); once_past = omega (arith, p); empty = λ e. absurd (omega arith) } in
    let a = total_set (λ (x : DrawLedger). past k.chunks x.drawn) s.views id v w at in
    let b = total_set (λ (x : DrawLedger). x.seats) s.views id v w at in
    let c = total_below k (set s.views id w) (each_set k s.views id w h.each fits) in
    let q = h.seats in
    omega arith

-- a draw
pub may_draw : (k : Batch) (slots id : ℕ) (me : Me (Unit {0}) DrawLedger) → me.0.seats ≡ 1 → past me.0.chunks me.0.drawn ≡ 0 → Allows (Given k) slots id me 0 (λ n. (n + 1) % 18446744073709551616) (Drew (step slots 0 1 0 none) me)
may_draw k slots id me one going s h _ at _ = subst Goal (sym found) (w, keeps, tt, given, (let b = h.bound in let c = h.small in omega (arith, room), refl))
  where
    n : ℕ
    n = h.counter

    found : get_or s.words 0 0 ≡ n
    found = ap (λ (l : List ℕ). get_or l 0 0) h.words

    Goal : ℕ → Type 0
    Goal z = (x : DrawLedger) × (a : Act (Unit {0})) × Valid s.homes me.1 a × Given k (stepped s 0 ((z + 1) % 18446744073709551616) id me.1 x a) × Drew (step slots 0 1 0 none) me z (x, carried_after me.1 a)

    w : DrawLedger
    w = drawing me.0 n

    same : me.0.chunks ≡ k.chunks
    same = (h.each id me.0 at).same (omega (arith, one))

    none_past : past k.chunks me.0.drawn ≡ 0
    none_past = subst (λ (c : ℕ). past c me.0.drawn ≡ 0) same going

    now_past : past k.chunks w.drawn ≡ cond (ltb n k.chunks) 0 1
    now_past = let u = past_append k.chunks me.0.drawn (n ∷ []) in omega (arith, none_past, u)

    room : sum_over (λ x. past k.chunks x.drawn) s.views + 1 ≤ k.seats
    room = slack k s h id me.0 at one none_past

    next : (n + 1) % 18446744073709551616 ≡ n + 1
    next = let b = h.bound in let c = h.small in let r = room in omega arith

    fits : Fits k w
    fits = record { same = λ _. same; once_past = let u = one_past n k.chunks in omega (arith, now_past, one); empty = λ e. absurd (omega (arith, one)) }

    pasts : sum_over (λ x. past k.chunks x.drawn) (set s.views id w) ≡ sum_over (λ x. past k.chunks x.drawn) s.views + cond (ltb n k.chunks) 0 1
    pasts = let t = total_set (λ (x : DrawLedger). past k.chunks x.drawn) s.views id me.0 w at in omega (arith, t, none_past, now_past)

    given : Given k (stepped s 0 ((n + 1) % 18446744073709551616) id me.1 w keeps)
    given = record {
      counter = n + 1;
      words = ap (λ (l : List ℕ). set l 0 ((n + 1) % 18446744073709551616)) h.words ∙ ap (λ (z : ℕ). z ∷ []) next;
      once = λ x. let t = total_set (λ (v : DrawLedger). times x v.drawn) s.views id me.0 w at in let u = times_append x me.0.drawn (n ∷ []) in let o = once_next x n in let p = h.once x in omega arith;
      seats = let t = total_set (λ (v : DrawLedger). v.seats) s.views id me.0 w at in let p = h.seats in omega arith;
      bound = subst (λ (y : ℕ). n + 1 ≤ k.chunks + y) (sym pasts) (next_bound n k.chunks (sum_over (λ x. past k.chunks x.drawn) s.views) h.bound);
      each = each_set k s.views id w h.each fits;
      small = h.small;
    }

-- a seat that stands for none may come at any time
pub may_enter : (k : Batch) (slots i : ℕ) → Enters (Given k) slots i (λ _ w. w ≡ empty_draws)
may_enter k slots i s h _ _ = (
  empty_draws,
  record {
    counter = h.counter;
    words = h.words;
    once = λ x. let t = total_snoc (λ (v : DrawLedger). times x v.drawn) s.views empty_draws in let p = h.once x in omega arith;
    seats = let t = total_snoc (λ (v : DrawLedger). v.seats) s.views empty_draws in let p = h.seats in omega arith;
    bound = let t = total_snoc (λ (v : DrawLedger). past k.chunks v.drawn) s.views empty_draws in let p = h.bound in omega arith;
    each = each_snoc k s.views empty_draws h.each record { same = λ lt. absurd (omega arith); once_past = omega arith; empty = λ _. refl };
    small = h.small;
  },
  refl,
)

-- the first seat gives a seat away
pub may_cut : (k : Batch) (id : ℕ) (v : DrawLedger) → 0 < v.seats → v.drawn ≡ [] → Splits (Given k) id v (cut v) (one_seat v)
may_cut k id v some_left clean s h at = record {
  counter = h.counter;
  words = h.words;
  once = λ x. let t = total_set (λ (u : DrawLedger). times x u.drawn) s.views id v (cut v) at in let u = total_snoc (λ (u : DrawLedger). times x u.drawn) front (one_seat v) in let p = h.once x in omega arith;
  seats = let t = total_set (λ (u : DrawLedger). u.seats) s.views id v (cut v) at in let u = total_snoc (λ (u : DrawLedger). u.seats) front (one_seat v) in let p = h.seats in omega (arith, t, u, p, some_left);
  bound = let t = total_set (λ (u : DrawLedger). past k.chunks u.drawn) s.views id v (cut v) at in let u = total_snoc (λ (u : DrawLedger). past k.chunks u.drawn) front (one_seat v) in let p = h.bound in omega arith;
  each = each_snoc k front (one_seat v)
      (each_set k s.views id (cut v) h.each record { same = λ _. (h.each id v at).same some_left; once_past = let e : past k.chunks v.drawn ≡ 0 = ap (past k.chunks) clean in omega (arith, e); empty = λ _. clean })
      record { same = λ _. (h.each id v at).same some_left; once_past = omega arith; empty = λ _. refl };
  small = h.small;
}
  where
    front : List DrawLedger
    front = set s.views id (cut v)

-- one seat takes another in
pub may_gather : (k : Batch) (id other : ℕ) (v w : DrawLedger) → 0 < w.seats → Joins (Given k) id v other w (gathered v w) empty_draws
may_gather k id other v w full s h at apart there = record {
  counter = h.counter;
  words = h.words;
  once = λ x. let t = total_set (λ (u : DrawLedger). times x u.drawn) s.views id v both at in let u = total_set (λ (u : DrawLedger). times x u.drawn) mid other w empty_draws there in let a = times_append x v.drawn w.drawn in let p = h.once x in omega arith;
  seats = let t = total_set (λ (u : DrawLedger). u.seats) s.views id v both at in let u = total_set (λ (u : DrawLedger). u.seats) mid other w empty_draws there in let p = h.seats in omega arith;
  bound = let t = total_set (λ (u : DrawLedger). past k.chunks u.drawn) s.views id v both at in let u = total_set (λ (u : DrawLedger). past k.chunks u.drawn) mid other w empty_draws there in let a = past_append k.chunks v.drawn w.drawn in let p = h.bound in omega arith;
  each = each_set k mid other empty_draws
      (each_set k s.views id both h.each record {
        same = λ _. theirs.same full;
        once_past = let a = past_append k.chunks v.drawn w.drawn in let b = (h.each id v at).once_past in let c = theirs.once_past in omega arith;
        empty = λ e. absurd (omega (arith, e, full));
      })
      record { same = λ lt. absurd (omega arith); once_past = omega arith; empty = λ _. refl };
  small = h.small;
}
  where
    both : DrawLedger
    both = gathered v w

    mid : List DrawLedger
    mid = set s.views id both

    theirs : Fits k w
    theirs = h.each other w (sym (set_else s.views id other both apart) ∙ there)

-- seats that stand for none have drawn nothing
all_zero : (x : ℕ) (l : List DrawLedger) → ((j : ℕ) (v : DrawLedger) → get_elem? l j ≡ some v → v.seats ≡ 0 → v.drawn ≡ []) → sum_over (λ v. v.seats) l ≡ 0 → sum_over (λ v. times x v.drawn) l ≡ 0
all_zero x [] h e = refl
all_zero x (v ∷ vs) h e =
    let clean : times x v.drawn ≡ 0 = ap (times x) (h 0 v refl (omega (arith, e))) in
    let more = all_zero x vs (λ j u f. h (suc j) u f) (omega (arith, e)) in
    omega (arith, clean, more)

-- the last state of a counter, seen by a seat that stands for all: the others stand for none, so it has drawn all that was drawn
pub all_seen : (k : Batch) (id : ℕ) (m : DrawLedger) (ws : List ℕ) (xs : List (Unit {0})) (c : ℕ) → Final (Seen (Given k) id m) ws xs → m.seats ≡ k.seats → get_elem? ws 0 ≡ some c → IsEachBelowOnce c m.drawn
all_seen k id m ws xs c f full at x = subst (λ (z : ℕ). times x m.drawn ≡ one_if (ltb x z)) stands (let a = none_else in let t = total_set (λ (v : DrawLedger). times x v.drawn) s.views id m empty_draws seat in let p = h.once x in omega arith)
  where
    s : St
    s = f.0

    h : Given k s
    h = f.1.0

    seat : get_elem? s.views id ≡ some m
    seat = f.1.1

    stands : h.counter ≡ c
    stands = some-injective h.counter c (ap (λ (l : List ℕ). get_elem? l 0) (sym h.words ∙ f.2) ∙ at)

    rest : List DrawLedger
    rest = set s.views id empty_draws

    none_else : sum_over (λ v. times x v.drawn) rest ≡ 0
    none_else = all_zero x rest
        (λ j v e z. (each_set k s.views id empty_draws h.each record { same = λ lt. absurd (omega arith); once_past = omega arith; empty = λ _. refl } j v e).empty z)
        (let t = total_set (λ (v : DrawLedger). v.seats) s.views id m empty_draws seat in let q = h.seats in omega (arith, t, q, full))

-- the counter at the start
pub may_begin : (c n : ℕ) → c < 4294967296 → n < 4294967296 → Given (batch c n) (opening (0 ∷ []) [] (whole (batch c n)))
may_begin c n low few = record {
  counter = 0;
  words = refl;
  once = λ x. grind (arith, nat_tests);
  seats = omega arith;
  bound = omega arith;
  each = first;
  small = omega (arith, low, few);
}
  where
    first : Each (batch c n) (whole (batch c n) ∷ [])
    first zero v e = subst (λ (x : DrawLedger). Fits (batch c n) x) (some-injective (whole (batch c n)) v e) record { same = λ _. refl; once_past = omega arith; empty = λ _. refl }
    first (suc j) v e = absurd (some-ne-none v (sym e))

-- one seat fewer to gather
pub times_last : (x : ℕ) (l : List DrawLedger) (v : DrawLedger) → times x (all_drawn (l ++ v ∷ [])) ≡ times x (all_drawn l) + times x v.drawn
times_last x [] v = times_append x v.drawn [] ∙ (omega arith)
times_last x (u ∷ us) v =
    let a = times_append x u.drawn (all_drawn (us ++ v ∷ [])) in
    let b = times_append x u.drawn (all_drawn us) in
    let c = times_last x us v in
    omega arith

-- a seat that was not done, after one number more
pub drawer_after : (z : TableId) (chunks n : ℕ) (ended : Bool) (s t : Seat (Unit {0}) DrawLedger) → IsDrawer z chunks false s → t.table_id ≡ s.table_id → t.me ≡ (drawing s.me.0 n, s.me.1) → cond (ltb n chunks) 0 1 ≡ one_if ended → IsDrawer z chunks ended t
drawer_after z chunks n ended s t i same me now = record {
  table = same ∙ i.table;
  empty = ap (λ m. m.1) me ∙ i.empty;
  chunks_are = ap (λ m. m.0.chunks) me ∙ i.chunks_are;
  one = ap (λ m. m.0.seats) me ∙ i.one;
  ended_is =
      let a = past_append s.me.0.chunks s.me.0.drawn (n ∷ []) in
      let b : ◌≡◌ {A = ℕ} (cond (ltb n s.me.0.chunks) 0 1) (cond (ltb n chunks) 0 1) = ap (λ (c : ℕ). cond (ltb n c) 0 1) i.chunks_are in
      ap (λ m. past m.0.chunks m.0.drawn) me ∙ omega (arith, a, b, now, i.ended_is);
}

pub below : (n c : ℕ) → n < c → ◌≡◌ {A = ℕ} (cond (ltb n c) 0 1) 0
below n c lt = grind (arith, nat_tests)

pub not_below : (n c : ℕ) → c ≤ n → ◌≡◌ {A = ℕ} (cond (ltb n c) 0 1) 1
not_below n c le = grind (arith, nat_tests)

pub no_seats : (l : List DrawLedger) → length l ≡ 0 → l ≡ []
no_seats [] e = refl
no_seats (v ∷ vs) e = absurd (omega arith)
