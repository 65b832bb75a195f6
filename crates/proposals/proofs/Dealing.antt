-- How seats are made, cut in two and joined.
use Rattle.std.proofs.Common.{◌≡◌, ◌≢◌, ◌⊎◌, ℕ, zero, suc, ◌+◌, ◌<◌, ◌≤◌, List, [], ◌∷◌, ◌++◌, map, length, replicate, set, Option, Some, None, Bool, cond, eqb, sym, refl, ap, ◌∙◌, subst, inl, inr, ⊎_elim, arith, eq-eqb, ne_eqb}
use mathlib.Core.Option.{some, some-injective, some-ne-none}
use lib.ListN.{get_elem?}
use Rattle.atomic_table.specs.Table.{Splits, Joins, Enters, opening}
use Rattle.atomic_table.proofs.Lists.{at_set, set_else}
use Rattle.proposals.specs.declared.seat_state.WorkerLedger.{WorkerLedger}
use Rattle.proposals.specs.declared.seat_state.Served.{Served}
use Rattle.proposals.specs.declared.seat_state.HolderLedger.{HolderLedger}
use Rattle.proposals.specs.declared.seat_state.SeatState.{SeatState}
use Rattle.proposals.specs.Ledger.{CellState, SmallAt, cell_word, served_of, fresh, WorkerFits, HolderFits, Boarded, worker_ledger, holder_ledger, nothing_served, opener, empty_seat, one_more, newcomer, dealing, dealt_to, meeting, worker_part, holder_part}
use Rattle.proposals.proofs.Turns.{St}

-- an element of a list with one more at its end
pub at_end : {A : Type 0} (l : List A) (a b : A) (j : ℕ) → get_elem? (l ++ a ∷ []) j ≡ some b → (get_elem? l j ≡ some b) ⊎ ((j ≡ length l) × (a ≡ b))
at_end [] a b zero e = inr (refl, some-injective a b e)
at_end [] a b (suc j) e = absurd (some-ne-none b (sym e))
at_end (x ∷ xs) a b zero e = inl e
at_end (x ∷ xs) a b (suc j) e = ⊎_elim (λ (t : get_elem? xs j ≡ some b). inl t) (λ (t : (j ≡ length xs) × (a ≡ b)). inr (ap suc t.0, t.1)) (at_end xs a b j e)

some_none : {A C : Type 0} (x : A) → None ≡ Some x → C
some_none x e = absurd (cc)

-- the same words and rows, under other seats
reseat : (n : ℕ) (s : St) (h : Boarded n s) (owner : ℕ → ℕ) (holder dealt : ℕ) (views : List SeatState)
    → ((i : ℕ) (r : CellState) → dealt ≤ i → get_elem? h.rows i ≡ some r → r ≡ fresh)
    → ((j : ℕ) (v : SeatState) (d : WorkerLedger) → get_elem? views j ≡ some v → v.worker ≡ Some d → WorkerFits h.rows owner dealt j d)
    → ((j : ℕ) (v : SeatState) (r : HolderLedger) → get_elem? views j ≡ some v → v.holder ≡ Some r → HolderFits h.rows holder dealt j r)
    → Boarded n record { words = s.words; homes = s.homes; views = views }
reseat n s h owner holder dealt views new workers holders =
    record { rows = h.rows; owner = owner; holder = holder; dealt = dealt; words = h.words; wide = h.wide; small = h.small; new = new; workers = workers; holders = holders }

-- a seat that knows nothing may come at any time
pub may_sit : (n slots i : ℕ) → Enters (Boarded n) slots i (λ _ w. w ≡ empty_seat)
may_sit n slots i s h _ _ = (
  empty_seat,
  reseat n s h h.owner h.holder h.dealt (s.views ++ empty_seat ∷ []) h.new
      (λ j v d e is. ⊎_elim (λ (t : get_elem? s.views j ≡ some v). h.workers j v d t is) (λ (t : (j ≡ length s.views) × (empty_seat ≡ v)). some_none d (ap (λ (x : SeatState). x.worker) t.1 ∙ is)) (at_end s.views empty_seat v j e))
      (λ j v q e is. ⊎_elim (λ (t : get_elem? s.views j ≡ some v). h.holders j v q t is) (λ (t : (j ≡ length s.views) × (empty_seat ≡ v)). some_none q (ap (λ (x : SeatState). x.holder) t.1 ∙ is)) (at_end s.views empty_seat v j e)),
  refl,
)

-- the holder's seat gives the next worker its seat
pub may_deal : (n id : ℕ) (v : SeatState) (q : HolderLedger) → v.holder ≡ Some q → q.dealt < n → Splits (Boarded n) id v (dealing v) (dealt_to v)
may_deal n id v q is less s h at = reseat n s h owner h.holder (h.dealt + 1) views (λ i r le e. h.new i r (omega arith) e) workers holders
  where
    front : List SeatState
    front = set s.views id (dealing v)

    views : List SeatState
    views = front ++ dealt_to v ∷ []

    f : HolderFits h.rows h.holder h.dealt id q
    f = h.holders id v q at is

    owner : ℕ → ℕ
    owner x = cond (eqb x h.dealt) (length front) (h.owner x)

    raised : (j : ℕ) (d : WorkerLedger) → WorkerFits h.rows h.owner h.dealt j d → WorkerFits h.rows owner (h.dealt + 1) j d
    raised j d g = record {
      own = ap (λ (b : Bool). cond b (length front) (h.owner d.cell)) (ne_eqb d.cell h.dealt (λ e. let w = g.within in omega arith)) ∙ g.own;
      within = let w = g.within in omega arith;
      at = g.at;
      is = g.is;
      asks = g.asks;
      takes = g.takes;
    }

    there : (l : List CellState) (j : ℕ) → j < length l → (r : CellState) × (get_elem? l j ≡ some r)
    there [] j lt = absurd (omega arith)
    there (x ∷ xs) zero lt = (x, refl)
    there (x ∷ xs) (suc j) lt = there xs j (omega arith)

    first : WorkerFits h.rows owner (h.dealt + 1) (length front) (worker_ledger q.dealt [] [])
    first =
        let c : q.dealt ≡ h.dealt = f.count in
        let r = there h.rows q.dealt (omega (arith, h.wide)) in
        let new : r.0 ≡ fresh = h.new q.dealt r.0 (omega arith) r.1 in record {
          own = ap (λ (b : Bool). cond b (length front) (h.owner q.dealt)) (eq-eqb q.dealt h.dealt c);
          within = omega arith;
          at = fresh;
          is = r.1 ∙ ap some new;
          asks = refl;
          takes = refl;
        }

    workers : (j : ℕ) (u : SeatState) (d : WorkerLedger) → get_elem? views j ≡ some u → u.worker ≡ Some d → WorkerFits h.rows owner (h.dealt + 1) j d
    workers j u d e has = ⊎_elim
        (λ (t : get_elem? front j ≡ some u). raised j d (⊎_elim
        (λ (x : (j ≡ id) × (dealing v ≡ u)). subst (λ (z : ℕ). WorkerFits h.rows h.owner h.dealt z d) (sym x.0) (h.workers id v d at (ap (λ (y : SeatState). y.worker) x.1 ∙ has)))
        (λ (x : (j ≢ id) × (get_elem? s.views j ≡ some u)). h.workers j u d x.1 has)
        (at_set s.views id j (dealing v) u t)))
        (λ (t : (j ≡ length front) × (dealt_to v ≡ u)).
        let k : newcomer v.holder ≡ Some d = ap (λ (y : SeatState). y.worker) t.1 ∙ has in
        let k' : Some (worker_ledger q.dealt [] []) ≡ Some d = sym (ap newcomer is) ∙ k in
        let k'' : worker_ledger q.dealt [] [] ≡ d = cc in
        subst (λ (z : ℕ × WorkerLedger). WorkerFits h.rows owner (h.dealt + 1) z.0 z.1) (λ i. (sym t.0 i, k'' i)) first)
        (at_end front (dealt_to v) u j e)

    holders : (j : ℕ) (u : SeatState) (y : HolderLedger) → get_elem? views j ≡ some u → u.holder ≡ Some y → HolderFits h.rows h.holder (h.dealt + 1) j y
    holders j u y e has = ⊎_elim
        (λ (t : get_elem? front j ≡ some u). ⊎_elim
        (λ (x : (j ≡ id) × (dealing v ≡ u)).
        let k : one_more v.holder ≡ Some y = ap (λ (w : SeatState). w.holder) x.1 ∙ has in
        let k' : Some (holder_ledger (q.dealt + 1) q.served q.looks) ≡ Some y = sym (ap one_more is) ∙ k in
        let k'' : holder_ledger (q.dealt + 1) q.served q.looks ≡ y = cc in
        subst (λ (z : ℕ × HolderLedger). HolderFits h.rows h.holder (h.dealt + 1) z.0 z.1) (λ i. (sym x.0 i, k'' i)) record { own = f.own; count = let c = f.count in omega arith; serves = f.serves })
        (λ (x : (j ≢ id) × (get_elem? s.views j ≡ some u)). absurd (x.0 (sym (h.holders j u y x.1 has).own ∙ f.own)))
        (at_set s.views id j (dealing v) u t))
        (λ (t : (j ≡ length front) × (dealt_to v ≡ u)). some_none y (ap (λ (w : SeatState). w.holder) t.1 ∙ has))
        (at_end front (dealt_to v) u j e)

-- the holder's seat goes into a worker's
pub may_meet : (n id other : ℕ) (v w : SeatState) → Joins (Boarded n) id v other w (meeting v w) empty_seat
may_meet n id other v w s h at apart there = by w.holder refl
  where
    views : List SeatState
    views = set (set s.views id (meeting v w)) other empty_seat

    was : get_elem? s.views other ≡ some w
    was = sym (set_else s.views id other (meeting v w) apart) ∙ there

    workers : (j : ℕ) (u : SeatState) (d : WorkerLedger) → get_elem? views j ≡ some u → u.worker ≡ Some d → WorkerFits h.rows h.owner h.dealt j d
    workers j u d e has = ⊎_elim
        (λ (t : (j ≡ other) × (empty_seat ≡ u)). some_none d (ap (λ (x : SeatState). x.worker) t.1 ∙ has))
        (λ (t : (j ≢ other) × (get_elem? (set s.views id (meeting v w)) j ≡ some u)). ⊎_elim
        (λ (x : (j ≡ id) × (meeting v w ≡ u)). subst (λ (z : ℕ). WorkerFits h.rows h.owner h.dealt z d) (sym x.0) (h.workers id v d at (ap (λ (y : SeatState). y.worker) x.1 ∙ has)))
        (λ (x : (j ≢ id) × (get_elem? s.views j ≡ some u)). h.workers j u d x.1 has)
        (at_set s.views id j (meeting v w) u t.1))
        (at_set (set s.views id (meeting v w)) other j empty_seat u e)

    by : (o : Option HolderLedger) → w.holder ≡ o → Boarded n record { words = s.words; homes = s.homes; views = views }
    by None is = reseat n s h h.owner h.holder h.dealt views h.new workers
        (λ j u y e has. ⊎_elim
        (λ (t : (j ≡ other) × (empty_seat ≡ u)). some_none y (ap (λ (x : SeatState). x.holder) t.1 ∙ has))
        (λ (t : (j ≢ other) × (get_elem? (set s.views id (meeting v w)) j ≡ some u)). ⊎_elim
        (λ (x : (j ≡ id) × (meeting v w ≡ u)). some_none y (sym is ∙ (ap (λ (z : SeatState). z.holder) x.1 ∙ has)))
        (λ (x : (j ≢ id) × (get_elem? s.views j ≡ some u)). h.holders j u y x.1 has)
        (at_set s.views id j (meeting v w) u t.1))
        (at_set (set s.views id (meeting v w)) other j empty_seat u e))
    by (Some q) is = reseat n s h h.owner id h.dealt views h.new workers
        (λ j u y e has. ⊎_elim
        (λ (t : (j ≡ other) × (empty_seat ≡ u)). some_none y (ap (λ (x : SeatState). x.holder) t.1 ∙ has))
        (λ (t : (j ≢ other) × (get_elem? (set s.views id (meeting v w)) j ≡ some u)). ⊎_elim
        (λ (x : (j ≡ id) × (meeting v w ≡ u)). let g = h.holders other w y was (ap (λ (z : SeatState). z.holder) x.1 ∙ has) in record { own = sym x.0; count = g.count; serves = g.serves })
        (λ (x : (j ≢ id) × (get_elem? s.views j ≡ some u)). absurd (t.0 (sym (h.holders j u y x.1 has).own ∙ (h.holders other w q was is).own)))
        (at_set s.views id j (meeting v w) u t.1))
        (at_set (set s.views id (meeting v w)) other j empty_seat u e))

-- and comes out again
pub may_part : (n id : ℕ) (v : SeatState) → Splits (Boarded n) id v (worker_part v) (holder_part v)
may_part n id v s h at = by v.holder refl
  where
    front : List SeatState
    front = set s.views id (worker_part v)

    views : List SeatState
    views = front ++ holder_part v ∷ []

    workers : (j : ℕ) (u : SeatState) (d : WorkerLedger) → get_elem? views j ≡ some u → u.worker ≡ Some d → WorkerFits h.rows h.owner h.dealt j d
    workers j u d e has = ⊎_elim
        (λ (t : get_elem? front j ≡ some u). ⊎_elim
        (λ (x : (j ≡ id) × (worker_part v ≡ u)). subst (λ (z : ℕ). WorkerFits h.rows h.owner h.dealt z d) (sym x.0) (h.workers id v d at (ap (λ (y : SeatState). y.worker) x.1 ∙ has)))
        (λ (x : (j ≢ id) × (get_elem? s.views j ≡ some u)). h.workers j u d x.1 has)
        (at_set s.views id j (worker_part v) u t))
        (λ (t : (j ≡ length front) × (holder_part v ≡ u)). some_none d (ap (λ (x : SeatState). x.worker) t.1 ∙ has))
        (at_end front (holder_part v) u j e)

    by : (o : Option HolderLedger) → v.holder ≡ o → Boarded n record { words = s.words; homes = s.homes; views = views }
    by None is = reseat n s h h.owner h.holder h.dealt views h.new workers
        (λ j u y e has. ⊎_elim
        (λ (t : get_elem? front j ≡ some u). ⊎_elim
        (λ (x : (j ≡ id) × (worker_part v ≡ u)). some_none y (ap (λ (z : SeatState). z.holder) x.1 ∙ has))
        (λ (x : (j ≢ id) × (get_elem? s.views j ≡ some u)). h.holders j u y x.1 has)
        (at_set s.views id j (worker_part v) u t))
        (λ (t : (j ≡ length front) × (holder_part v ≡ u)). some_none y (sym is ∙ (ap (λ (x : SeatState). x.holder) t.1 ∙ has)))
        (at_end front (holder_part v) u j e))
    by (Some q) is = reseat n s h h.owner (length front) h.dealt views h.new workers
        (λ j u y e has. ⊎_elim
        (λ (t : get_elem? front j ≡ some u). ⊎_elim
        (λ (x : (j ≡ id) × (worker_part v ≡ u)). some_none y (ap (λ (z : SeatState). z.holder) x.1 ∙ has))
        (λ (x : (j ≢ id) × (get_elem? s.views j ≡ some u)). absurd (x.0 (sym (h.holders j u y x.1 has).own ∙ (h.holders id v q at is).own)))
        (at_set s.views id j (worker_part v) u t))
        (λ (t : (j ≡ length front) × (holder_part v ≡ u)). let g = h.holders id v y at (ap (λ (x : SeatState). x.holder) t.1 ∙ has) in record { own = sym t.0; count = g.count; serves = g.serves })
        (at_end front (holder_part v) u j e))

same_as_fresh : (n i : ℕ) (r : CellState) → get_elem? (replicate n fresh) i ≡ some r → fresh ≡ r
same_as_fresh zero i r e = absurd (some-ne-none r (sym e))
same_as_fresh (suc n) zero r e = some-injective fresh r e
same_as_fresh (suc n) (suc i) r e = same_as_fresh n i r e

-- the board at the start
pub may_open : (n : ℕ) → Boarded n (opening (replicate n 0) [] (opener n))
may_open n = record {
  rows = replicate n fresh;
  owner = λ _. 0;
  holder = 0;
  dealt = 0;
  words = words n;
  wide = wide n;
  small = λ i r e. subst (λ (x : CellState). SmallAt x.phase) (same_as_fresh n i r e) tt;
  new = λ i r _ e. sym (same_as_fresh n i r e);
  workers = workers;
  holders = holders;
}
  where
    words : (m : ℕ) → replicate m 0 ≡ map cell_word (replicate m fresh)
    words zero = refl
    words (suc m) = ap (λ (l : List ℕ). 0 ∷ l) (words m)

    wide : (m : ℕ) → length (replicate m fresh) ≡ m
    wide zero = refl
    wide (suc m) = let w = wide m in omega arith

    holder_ledgers : (m : ℕ) → replicate m nothing_served ≡ map served_of (replicate m fresh)
    holder_ledgers zero = refl
    holder_ledgers (suc m) = ap (λ (l : List Served). nothing_served ∷ l) (holder_ledgers m)

    workers : (j : ℕ) (v : SeatState) (d : WorkerLedger) → get_elem? (opener n ∷ []) j ≡ some v → v.worker ≡ Some d → WorkerFits (replicate n fresh) (λ _. 0) 0 j d
    workers zero v d e is = some_none d (ap (λ (x : SeatState). x.worker) (some-injective (opener n) v e) ∙ is)
    workers (suc j) v d e is = absurd (some-ne-none v (sym e))

    holders : (j : ℕ) (v : SeatState) (q : HolderLedger) → get_elem? (opener n ∷ []) j ≡ some v → v.holder ≡ Some q → HolderFits (replicate n fresh) 0 0 j q
    holders zero v q e is =
        let k : Some (holder_ledger 0 (replicate n nothing_served) []) ≡ Some q = ap (λ (x : SeatState). x.holder) (some-injective (opener n) v e) ∙ is in
        let k' : holder_ledger 0 (replicate n nothing_served) [] ≡ q = cc in
        subst (λ (z : HolderLedger). HolderFits (replicate n fresh) 0 0 0 z) k' record { own = refl; count = refl; serves = holder_ledgers n }
    holders (suc j) v q e is = absurd (some-ne-none v (sym e))
