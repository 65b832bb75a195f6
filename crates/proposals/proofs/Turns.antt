-- Each step keeps the ledger.
use Rattle.std.proofs.Common.{◌≡◌, ◌≢◌, ◌⊎◌, ℕ, zero, suc, ◌<◌, List, [], ◌∷◌, ◌++◌, map, length, get_or, set, Some, sym, ap, ◌∙◌, subst, inl, inr, ⊎_elim, arith, length-append, length-set}
use mathlib.Core.Logic.{dite}
use mathlib.Core.Option.{some, some-injective, some-ne-none}
use mathlib.Core.List.{map-append}
use native.Mathlib.Decide.{ℕ_discrete}
use lib.ListN.{get_elem?}
use lib.Seq.{map-set}
use Rattle.std.proofs.lemmas.List.{set-get_or}
use Rattle.atomic_table.specs.Table.{State, keeps, stepped}
use Rattle.atomic_table.proofs.Lists.{at_set, set_here, set_else, set_again, at_map}
use Rattle.proposals.specs.declared.verdict.Reply.{Reply}
use Rattle.proposals.specs.declared.seat_state.WorkerLedger.{WorkerLedger}
use Rattle.proposals.specs.declared.seat_state.Served.{Served}
use Rattle.proposals.specs.declared.seat_state.HolderLedger.{HolderLedger}
use Rattle.proposals.specs.declared.seat_state.SeatState.{SeatState}
use Rattle.proposals.specs.Ledger.{arcs_in, CellState, SmallAt, cell_word, asked, collected, served_of, WorkerFits, HolderFits, Boarded, seat_state}

pub index_at : (l : List ℕ) (i a : ℕ) → get_elem? l i ≡ some a → get_or l i 0 ≡ a
index_at [] i a e = absurd (some-ne-none a (sym e))
index_at (x ∷ xs) zero a e = some-injective x a e
index_at (x ∷ xs) (suc i) a e = index_at xs i a e

pub within : {A : Type 0} (l : List A) (i : ℕ) (a : A) → get_elem? l i ≡ some a → i < length l
within [] i a e = absurd (some-ne-none a (sym e))
within (x ∷ xs) zero a e = omega arith
within (x ∷ xs) (suc i) a e = let h = within xs i a e in omega arith

pub snoc_last : (l : List ℕ) (a b : ℕ) → l ++ a ∷ [] ≡ l ++ b ∷ [] → a ≡ b
snoc_last [] a b e = cc
snoc_last (x ∷ xs) a b e = snoc_last xs a b (cc)

pub longer : (l : List ℕ) (a : ℕ) → l ++ a ∷ [] ≡ l → ⊥
longer l a e = omega (arith, length-append l (a ∷ []), ap length e)

pub arcs_snoc : (l : List Reply) (r : Reply) → arcs_in (l ++ r ∷ []) ≡ arcs_in l ++ r.arc ∷ []
arcs_snoc l r = map-append (λ (x : Reply). x.arc) l (r ∷ [])

abbrev pub KeepsWorkerLedger : CellState → CellState → Type 0
KeepsWorkerLedger r r' = (asked r' ≡ asked r) × (collected r' ≡ collected r)

module _ (rows : List CellState) (i : ℕ) (r r' : CellState) (at : get_elem? rows i ≡ some r) where
  pub worker_ledger_kept : (owner : ℕ → ℕ) (most j : ℕ) (d : WorkerLedger) → KeepsWorkerLedger r r' → WorkerFits rows owner most j d → WorkerFits (set rows i r') owner most j d
  worker_ledger_kept owner most j d k f = dite (ℕ_discrete d.cell i)
      (λ e. let same : f.at ≡ r = some-injective f.at r (sym f.is ∙ (ap (get_elem? rows) e ∙ at)) in record {
        own = f.own;
        within = f.within;
        at = r';
        is = subst (λ (x : ℕ). get_elem? (set rows i r') x ≡ some r') (sym e) (set_here rows i r' (within rows i r at));
        asks = f.asks ∙ (ap asked same ∙ sym k.0);
        takes = f.takes ∙ (ap collected same ∙ sym k.1);
      })
      (λ ne. record { own = f.own; within = f.within; at = f.at; is = set_else rows i d.cell r' ne ∙ f.is; asks = f.asks; takes = f.takes })

  pub worker_ledger_else : (owner : ℕ → ℕ) (most id j : ℕ) (d : WorkerLedger) → KeepsWorkerLedger r r' ⊎ (owner i ≡ id) → j ≢ id → WorkerFits rows owner most j d → WorkerFits (set rows i r') owner most j d
  worker_ledger_else owner most id j d keep apart f = ⊎_elim
      (λ (k : KeepsWorkerLedger r r'). worker_ledger_kept owner most j d k f)
      (λ (o : owner i ≡ id). dite (ℕ_discrete d.cell i) (λ e. absurd (apart (sym f.own ∙ (ap owner e ∙ o))))
      (λ ne. record { own = f.own; within = f.within; at = f.at; is = set_else rows i d.cell r' ne ∙ f.is; asks = f.asks; takes = f.takes }))
      keep

  pub holder_ledgers_set : (w : Served) → served_of r' ≡ w → map served_of (set rows i r') ≡ set (map served_of rows) i w
  holder_ledgers_set w e = map-set served_of rows i r' ∙ ap (set (map served_of rows) i) e

  pub holder_ledgers_same : served_of r' ≡ served_of r → map served_of (set rows i r') ≡ map served_of rows
  holder_ledgers_same e = holder_ledgers_set (served_of r) e ∙ set_again (map served_of rows) i (served_of r) (at_map served_of rows i r at)

  pub holder_ledger_else : (holder most id j : ℕ) (q : HolderLedger) → (served_of r' ≡ served_of r) ⊎ (holder ≡ id) → j ≢ id → HolderFits rows holder most j q → HolderFits (set rows i r') holder most j q
  holder_ledger_else holder most id j q keep apart f =
      ⊎_elim
      (λ (e : served_of r' ≡ served_of r). record { own = f.own; count = f.count; serves = f.serves ∙ sym (holder_ledgers_same e) })
      (λ (o : holder ≡ id). absurd (apart (sym f.own ∙ o)))
      keep

abbrev pub St : Type 0
St = State (Unit {0}) SeatState

-- a step of the seat id on the word i, whose row goes from r to r'
pub turn : (n : ℕ) (s : St) (h : Boarded n s) (id i k : ℕ) (c : List (ℕ × Unit {0})) (r r' : CellState) (w : SeatState) → get_elem? h.rows i ≡ some r → k ≡ cell_word r' → SmallAt r'.phase → i < h.dealt
    → KeepsWorkerLedger r r' ⊎ (h.owner i ≡ id) → (served_of r' ≡ served_of r) ⊎ (h.holder ≡ id)
    → ((d : WorkerLedger) → w.worker ≡ Some d → WorkerFits (set h.rows i r') h.owner h.dealt id d)
    → ((q : HolderLedger) → w.holder ≡ Some q → HolderFits (set h.rows i r') h.holder h.dealt id q)
    → Boarded n (stepped s i k id c w keeps)
turn n s h id i k c r r' w at word small old worker_ledgers holder_ledgers mine holds = record {
  rows = set h.rows i r';
  owner = h.owner;
  holder = h.holder;
  dealt = h.dealt;
  words = ap (λ (l : List ℕ). set l i k) h.words ∙ (ap (set (map cell_word h.rows) i) word ∙ sym (map-set cell_word h.rows i r'));
  wide = length-set h.rows i r' ∙ h.wide;
  small = λ j x e. ⊎_elim (λ (t : (j ≡ i) × (r' ≡ x)). subst (λ (y : CellState). SmallAt y.phase) t.1 small) (λ (t : (j ≢ i) × (get_elem? h.rows j ≡ some x)). h.small j x t.1) (at_set h.rows i j r' x e);
  new = λ j x le e. ⊎_elim (λ (t : (j ≡ i) × (r' ≡ x)). absurd (let f = t.0 in omega arith)) (λ (t : (j ≢ i) × (get_elem? h.rows j ≡ some x)). h.new j x le t.1) (at_set h.rows i j r' x e);
  workers = λ j v d e is. ⊎_elim
      (λ (t : (j ≡ id) × (w ≡ v)). subst (λ (z : ℕ). WorkerFits (set h.rows i r') h.owner h.dealt z d) (sym t.0) (mine d (ap (λ (x : SeatState). x.worker) t.1 ∙ is)))
      (λ (t : (j ≢ id) × (get_elem? s.views j ≡ some v)). worker_ledger_else h.rows i r r' at h.owner h.dealt id j d worker_ledgers t.0 (h.workers j v d t.1 is))
      (at_set s.views id j w v e);
  holders = λ j v q e is. ⊎_elim
      (λ (t : (j ≡ id) × (w ≡ v)). subst (λ (z : ℕ). HolderFits (set h.rows i r') h.holder h.dealt z q) (sym t.0) (holds q (ap (λ (x : SeatState). x.holder) t.1 ∙ is)))
      (λ (t : (j ≢ id) × (get_elem? s.views j ≡ some v)). holder_ledger_else h.rows i r r' at h.holder h.dealt id j q holder_ledgers t.0 (h.holders j v q t.1 is))
      (at_set s.views id j w v e);
}

-- the word of a row
pub word_is : (n : ℕ) (s : St) (h : Boarded n s) (i : ℕ) (r : CellState) → get_elem? h.rows i ≡ some r → get_or s.words i 0 ≡ cell_word r
word_is n s h i r at = ap (λ (l : List ℕ). get_or l i 0) h.words ∙ index_at (map cell_word h.rows) i (cell_word r) (at_map cell_word h.rows i r at)

-- a step of a worker
pub works : (n : ℕ) (s : St) (h : Boarded n s) (id k : ℕ) (c : List (ℕ × Unit {0})) (v : SeatState) (d d' : WorkerLedger) (r r' : CellState) → get_elem? s.views id ≡ some v → v.worker ≡ Some d → get_elem? h.rows d.cell ≡ some r
    → k ≡ cell_word r' → SmallAt r'.phase → served_of r' ≡ served_of r → d'.cell ≡ d.cell → d'.asked ≡ asked r' → d'.collected ≡ collected r'
    → Boarded n (stepped s d.cell k id c (seat_state (Some d') v.holder) keeps)
works n s h id k c v d d' r r' seat is at word small served cell asked' collected' =
    let f = h.workers id v d seat is in
    turn n s h id d.cell k c r r' (seat_state (Some d') v.holder) at word small f.within (inr f.own) (inl served)
    (λ x e. let same : d' ≡ x = cc in subst (λ (y : WorkerLedger). WorkerFits (set h.rows d.cell r') h.owner h.dealt id y) same record {
      own = ap h.owner cell ∙ f.own;
      within = subst (λ (y : ℕ). y < h.dealt) (sym cell) f.within;
      at = r';
      is = ap (get_elem? (set h.rows d.cell r')) cell ∙ set_here h.rows d.cell r' (within h.rows d.cell r at);
      asks = asked';
      takes = collected';
    })
    (λ q e. let g = h.holders id v q seat e in record { own = g.own; count = g.count; serves = g.serves ∙ sym (holder_ledgers_same h.rows d.cell r r' at served) })

-- a step that changes no word: the seat id has the view w
pub retold : (n : ℕ) (s : St) (h : Boarded n s) (id i : ℕ) (c : List (ℕ × Unit {0})) (w : SeatState)
    → ((d : WorkerLedger) → w.worker ≡ Some d → WorkerFits h.rows h.owner h.dealt id d)
    → ((q : HolderLedger) → w.holder ≡ Some q → HolderFits h.rows h.holder h.dealt id q)
    → Boarded n (stepped s i (get_or s.words i 0) id c w keeps)
retold n s h id i c w mine holds = record {
  rows = h.rows;
  owner = h.owner;
  holder = h.holder;
  dealt = h.dealt;
  words = set-get_or s.words i 0 ∙ h.words;
  wide = h.wide;
  small = h.small;
  new = h.new;
  workers = λ j v d e is. ⊎_elim
      (λ (t : (j ≡ id) × (w ≡ v)). subst (λ (z : ℕ). WorkerFits h.rows h.owner h.dealt z d) (sym t.0) (mine d (ap (λ (x : SeatState). x.worker) t.1 ∙ is)))
      (λ (t : (j ≢ id) × (get_elem? s.views j ≡ some v)). h.workers j v d t.1 is)
      (at_set s.views id j w v e);
  holders = λ j v q e is. ⊎_elim
      (λ (t : (j ≡ id) × (w ≡ v)). subst (λ (z : ℕ). HolderFits h.rows h.holder h.dealt z q) (sym t.0) (holds q (ap (λ (x : SeatState). x.holder) t.1 ∙ is)))
      (λ (t : (j ≢ id) × (get_elem? s.views j ≡ some v)). h.holders j v q t.1 is)
      (at_set s.views id j w v e);
}

-- a step that changes nothing
pub still : (n : ℕ) (s : St) (h : Boarded n s) (id i : ℕ) (c : List (ℕ × Unit {0})) (v : SeatState) → get_elem? s.views id ≡ some v → Boarded n (stepped s i (get_or s.words i 0) id c v keeps)
still n s h id i c v seat = retold n s h id i c v (λ d e. h.workers id v d seat e) (λ q e. h.holders id v q seat e)
