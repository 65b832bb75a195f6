-- The steps, as the seats of a board take them.
use Rattle.std.proofs.Common.{◌≡◌, ◌≢◌, ℕ, ◌+◌, ◌-◌, ◌<◌, ◌≤◌, List, [], ◌∷◌, ◌++◌, length, get_or, set, Option, Some, None, eqb, sym, refl, ap, ◌∙◌, subst, arith, length-set, get_or-set_same, get_or-set_other}
use mathlib.Core.Logic.{dite}
use mathlib.Core.Option.{none}
use native.Mathlib.Decide.{ℕ_discrete}
use prog.Atomic.{either}
use Rattle.atomic_table.specs.Table.{step, Allows}
use Rattle.atomic_table.specs.Seated.{TableId}
use Rattle.atomic_table.specs.declared.shared.Seat.{Seat}
use Rattle.pit_model.specs.declared.journal.Verdict.{Verdict}
use Rattle.proposals.specs.declared.seat_state.WorkerLedger.{WorkerLedger}
use Rattle.proposals.specs.declared.seat_state.Served.{Served}
use Rattle.proposals.specs.declared.seat_state.HolderLedger.{HolderLedger}
use Rattle.proposals.specs.declared.seat_state.SeatState.{SeatState}
use Rattle.proposals.specs.Ledger.{code, reply, Boarded, seat_state, nothing_served, served, answered_to, OpenIs, asking, withdrawn, collecting, worker_ledger_or, holder_ledger_or, claiming, answering, unclaiming, claimed_from, HolderView, serving, looking, Asked, Withdrew, Collected, Looked, Claimed, Answered, Unclaimed, Meets, Agreed, meeting, worker_part, holder_part}
use Rattle.proposals.specs.Seats.{worker_ledger_in, holder_ledger_in, IsWorker, IsHolder, IsHolding}
use Rattle.proposals.proofs.Turns.{arcs_snoc}
use Rattle.proposals.proofs.Workers.{may_ask, may_collect, may_withdraw}
use Rattle.proposals.proofs.Holders.{may_look, may_claim, may_answer, may_unclaim, may_agree}

abbrev S : Type 0
S = Seat (Unit {0}) SeatState

-- a seat after a step that gave its worker the worker_ledger d
pub now_worker : (z : TableId) (cell : ℕ) (before after : Option ℕ) (s t : S) (d : WorkerLedger) → IsWorker z cell before s → t.table_id ≡ s.table_id → t.me ≡ (seat_state (Some d) s.me.0.holder, s.me.1) → d.cell ≡ (worker_ledger_in s).cell → OpenIs after d
    → IsWorker z cell after t
now_worker z cell before after s t d w same me at ask =
    let is : worker_ledger_in t ≡ d = ap (λ m. worker_ledger_or m.0.worker) me in record {
      table = same ∙ w.table;
      empty = ap (λ m. m.1) me ∙ w.empty;
      is = ap (λ m. m.0.worker) me ∙ ap (λ (x : WorkerLedger). Some x) (sym is);
      at = ap (λ (x : WorkerLedger). x.cell) is ∙ (at ∙ w.at);
      inside = w.inside;
      ask = subst (λ (x : WorkerLedger). OpenIs after x) (sym is) ask;
    }

-- a seat after a step that changed nothing
pub same_worker : (z : TableId) (cell : ℕ) (ask : Option ℕ) (s t : S) → IsWorker z cell ask s → t.table_id ≡ s.table_id → t.me ≡ s.me → IsWorker z cell ask t
same_worker z cell ask s t w same me =
    let is : worker_ledger_in t ≡ worker_ledger_in s = ap (λ m. worker_ledger_or m.0.worker) me in record {
      table = same ∙ w.table;
      empty = ap (λ m. m.1) me ∙ w.empty;
      is = ap (λ m. m.0.worker) me ∙ (w.is ∙ ap (λ (x : WorkerLedger). Some x) (sym is));
      at = ap (λ (x : WorkerLedger). x.cell) is ∙ w.at;
      inside = w.inside;
      ask = subst (λ (x : WorkerLedger). OpenIs ask x) (sym is) w.ask;
    }

pub worker_ledger_now : (s t : S) (d : WorkerLedger) (h : Option HolderLedger) (c : List (ℕ × Unit {0})) → t.me ≡ (seat_state (Some d) h, c) → worker_ledger_in t ≡ d
worker_ledger_now s t d h c me = ap (λ m. worker_ledger_or m.0.worker) me

module _ (z : TableId) (n slots cell : ℕ) (s : S) where
  pub ask_as : (a : ℕ) → IsWorker z cell None s → a < 4294967296 → Allows (Boarded n) slots s.id s.me cell (λ _. 4294967296 + a) (λ _. Asked (step slots cell (4294967296 + a) 0 none) s.me (4294967296 + a))
  ask_as a w small = subst (λ (i : ℕ). Allows (Boarded n) slots s.id s.me i (λ _. 4294967296 + a) (λ _. Asked (step slots i (4294967296 + a) 0 none) s.me (4294967296 + a))) w.at (may_ask n slots s.id a s.me (worker_ledger_in s) w.is small w.ask)

  pub asked_as : (a : ℕ) (t : S) → IsWorker z cell None s → a < 4294967296 → t.table_id ≡ s.table_id → Asked (step slots cell (4294967296 + a) 0 none) s.me (4294967296 + a) t.me → IsWorker z cell (Some a) t × (worker_ledger_in t ≡ asking (worker_ledger_in s) a)
  asked_as a t w small same told =
      let me = told (worker_ledger_in s) a w.is refl in
      (now_worker z cell None (Some a) s t (asking (worker_ledger_in s) a) w same me refl (ap (λ l. l ++ a ∷ []) w.ask, small), worker_ledger_now s t (asking (worker_ledger_in s) a) s.me.0.holder s.me.1 me)

  pub collect_as : (a : ℕ) → IsWorker z cell (Some a) s → Allows (Boarded n) slots s.id s.me cell (λ x. x) (Collected (step slots cell 0 0 none) s.me)
  collect_as a w = subst (λ (i : ℕ). Allows (Boarded n) slots s.id s.me i (λ x. x) (Collected (step slots i 0 0 none) s.me)) w.at (may_collect n slots s.id a s.me (worker_ledger_in s) w.is w.ask.0)

  pub withdraw_as : (a : ℕ) → IsWorker z cell (Some a) s → Allows (Boarded n) slots s.id s.me cell (λ x. either (eqb x (4294967296 + a)) 0 x) (Withdrew (step slots cell (4294967296 + a) 0 none) s.me)
  withdraw_as a w = subst (λ (i : ℕ). Allows (Boarded n) slots s.id s.me i (λ x. either (eqb x (4294967296 + a)) 0 x) (Withdrew (step slots i (4294967296 + a) 0 none) s.me)) w.at (may_withdraw n slots s.id a s.me (worker_ledger_in s) w.is w.ask.0 w.ask.1)

  pub collected_as : (a k : ℕ) (v : Verdict) (t : S) → IsWorker z cell (Some a) s → t.table_id ≡ s.table_id → Collected (step slots cell 0 0 none) s.me k t.me → k < 4 → ((u : Verdict) → k ≡ code u → v ≡ u)
      → IsWorker z cell None t × (worker_ledger_in t ≡ collecting (worker_ledger_in s) (reply a v))
  collected_as a k v t w same told low is =
      let got = (told (worker_ledger_in s) a w.is w.ask.0).0 low in
      let u : v ≡ got.0 = is got.0 got.1 in
      let me : t.me ≡ (seat_state (Some (collecting (worker_ledger_in s) (reply a v))) s.me.0.holder, s.me.1) = got.2 ∙ (λ i. (seat_state (Some (collecting (worker_ledger_in s) (reply a (sym u i)))) s.me.0.holder, s.me.1)) in
      (now_worker z cell (Some a) None s t (collecting (worker_ledger_in s) (reply a v)) w same me refl (w.ask.0 ∙ sym (arcs_snoc (worker_ledger_in s).collected (reply a v))), worker_ledger_now s t (collecting (worker_ledger_in s) (reply a v)) s.me.0.holder s.me.1 me)

  pub not_collected_as : (a k : ℕ) (t : S) → IsWorker z cell (Some a) s → t.table_id ≡ s.table_id → Collected (step slots cell 0 0 none) s.me k t.me → 4 ≤ k → IsWorker z cell (Some a) t × (worker_ledger_in t ≡ worker_ledger_in s)
  not_collected_as a k t w same told high = let me = (told (worker_ledger_in s) a w.is w.ask.0).1 high in (same_worker z cell (Some a) s t w same me, ap (λ m. worker_ledger_or m.0.worker) me)

  pub withdrawn_as : (a k : ℕ) (t : S) → IsWorker z cell (Some a) s → t.table_id ≡ s.table_id → Withdrew (step slots cell (4294967296 + a) 0 none) s.me k t.me → k ≡ 4294967296 + a → IsWorker z cell None t × (worker_ledger_in t ≡ withdrawn (worker_ledger_in s))
  withdrawn_as a k t w same told hit = let me = (told (worker_ledger_in s) w.is).0 hit in (now_worker z cell (Some a) None s t (withdrawn (worker_ledger_in s)) w same me refl refl, worker_ledger_now s t (withdrawn (worker_ledger_in s)) s.me.0.holder s.me.1 me)

  pub not_withdrawn_as : (a k : ℕ) (t : S) → IsWorker z cell (Some a) s → t.table_id ≡ s.table_id → Withdrew (step slots cell (4294967296 + a) 0 none) s.me k t.me → k ≢ 4294967296 + a → IsWorker z cell (Some a) t × (worker_ledger_in t ≡ worker_ledger_in s)
  not_withdrawn_as a k t w same told miss = let me = (told (worker_ledger_in s) w.is).1 miss in (same_worker z cell (Some a) s t w same me, ap (λ m. worker_ledger_or m.0.worker) me)

-- the holder's seat after a step that left it with this ledger
pub now_holder : (z : TableId) (s t : S) (q : HolderLedger) → IsHolder z s → t.table_id ≡ s.table_id → t.me ≡ (seat_state s.me.0.worker (Some q), s.me.1) → length q.served ≡ z.words → IsHolder z t
now_holder z s t q w same me wide =
    let is : holder_ledger_in t ≡ q = ap (λ m. holder_ledger_or m.0.holder) me in
    record { table = same ∙ w.table; empty = ap (λ m. m.1) me ∙ w.empty; is = ap (λ m. m.0.holder) me ∙ ap (λ (x : HolderLedger). Some x) (sym is); wide = ap (λ (x : HolderLedger). length x.served) is ∙ wide }

pub same_holder : (z : TableId) (s t : S) → IsHolder z s → t.table_id ≡ s.table_id → t.me ≡ s.me → IsHolder z t
same_holder z s t w same me =
    let is : holder_ledger_in t ≡ holder_ledger_in s = ap (λ m. holder_ledger_or m.0.holder) me in
    record { table = same ∙ w.table; empty = ap (λ m. m.1) me ∙ w.empty; is = ap (λ m. m.0.holder) me ∙ (w.is ∙ ap (λ (x : HolderLedger). Some x) (sym is)); wide = ap (λ (x : HolderLedger). length x.served) is ∙ w.wide }

module _ (z : TableId) (n slots cell : ℕ) (s : S) (h : IsHolder z s) where
  pub look_as : Allows (Boarded n) slots s.id s.me cell (λ x. x) (Looked (step slots cell 0 0 none) s.me)
  look_as = may_look n slots s.id cell s.me (holder_ledger_in s) h.is

  pub looked_as : (k : ℕ) (t : S) → t.table_id ≡ s.table_id → Looked (step slots cell 0 0 none) s.me k t.me → IsHolder z t × (holder_ledger_in t ≡ looking (holder_ledger_in s) cell)
  looked_as k t same told =
      let me = told (holder_ledger_in s) h.is in
      (now_holder z s t (looking (holder_ledger_in s) cell) h same me h.wide, ap (λ m. holder_ledger_or m.0.holder) me)

  pub claim_as : (word : ℕ) → cell < n → 4294967296 ≤ word → word < 8589934592 → Allows (Boarded n) slots s.id s.me cell (λ x. either (eqb x word) (word + 4294967296) x) (Claimed (step slots cell word (word + 4294967296) none) s.me)
  claim_as word inside low high =
      let a : ℕ = word - 4294967296 in
      let e : 4294967296 + a ≡ word = omega arith in
      let f : 8589934592 + a ≡ word + 4294967296 = omega arith in
      subst (λ (p : ℕ × ℕ). Allows (Boarded n) slots s.id s.me cell (λ x. either (eqb x p.0) p.1 x) (Claimed (step slots cell p.0 p.1 none) s.me)) (λ i. (e i, f i)) (may_claim n slots s.id cell s.me (holder_ledger_in s) h.is inside a (omega arith))

  pub claimed_as : (word k : ℕ) (t : S) → 4294967296 ≤ word → t.table_id ≡ s.table_id → Claimed (step slots cell word (word + 4294967296) none) s.me k t.me → k ≡ word
      → IsHolder z t × (holder_ledger_in t ≡ serving (holder_ledger_in s) (claiming (holder_ledger_in s).served cell (word - 4294967296))) × (claimed_from (holder_ledger_in s).served cell ≡ None)
  claimed_as word k t low same told hit =
      let e : word ≡ 4294967296 + (word - 4294967296) = omega arith in
      let got = (told (holder_ledger_in s) (word - 4294967296) h.is e).0 hit in
      (now_holder z s t (serving (holder_ledger_in s) (claiming (holder_ledger_in s).served cell (word - 4294967296))) h same got.1 (length-set (holder_ledger_in s).served cell _ ∙ h.wide), ap (λ m. holder_ledger_or m.0.holder) got.1, got.0)

  pub not_claimed_as : (word k : ℕ) (t : S) → 4294967296 ≤ word → t.table_id ≡ s.table_id → Claimed (step slots cell word (word + 4294967296) none) s.me k t.me → k ≢ word → IsHolder z t × (holder_ledger_in t ≡ holder_ledger_in s)
  not_claimed_as word k t low same told miss =
      let e : word ≡ 4294967296 + (word - 4294967296) = omega arith in
      let me = (told (holder_ledger_in s) (word - 4294967296) h.is e).1 miss in
      (same_holder z s t h same me, ap (λ m. holder_ledger_or m.0.holder) me)

  module _ (a : ℕ) (has : claimed_from (holder_ledger_in s).served cell ≡ Some a) where
    pub answer_as : (v : Verdict) (k : ℕ) → cell < n → k ≡ code v → Allows (Boarded n) slots s.id s.me cell (λ _. k) (λ _. Answered (step slots cell k 0 none) s.me k)
    answer_as v k inside e = subst (λ (x : ℕ). Allows (Boarded n) slots s.id s.me cell (λ _. x) (λ _. Answered (step slots cell x 0 none) s.me x)) (sym e) (may_answer n slots s.id cell s.me (holder_ledger_in s) h.is inside a has v)

    pub answered_as : (v : Verdict) (k : ℕ) (t : S) → k ≡ code v → t.table_id ≡ s.table_id → Answered (step slots cell k 0 none) s.me k t.me → IsHolder z t × (holder_ledger_in t ≡ serving (holder_ledger_in s) (answering (holder_ledger_in s).served cell (reply a v)))
    answered_as v k t e same told =
        let me = told (holder_ledger_in s) a v h.is has e in
        (now_holder z s t (serving (holder_ledger_in s) (answering (holder_ledger_in s).served cell (reply a v))) h same me (length-set (holder_ledger_in s).served cell _ ∙ h.wide), ap (λ m. holder_ledger_or m.0.holder) me)

    pub unclaim_as : (k : ℕ) → cell < n → k ≡ 4294967296 + a → Allows (Boarded n) slots s.id s.me cell (λ _. k) (λ _. Unclaimed (step slots cell k 0 none) s.me k)
    unclaim_as k inside e = subst (λ (x : ℕ). Allows (Boarded n) slots s.id s.me cell (λ _. x) (λ _. Unclaimed (step slots cell x 0 none) s.me x)) (sym e) (may_unclaim n slots s.id cell s.me (holder_ledger_in s) h.is inside a has)

    pub unclaimed_as : (k : ℕ) (t : S) → t.table_id ≡ s.table_id → Unclaimed (step slots cell k 0 none) s.me k t.me → IsHolder z t × (holder_ledger_in t ≡ serving (holder_ledger_in s) (unclaiming (holder_ledger_in s).served cell))
    unclaimed_as k t same told =
        let me = told (holder_ledger_in s) h.is in
        (now_holder z s t (serving (holder_ledger_in s) (unclaiming (holder_ledger_in s).served cell)) h same me (length-set (holder_ledger_in s).served cell _ ∙ h.wide), ap (λ m. holder_ledger_or m.0.holder) me)

-- a holder's seat of which each arc that is claimed stands at its cell, after a step that claimed nothing
pub holds_same : (z : TableId) (arcs : List ℕ) (s t : S) → IsHolding z arcs s → IsHolder z t → (holder_ledger_in t).served ≡ (holder_ledger_in s).served → IsHolding z arcs t
holds_same z arcs s t h g e = record { seat = g; each_worker = h.each_worker; kept = λ j a is. h.kept j a (subst (λ xs. claimed_from xs j ≡ Some a) e is) }

-- after a step that ended the claim in the cell i
pub holds_less : (z : TableId) (arcs : List ℕ) (s t : S) (i : ℕ) (x : Served) → IsHolding z arcs s → IsHolder z t → x.claimed ≡ None → i < z.words → (holder_ledger_in t).served ≡ set (holder_ledger_in s).served i x → IsHolding z arcs t
holds_less z arcs s t i x h g ended inside e = record { seat = g; each_worker = h.each_worker; kept = λ j a is. h.kept j a (before j a (subst (λ xs. claimed_from xs j ≡ Some a) e is)) }
  where
    before : (j a : ℕ) → claimed_from (set (holder_ledger_in s).served i x) j ≡ Some a → claimed_from (holder_ledger_in s).served j ≡ Some a
    before j a is = dite (ℕ_discrete j i)
        (λ (same : j ≡ i). absurd (let w = h.seat.wide in let k : Some a ≡ None = sym is ∙ (ap (λ k. claimed_from (set (holder_ledger_in s).served i x) k) same ∙ (ap (λ (y : Served). y.claimed) (get_or-set_same (holder_ledger_in s).served i x nothing_served (omega (arith, w))) ∙ ended)) in cc))
        (λ other. ap (λ (y : Served). y.claimed) (sym (get_or-set_other (holder_ledger_in s).served i j x nothing_served other)) ∙ is)

-- after a step that claimed the arc a from the cell i
pub holds_more : (z : TableId) (arcs : List ℕ) (s t : S) (i a : ℕ) → IsHolding z arcs s → IsHolder z t → i < z.words → (holder_ledger_in t).served ≡ claiming (holder_ledger_in s).served i a → IsHolding z (set arcs i a) t
holds_more z arcs s t i a h g inside e = record { seat = g; each_worker = length-set arcs i a ∙ h.each_worker; kept = λ j b is. now j b (subst (λ xs. claimed_from xs j ≡ Some b) e is) }
  where
    now : (j b : ℕ) → claimed_from (claiming (holder_ledger_in s).served i a) j ≡ Some b → get_or (set arcs i a) j 0 ≡ b
    now j b is = dite (ℕ_discrete j i)
        (λ (same : j ≡ i). let w = h.seat.wide in let c = h.each_worker in
        let k : Some b ≡ Some a = sym is ∙ (ap (λ k. claimed_from (claiming (holder_ledger_in s).served i a) k) same ∙ ap (λ (y : Served). y.claimed) (get_or-set_same (holder_ledger_in s).served i (served (answered_to (holder_ledger_in s).served i) (Some a)) nothing_served (omega (arith, w)))) in
        let f : b ≡ a = cc in
        ap (λ k. get_or (set arcs i a) k 0) same ∙ (get_or-set_same arcs i a 0 (omega (arith, c)) ∙ sym f))
        (λ other. get_or-set_other arcs i j a 0 other ∙ h.kept j b (ap (λ (y : Served). y.claimed) (sym (get_or-set_other (holder_ledger_in s).served i j (served (answered_to (holder_ledger_in s).served i) (Some a)) nothing_served other)) ∙ is))

-- the worker w has a cell
pub cell_in : (z t : TableId) (xs ys : HolderView) (w : ℕ) → t ≡ z → length xs.served ≡ z.words → xs ≡ ys → 0 < w → w ≤ length ys.served → w - 1 < t.words
cell_in z t xs ys w e wide same low high = let a : t.words ≡ z.words = ap (λ (x : TableId). x.words) e in omega (arith, ap (λ (x : HolderView). length x.served) same)

-- what follows from a join of the holder's seat t into the worker's seat s
pub agree_as : (z : TableId) (n slots cell : ℕ) (ask : Option ℕ) (s t u : S) → IsWorker z cell ask s → IsHolder z t → u.me ≡ (meeting s.me.0 t.me.0, s.me.1) → Allows (Boarded n) slots u.id u.me cell (λ x. x) (Agreed (step slots cell 0 0 none) u.me)
agree_as z n slots cell ask s t u w h me = subst (λ (i : ℕ). Allows (Boarded n) slots u.id u.me i (λ x. x) (Agreed (step slots i 0 0 none) u.me)) w.at (may_agree n slots u.id u.me (worker_ledger_in s) (holder_ledger_in t) (ap (λ m. m.0.worker) me ∙ w.is) (ap (λ m. m.0.holder) me ∙ h.is))

-- and from the split afterwards: u is the joined seat, v the same after the load, x and y its two parts
pub parted : (z : TableId) (slots cell k : ℕ) (ask : Option ℕ) (s t u v x y : S) → IsWorker z cell ask s → IsHolder z t → u.me ≡ (meeting s.me.0 t.me.0, s.me.1) → u.table_id ≡ s.table_id → v.table_id ≡ u.table_id → x.table_id ≡ v.table_id → y.table_id ≡ v.table_id
    → Agreed (step slots cell 0 0 none) u.me k v.me → x.me ≡ (worker_part v.me.0, v.me.1) → y.me ≡ (holder_part v.me.0, [])
    → IsWorker z cell ask x × IsHolder z y × (worker_ledger_in x ≡ worker_ledger_in s) × (holder_ledger_in y ≡ holder_ledger_in t) × Meets (worker_ledger_in s) (get_or (holder_ledger_in t).served (worker_ledger_in s).cell nothing_served)
parted z slots cell k ask s t u v x y w h me a b c d told xm ym =
    let vm : v.me ≡ (meeting s.me.0 t.me.0, s.me.1) = told.0 ∙ me in
    let xw : x.me.0.worker ≡ s.me.0.worker = ap (λ m. m.0.worker) xm ∙ ap (λ m. m.0.worker) vm in
    let yh : y.me.0.holder ≡ t.me.0.holder = ap (λ m. m.0.holder) ym ∙ ap (λ m. m.0.holder) vm in
    let xd : worker_ledger_in x ≡ worker_ledger_in s = ap worker_ledger_or xw in
    let yr : holder_ledger_in y ≡ holder_ledger_in t = ap holder_ledger_or yh in (
      record {
        table = c ∙ (b ∙ (a ∙ w.table));
        empty = ap (λ m. m.1) xm ∙ (ap (λ m. m.1) vm ∙ w.empty);
        is = xw ∙ (w.is ∙ ap (λ (e : WorkerLedger). Some e) (sym xd));
        at = ap (λ (e : WorkerLedger). e.cell) xd ∙ w.at;
        inside = w.inside;
        ask = subst (λ (e : WorkerLedger). OpenIs ask e) (sym xd) w.ask;
      },
      record { table = d ∙ (b ∙ (a ∙ w.table)); empty = ap (λ m. m.1) ym; is = yh ∙ (h.is ∙ ap (λ (e : HolderLedger). Some e) (sym yr)); wide = ap (λ (e : HolderLedger). length e.served) yr ∙ h.wide },
      xd,
      yr,
      told.1 (worker_ledger_in s) (holder_ledger_in t) (ap (λ m. m.0.worker) me ∙ w.is) (ap (λ m. m.0.holder) me ∙ h.is),
    )
