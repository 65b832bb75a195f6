-- What a worker's steps owe.
use Rattle.std.proofs.Common.{◌≡◌, ◌≢◌, ℕ, ◌+◌, ◌<◌, ◌≤◌, List, [], ◌∷◌, ◌++◌, get_or, Some, eqb, sym, refl, ap, ◌∙◌, subst, arith, eq-eqb, ne_eqb}
use mathlib.Core.Option.{none, some}
use lib.ListN.{get_elem?}
use prog.Atomic.{either}
use Rattle.atomic_table.specs.Table.{Me, Act, Valid, step, keeps, stepped, Allows, carried_after}
use Rattle.pit_model.specs.declared.journal.Verdict.{Verdict}
use Rattle.pit_model.specs.declared.journal.Verdict.TheVariants.{Applied, Stale, Spent}
use Rattle.proposals.specs.declared.verdict.Reply.{Reply}
use Rattle.proposals.specs.declared.seat_state.WorkerLedger.{WorkerLedger}
use Rattle.proposals.specs.declared.seat_state.SeatState.{SeatState}
use Rattle.proposals.specs.Ledger.{code, reply, arcs_in, Phase, idle, asks, claims, gave, took, CellState, cell_state, asked_at, collected_at, word_at, Boarded, seat_state, HasNoOpenAsk, IsOpen, asking, withdrawn, collecting, Asked, Withdrew, Collected}
use Rattle.proposals.proofs.Turns.{snoc_last, longer, arcs_snoc, word_is, works, still, St}

abbrev Sat : Type 0
Sat = Me (Unit {0}) SeatState

-- an ask is open, or none is: the replies that the row has beyond those collected
ends : (done : List Reply) (r : Reply) (q : List ℕ) → q ≡ arcs_in done → q ≡ arcs_in (done ++ r ∷ []) → ⊥
ends done r q e f = longer (arcs_in done) r.arc (sym (arcs_snoc done r) ∙ (sym f ∙ e))

pub low : (v : Verdict) → code v < 4
low Applied = omega arith
low Stale = omega arith
low Spent = omega arith

-- `ask`, where no ask is open
module _ (n slots id a : ℕ) (me : Sat) (d : WorkerLedger) (is : me.0.worker ≡ Some d) (small : a < 4294967296) (free : HasNoOpenAsk d) where
  abbrev Asks : St → Type 0
  Asks s = (w : SeatState) × (x : Act (Unit {0})) × Valid s.homes me.1 x × Boarded n (stepped s d.cell (4294967296 + a) id me.1 w x) × Asked (step slots d.cell (4294967296 + a) 0 none) me (4294967296 + a) (w, carried_after me.1 x)

  tells : (x : WorkerLedger) (b : ℕ) → me.0.worker ≡ Some x → 4294967296 + a ≡ 4294967296 + b → ◌≡◌ {A = Sat} (seat_state (Some (asking d a)) me.0.holder, me.1) (seat_state (Some (asking x b)) me.0.holder, me.1)
  tells x b e f = let g : d ≡ x = cc in let h : a ≡ b = omega arith in λ k. (seat_state (Some (asking (g k) (h k))) me.0.holder, me.1)

  asks_at : (s : St) (h : Boarded n s) (done : List Reply) (p : Phase) → get_elem? s.views id ≡ some me.0 → get_elem? h.rows d.cell ≡ some (cell_state done p) → d.asked ≡ asked_at done p → d.collected ≡ collected_at done p → Asks s
  asks_at s h done idle seat at q k = (
    seat_state (Some (asking d a)) me.0.holder,
    keeps,
    tt,
    works n s h id (4294967296 + a) me.1 me.0 d (asking d a) (cell_state done idle) (cell_state done (asks a)) seat is at refl small refl refl (ap (λ l. l ++ a ∷ []) q) k,
    tells,
  )
  asks_at s h done (took r) seat at q k = (
    seat_state (Some (asking d a)) me.0.holder,
    keeps,
    tt,
    works n s h id (4294967296 + a) me.1 me.0 d (asking d a) (cell_state done (took r)) (cell_state (done ++ r ∷ []) (asks a)) seat is at refl small refl refl (ap (λ l. l ++ a ∷ []) q) k,
    tells,
  )
  asks_at s h done (gave r) seat at q k = absurd (ends done r d.asked (free ∙ ap arcs_in k) q)
  asks_at s h done (asks b) seat at q k = absurd (longer (arcs_in done) b (sym q ∙ (free ∙ ap arcs_in k)))
  asks_at s h done (claims b) seat at q k = absurd (longer (arcs_in done) b (sym q ∙ (free ∙ ap arcs_in k)))

  pub may_ask : Allows (Boarded n) slots id me d.cell (λ _. 4294967296 + a) (λ _. Asked (step slots d.cell (4294967296 + a) 0 none) me (4294967296 + a))
  may_ask s h _ seat _ = let f = h.workers id me.0 d seat is in asks_at s h f.at.done f.at.phase seat f.is f.asks f.takes

-- `collect` and `withdraw`, where the ask for a is open
module _ (n slots id a : ℕ) (me : Sat) (d : WorkerLedger) (is : me.0.worker ≡ Some d) (open_is : IsOpen d a) where
  abbrev Collects : St → Type 0
  Collects s = (w : SeatState) × (x : Act (Unit {0})) × Valid s.homes me.1 x × Boarded n (stepped s d.cell (get_or s.words d.cell 0) id me.1 w x) × Collected (step slots d.cell 0 0 none) me (get_or s.words d.cell 0) (w, carried_after me.1 x)

  collects_not : (s : St) (h : Boarded n s) (r : CellState) → get_elem? s.views id ≡ some me.0 → get_elem? h.rows d.cell ≡ some r → 4 ≤ word_at r.phase → Collects s
  collects_not s h r seat at high =
      (me.0, keeps, tt, still n s h id d.cell me.1 me.0 seat, λ x b e o. ((λ lt. absurd (let w = word_is n s h d.cell r at in omega arith)), (λ _. refl)))

  collects_at : (s : St) (h : Boarded n s) (done : List Reply) (p : Phase) → get_elem? s.views id ≡ some me.0 → get_elem? h.rows d.cell ≡ some (cell_state done p) → d.asked ≡ asked_at done p → d.collected ≡ collected_at done p → Collects s
  collects_at s h done idle seat at q k = absurd (longer (arcs_in done) a (ap (λ l. arcs_in l ++ a ∷ []) (sym k) ∙ (sym open_is ∙ q)))
  collects_at s h done (took r) seat at q k = absurd (longer (arcs_in (done ++ r ∷ [])) a (ap (λ l. arcs_in l ++ a ∷ []) (sym k) ∙ (sym open_is ∙ q)))
  collects_at s h done (asks b) seat at q k = collects_not s h (cell_state done (asks b)) seat at (omega arith)
  collects_at s h done (claims b) seat at q k = collects_not s h (cell_state done (claims b)) seat at (omega arith)
  collects_at s h done (gave r) seat at q k =
      let w = word_is n s h d.cell (cell_state done (gave r)) at in (
        seat_state (Some (collecting d r)) me.0.holder,
        keeps,
        tt,
        works n s h id (get_or s.words d.cell 0) me.1 me.0 d (collecting d r) (cell_state done (gave r)) (cell_state done (took r)) seat is at w tt refl refl q (ap (λ l. l ++ r ∷ []) k),
        λ x b e o. let g : d ≡ x = cc in
            let arc : r.arc ≡ b = snoc_last (arcs_in done) r.arc b (sym (arcs_snoc done r) ∙ (sym q ∙ (ap (λ (y : WorkerLedger). y.asked) g ∙ (o ∙ ap (λ l. arcs_in l ++ b ∷ []) (ap (λ (y : WorkerLedger). y.collected) (sym g) ∙ k))))) in
            ((λ lt. (r.verdict, w, λ i. (seat_state (Some (collecting (g i) (reply (arc i) r.verdict))) me.0.holder, me.1))), (λ le. absurd (let l = low r.verdict in omega (arith, w)))),
      )

  pub may_collect : Allows (Boarded n) slots id me d.cell (λ x. x) (Collected (step slots d.cell 0 0 none) me)
  may_collect s h _ seat _ = let f = h.workers id me.0 d seat is in collects_at s h f.at.done f.at.phase seat f.is f.asks f.takes

  abbrev Withdraws : St → Type 0
  Withdraws s = (w : SeatState) × (x : Act (Unit {0})) × Valid s.homes me.1 x × Boarded n (stepped s d.cell (either (eqb (get_or s.words d.cell 0) (4294967296 + a)) 0 (get_or s.words d.cell 0)) id me.1 w x)
      × Withdrew (step slots d.cell (4294967296 + a) 0 none) me (get_or s.words d.cell 0) (w, carried_after me.1 x)

  withdraws_not : (s : St) (h : Boarded n s) (r : CellState) → get_elem? s.views id ≡ some me.0 → get_elem? h.rows d.cell ≡ some r → word_at r.phase ≢ 4294967296 + a → Withdraws s
  withdraws_not s h r seat at other =
      let ne : get_or s.words d.cell 0 ≢ 4294967296 + a = λ e. other (sym (word_is n s h d.cell r at) ∙ e) in (
        me.0,
        keeps,
        tt,
        subst (λ b. Boarded n (stepped s d.cell (either b 0 (get_or s.words d.cell 0)) id me.1 me.0 keeps)) (sym (ne_eqb _ _ ne)) (still n s h id d.cell me.1 me.0 seat),
        λ x e. ((λ hit. absurd (ne hit)), (λ _. refl)),
      )

  withdraws_at : a < 4294967296 → (s : St) (h : Boarded n s) (done : List Reply) (p : Phase) → get_elem? s.views id ≡ some me.0 → get_elem? h.rows d.cell ≡ some (cell_state done p) → d.asked ≡ asked_at done p → d.collected ≡ collected_at done p → Withdraws s
  withdraws_at small s h done idle seat at q k = withdraws_not s h (cell_state done idle) seat at (λ e. omega arith)
  withdraws_at small s h done (took r) seat at q k = withdraws_not s h (cell_state done (took r)) seat at (λ e. let l = low r.verdict in omega arith)
  withdraws_at small s h done (gave r) seat at q k = withdraws_not s h (cell_state done (gave r)) seat at (λ e. let l = low r.verdict in omega arith)
  withdraws_at small s h done (claims b) seat at q k = withdraws_not s h (cell_state done (claims b)) seat at (λ e. omega arith)
  withdraws_at small s h done (asks b) seat at q k =
      let same : b ≡ a = snoc_last (arcs_in done) b a (sym q ∙ (open_is ∙ ap (λ l. arcs_in l ++ a ∷ []) k)) in
      let hit : get_or s.words d.cell 0 ≡ 4294967296 + a = word_is n s h d.cell (cell_state done (asks b)) at ∙ ap (λ (x : ℕ). 4294967296 + x) same in (
        seat_state (Some (withdrawn d)) me.0.holder,
        keeps,
        tt,
        subst (λ y. Boarded n (stepped s d.cell (either y 0 (get_or s.words d.cell 0)) id me.1 (seat_state (Some (withdrawn d)) me.0.holder) keeps)) (sym (eq-eqb _ _ hit))
            (works n s h id 0 me.1 me.0 d (withdrawn d) (cell_state done (asks b)) (cell_state done idle) seat is at refl tt refl refl (ap arcs_in k) k),
        λ x e. let g : d ≡ x = cc in ((λ _. λ i. (seat_state (Some (withdrawn (g i))) me.0.holder, me.1)), (λ miss. absurd (miss hit))),
      )

  pub may_withdraw : a < 4294967296 → Allows (Boarded n) slots id me d.cell (λ x. either (eqb x (4294967296 + a)) 0 x) (Withdrew (step slots d.cell (4294967296 + a) 0 none) me)
  may_withdraw small s h _ seat _ = let f = h.workers id me.0 d seat is in withdraws_at small s h f.at.done f.at.phase seat f.is f.asks f.takes
