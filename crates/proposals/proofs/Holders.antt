-- What the holder's steps owe.
use Rattle.std.proofs.Common.{◌≡◌, ◌≢◌, ◌⊎◌, ℕ, zero, suc, ◌+◌, ◌<◌, ◌≤◌, List, [], ◌∷◌, ◌++◌, map, length, get_or, set, Some, None, eqb, sym, refl, ap, ◌∙◌, subst, inl, inr, ⊎_elim, arith, eq-eqb, ne_eqb}
use mathlib.Core.Logic.{dite}
use mathlib.Core.Option.{none, some, some-injective, some-ne-none}
use native.Mathlib.Decide.{ℕ_discrete}
use lib.ListN.{get_elem?}
use prog.Atomic.{either}
use Rattle.atomic_table.specs.Table.{Me, Act, Valid, step, keeps, stepped, Allows, carried_after}
use Rattle.atomic_table.proofs.Lists.{at_map}
use Rattle.pit_model.specs.declared.journal.Verdict.{Verdict}
use Rattle.pit_model.specs.declared.journal.Verdict.TheVariants.{Applied, Stale, Spent}
use Rattle.proposals.specs.declared.verdict.Reply.{Reply}
use Rattle.proposals.specs.declared.seat_state.WorkerLedger.{WorkerLedger}
use Rattle.proposals.specs.declared.seat_state.Served.{Served}
use Rattle.proposals.specs.declared.seat_state.HolderLedger.{HolderLedger}
use Rattle.proposals.specs.declared.seat_state.SeatState.{SeatState}
use Rattle.proposals.specs.Ledger.{code, reply, arcs_in, Phase, idle, asks, claims, gave, took, CellState, cell_state, SmallAt, fresh, served_of, cell_word, asked_at, collected_at, word_at, WorkerFits, HolderFits, Boarded, seat_state, nothing_served, served, answered_to, claimed_from, claiming, answering, unclaiming, serving, looking, Looked, Claimed, Answered, Unclaimed, Meets, Agreed}
use Rattle.proposals.proofs.Turns.{KeepsWorkerLedger, worker_ledger_kept, arcs_snoc, turn, word_is, retold, still, holder_ledgers_set, St}
use Rattle.proposals.proofs.Workers.{low}

abbrev Sat : Type 0
Sat = Me (Unit {0}) SeatState

same_code : (v u : Verdict) → code v ≡ code u → v ≡ u
same_code Applied Applied e = refl
same_code Applied Stale e = absurd (omega arith)
same_code Applied Spent e = absurd (omega arith)
same_code Stale Applied e = absurd (omega arith)
same_code Stale Stale e = refl
same_code Stale Spent e = absurd (omega arith)
same_code Spent Applied e = absurd (omega arith)
same_code Spent Stale e = absurd (omega arith)
same_code Spent Spent e = refl

or_at : {A : Type 0} (l : List A) (i : ℕ) (x a : A) → get_elem? l i ≡ some a → get_or l i x ≡ a
or_at [] i x a e = absurd (some-ne-none a (sym e))
or_at (y ∷ ys) zero x a e = some-injective y a e
or_at (y ∷ ys) (suc i) x a e = or_at ys i x a e

-- what the holder knows of the worker i is what its row says
pub row_of : (n : ℕ) (s : St) (h : Boarded n s) (id i : ℕ) (v : SeatState) (q : HolderLedger) (r : CellState) → get_elem? s.views id ≡ some v → v.holder ≡ Some q → get_elem? h.rows i ≡ some r → get_or q.served i nothing_served ≡ served_of r
row_of n s h id i v q r seat is at = ap (λ (l : List Served). get_or l i nothing_served) (h.holders id v q seat is).serves ∙ or_at (map served_of h.rows) i nothing_served (served_of r) (at_map served_of h.rows i r at)

-- a step of the holder, in a row that is not fresh
serves : (n : ℕ) (s : St) (h : Boarded n s) (id i k : ℕ) (c : List (ℕ × Unit {0})) (v : SeatState) (q : HolderLedger) (x : Served) (r r' : CellState) → get_elem? s.views id ≡ some v → v.holder ≡ Some q → get_elem? h.rows i ≡ some r
    → k ≡ cell_word r' → SmallAt r'.phase → r ≢ fresh → KeepsWorkerLedger r r' → served_of r' ≡ x
    → Boarded n (stepped s i k id c (seat_state v.worker (Some (serving q (set q.served i x)))) keeps)
serves n s h id i k c v q x r r' seat is at word small old keep new =
    let f = h.holders id v q seat is in
    let in_use : i < h.dealt = ⊎_elim (λ (lt : i < h.dealt). lt) (λ (le : h.dealt ≤ i). absurd (old (h.new i r le at))) (below i h.dealt) in
    turn n s h id i k c r r' (seat_state v.worker (Some (serving q (set q.served i x)))) at word small in_use (inl keep) (inr f.own)
    (λ d e. mine d e)
    (λ y e. let same : serving q (set q.served i x) ≡ y = cc in subst (λ (z : HolderLedger). HolderFits (set h.rows i r') h.holder h.dealt id z) same record {
      own = f.own;
      count = f.count;
      serves = ap (λ (l : List Served). set l i x) f.serves ∙ sym (holder_ledgers_set h.rows i r r' at x new);
    })
  where
    below : (a b : ℕ) → (a < b) ⊎ (b ≤ a)
    below a zero = inr (omega arith)
    below zero (suc b) = inl (omega arith)
    below (suc a) (suc b) = ⊎_elim (λ (x : a < b). inl (omega arith)) (λ (y : b ≤ a). inr (omega arith)) (below a b)

    mine : (d : WorkerLedger) → v.worker ≡ Some d → WorkerFits (set h.rows i r') h.owner h.dealt id d
    mine d e = worker_ledger_kept h.rows i r r' at h.owner h.dealt id d keep (h.workers id v d seat e)

asks_not_fresh : (d : List Reply) (b : ℕ) → cell_state d (asks b) ≢ fresh
asks_not_fresh d b e = let f : asks b ≡ idle = ap (λ (r : CellState). r.phase) e in cc

claims_not_fresh : (d : List Reply) (b : ℕ) → cell_state d (claims b) ≢ fresh
claims_not_fresh d b e = let f : claims b ≡ idle = ap (λ (r : CellState). r.phase) e in cc

module _ (n slots id i : ℕ) (me : Sat) (q : HolderLedger) (is : me.0.holder ≡ Some q) (inside : i < n) where
  row_there : (s : St) (h : Boarded n s) → (r : CellState) × (get_elem? h.rows i ≡ some r)
  row_there s h = there h.rows i (omega (arith, h.wide))
    where
      there : (l : List CellState) (j : ℕ) → j < length l → (r : CellState) × (get_elem? l j ≡ some r)
      there [] j lt = absurd (omega arith)
      there (x ∷ xs) zero lt = (x, refl)
      there (x ∷ xs) (suc j) lt = there xs j (omega arith)

  -- `claim_ask`: a compare_exchange of the arc a, as asked, to claimed
  module _ (a : ℕ) (small : a < 4294967296) where
    abbrev Claims : St → Type 0
    Claims s = (w : SeatState) × (x : Act (Unit {0})) × Valid s.homes me.1 x × Boarded n (stepped s i (either (eqb (get_or s.words i 0) (4294967296 + a)) (8589934592 + a) (get_or s.words i 0)) id me.1 w x)
        × Claimed (step slots i (4294967296 + a) (8589934592 + a) none) me (get_or s.words i 0) (w, carried_after me.1 x)

    claims_not : (s : St) (h : Boarded n s) (r : CellState) → get_elem? s.views id ≡ some me.0 → get_elem? h.rows i ≡ some r → word_at r.phase ≢ 4294967296 + a → Claims s
    claims_not s h r seat at other =
        let ne : get_or s.words i 0 ≢ 4294967296 + a = λ e. other (sym (word_is n s h i r at) ∙ e) in (
          me.0,
          keeps,
          tt,
          subst (λ b. Boarded n (stepped s i (either b (8589934592 + a) (get_or s.words i 0)) id me.1 me.0 keeps)) (sym (ne_eqb _ _ ne)) (still n s h id i me.1 me.0 seat),
          λ y b e f. ((λ hit. absurd (ne hit)), (λ _. refl)),
        )

    claims_at : (s : St) (h : Boarded n s) (done : List Reply) (p : Phase) → get_elem? s.views id ≡ some me.0 → get_elem? h.rows i ≡ some (cell_state done p) → Claims s
    claims_at s h done idle seat at = claims_not s h (cell_state done idle) seat at (λ e. omega arith)
    claims_at s h done (took r) seat at = claims_not s h (cell_state done (took r)) seat at (λ e. let l = low r.verdict in omega arith)
    claims_at s h done (gave r) seat at = claims_not s h (cell_state done (gave r)) seat at (λ e. let l = low r.verdict in omega arith)
    claims_at s h done (claims b) seat at = claims_not s h (cell_state done (claims b)) seat at (λ e. omega arith)
    claims_at s h done (asks b) seat at = dite (ℕ_discrete b a)
        (λ same.
        let hit : get_or s.words i 0 ≡ 4294967296 + a = word_is n s h i (cell_state done (asks b)) at ∙ ap (λ (x : ℕ). 4294967296 + x) same in
        let knew : get_or q.served i nothing_served ≡ served done None = row_of n s h id i me.0 q (cell_state done (asks b)) seat is at in
        let x : Served = served (answered_to q.served i) (Some a) in (
          seat_state me.0.worker (Some (serving q (set q.served i x))),
          keeps,
          tt,
          subst (λ y. Boarded n (stepped s i (either y (8589934592 + a) (get_or s.words i 0)) id me.1 (seat_state me.0.worker (Some (serving q (set q.served i x)))) keeps)) (sym (eq-eqb _ _ hit))
              (serves n s h id i (8589934592 + a) me.1 me.0 q x (cell_state done (asks b)) (cell_state done (claims a)) seat is at refl small (asks_not_fresh done b) (ap (λ (y : ℕ). arcs_in done ++ y ∷ []) (sym same), refl)
              (λ k. served (sym (ap (λ (z : Served). z.answered) knew) k) (Some a))),
          λ y c e f. ((λ _. let g : a ≡ c = omega arith in let m : q ≡ y = cc in (ap (λ (z : HolderLedger). claimed_from z.served i) (sym m) ∙ ap (λ (z : Served). z.claimed) knew, λ k. (seat_state me.0.worker (Some (serving (m k) (claiming (m k).served i (g k)))), me.1))), (λ miss. absurd (miss hit))),
        ))
        (λ ne. claims_not s h (cell_state done (asks b)) seat at (λ e. ne (omega arith)))

    pub may_claim : Allows (Boarded n) slots id me i (λ x. either (eqb x (4294967296 + a)) (8589934592 + a) x) (Claimed (step slots i (4294967296 + a) (8589934592 + a) none) me)
    may_claim s h _ seat _ = let r = row_there s h in claims_at s h r.0.done r.0.phase seat r.1

  -- the arc a is claimed: the holder may answer, or give the ask back
  module _ (a : ℕ) (has : claimed_from q.served i ≡ Some a) where
    -- the row of the worker i is then this
    row_claimed : (s : St) (h : Boarded n s) (seat : get_elem? s.views id ≡ some me.0) → (done : List Reply) × (get_elem? h.rows i ≡ some (cell_state done (claims a))) × (a < 4294967296) × (answered_to q.served i ≡ done)
    row_claimed s h seat = let r = row_there s h in by r.0.done r.0.phase r.1
      where
        by : (done : List Reply) (p : Phase) → get_elem? h.rows i ≡ some (cell_state done p) → (d : List Reply) × (get_elem? h.rows i ≡ some (cell_state d (claims a))) × (a < 4294967296) × (answered_to q.served i ≡ d)
        by done idle at = absurd (let k : claimed_from q.served i ≡ None = ap (λ (z : Served). z.claimed) (row_of n s h id i me.0 q (cell_state done idle) seat is at) in cc)
        by done (asks b) at = absurd (let k : claimed_from q.served i ≡ None = ap (λ (z : Served). z.claimed) (row_of n s h id i me.0 q (cell_state done (asks b)) seat is at) in cc)
        by done (gave b) at = absurd (let k : claimed_from q.served i ≡ None = ap (λ (z : Served). z.claimed) (row_of n s h id i me.0 q (cell_state done (gave b)) seat is at) in cc)
        by done (took b) at = absurd (let k : claimed_from q.served i ≡ None = ap (λ (z : Served). z.claimed) (row_of n s h id i me.0 q (cell_state done (took b)) seat is at) in cc)
        by done (claims b) at =
            let knew = row_of n s h id i me.0 q (cell_state done (claims b)) seat is at in
            let k : claimed_from q.served i ≡ Some b = ap (λ (z : Served). z.claimed) knew in
            let same : b ≡ a = cc in
            (done, subst (λ (x : ℕ). get_elem? h.rows i ≡ some (cell_state done (claims x))) same at, subst (λ (x : ℕ). x < 4294967296) same (h.small i (cell_state done (claims b)) at), ap (λ (z : Served). z.answered) knew)

    pub may_answer : (v : Verdict) → Allows (Boarded n) slots id me i (λ _. code v) (λ _. Answered (step slots i (code v) 0 none) me (code v))
    may_answer v s h _ seat _ =
        let r = row_claimed s h seat in
        let x : Served = served (answered_to q.served i ++ reply a v ∷ []) None in (
          seat_state me.0.worker (Some (serving q (set q.served i x))),
          keeps,
          tt,
          serves n s h id i (code v) me.1 me.0 q x (cell_state r.0 (claims a)) (cell_state r.0 (gave (reply a v))) seat is r.1 refl tt (claims_not_fresh r.0 a) (arcs_snoc r.0 (reply a v), refl)
              (λ k. served (sym r.3 k ++ reply a v ∷ []) None),
          λ y b u e f c. let g : q ≡ y = cc in let k : a ≡ b = let m : Some a ≡ Some b = sym has ∙ (ap (λ (z : HolderLedger). claimed_from z.served i) g ∙ f) in cc in
              let same : v ≡ u = same_code v u c in
              λ j. (seat_state me.0.worker (Some (serving (g j) (answering (g j).served i (reply (k j) (same j))))), me.1),
        )

    pub may_unclaim : Allows (Boarded n) slots id me i (λ _. 4294967296 + a) (λ _. Unclaimed (step slots i (4294967296 + a) 0 none) me (4294967296 + a))
    may_unclaim s h _ seat _ =
        let r = row_claimed s h seat in
        let x : Served = served (answered_to q.served i) None in (
          seat_state me.0.worker (Some (serving q (set q.served i x))),
          keeps,
          tt,
          serves n s h id i (4294967296 + a) me.1 me.0 q x (cell_state r.0 (claims a)) (cell_state r.0 (asks a)) seat is r.1 refl r.2 (claims_not_fresh r.0 a) (refl, refl) (λ k. served (sym r.3 k) None),
          λ y e. let g : q ≡ y = cc in λ j. (seat_state me.0.worker (Some (serving (g j) (unclaiming (g j).served i))), me.1),
        )

-- `claim_ask`: a load of the worker's word, which the ledger counts
pub may_look : (n slots id i : ℕ) (me : Sat) (q : HolderLedger) → me.0.holder ≡ Some q → Allows (Boarded n) slots id me i (λ x. x) (Looked (step slots i 0 0 none) me)
may_look n slots id i me q is s h _ seat _ =
    let f = h.holders id me.0 q seat is in (
      seat_state me.0.worker (Some (looking q i)),
      keeps,
      tt,
      retold n s h id i me.1 (seat_state me.0.worker (Some (looking q i))) (λ d e. h.workers id me.0 d seat e)
          (λ y e. let same : looking q i ≡ y = cc in subst (HolderFits h.rows h.holder h.dealt id) same record { own = f.own; count = f.count; serves = f.serves }),
      λ y e. let g : q ≡ y = cc in λ j. (seat_state me.0.worker (Some (looking (g j) i)), me.1),
    )

-- the two seats as one: what the ledger says of both
pub may_agree : (n slots id : ℕ) (me : Sat) (d : WorkerLedger) (q : HolderLedger) → me.0.worker ≡ Some d → me.0.holder ≡ Some q → Allows (Boarded n) slots id me d.cell (λ x. x) (Agreed (step slots d.cell 0 0 none) me)
may_agree n slots id me d q is has s h _ seat _ =
    let f = h.workers id me.0 d seat is in
    let knew = row_of n s h id d.cell me.0 q f.at seat has f.is in (
      me.0,
      keeps,
      tt,
      still n s h id d.cell me.1 me.0 seat,
      (
        refl,
        λ x y e g. let same : d ≡ x = cc in let same' : q ≡ y = cc in
            subst (λ (z : WorkerLedger × HolderLedger). Meets z.0 (get_or z.1.served z.0.cell nothing_served)) (λ k. (same k, same' k)) (subst (λ (z : Served). Meets d z) (sym knew) (meets d f.at.done f.at.phase f.asks f.takes)),
      ),
    )
  where
    meets : (d : WorkerLedger) (done : List Reply) (p : Phase) → d.asked ≡ asked_at done p → d.collected ≡ collected_at done p → Meets d (served_of (cell_state done p))
    meets d done idle a b = inl (a, inl b)
    meets d done (asks x) a b = inr (x, a, b)
    meets d done (claims x) a b = inr (x, a, b)
    meets d done (gave r) a b = inl (a, inr (r, ap (λ l. l ++ r ∷ []) (sym b)))
    meets d done (took r) a b = inl (a, inl b)
