-- The journal and the board's seat after one more entry: the entry goes under one seat, and its reply to the same worker.
use Rattle.std.proofs.Common.{◌≡◌, ◌≢◌, ℕ, zero, suc, ◌+◌, ◌-◌, ◌<◌, ◌≤◌, eqb, cond, Bool, true, false, List, [], ◌∷◌, ◌++◌, length, get_or, set, Option, Some, None, sym, refl, ap, ◌∙◌, subst, arith, length-set, get_or-set_same, get_or-set_other, ⊎_elim, eq-eqb, ne_eqb}
use Rattle.std.specs.Prelude.{Result, Ok, Err, IfOk, IfErr}
use Rattle.faults.specs.declared.fault.Fault.{Fault}
use Rattle.faults.specs.Refused.{no_memory}
use Rattle.std.proofs.lemmas.Bool.{cases_eq}
use Rattle.std.proofs.lemmas.List.{set-get_or}
use Rattle.std.proofs.lemmas.List.Elements.{All-push}
use Rattle.proposals.specs.declared.verdict.Reply.{Reply}
use Rattle.proposals.specs.declared.seat_state.Served.{Served}
use Rattle.proposals.specs.Ledger.{HolderView, reply, served, nothing_served, answered_to, claimed_from, claiming, answering, unclaiming}
use Rattle.pit_model.specs.declared.journal.Verdict.{Verdict}
use Rattle.pit_model.specs.declared.journal.Entry.{Entry}
use Rattle.pit_model.specs.Mine.{Instance, arcs}
use Rattle.pit_model.specs.Version.{arcs_after}
use Rattle.pit_model.proofs.Versions.{version_tree-after}
use Rattle.tree_lock.specs.PublishedJournal.{JournalContents, entry_of, DecidesIn}
use Rattle.tree_lock.specs.HolderState.{holder_state, seats_after, with_look, Decides, DecidesFor}
use Rattle.tree_lock.specs.Served.{replies_under, IsUnderSeat, IsServed}

replies-snoc : (s : ℕ) (es : List Entry) (e : Entry) → replies_under s (es ++ e ∷ []) ≡ cond (eqb s e.seat) (replies_under s es ++ reply e.arc e.verdict ∷ []) (replies_under s es)
replies-snoc s [] e = both (eqb s e.seat)
  where
    both : (b : Bool) → cond b (reply e.arc e.verdict ∷ []) [] ≡ cond b ([] ++ reply e.arc e.verdict ∷ []) []
    both true = refl
    both false = refl
replies-snoc s (x ∷ xs) e = ap (λ l. cond (eqb s x.seat) (reply x.arc x.verdict ∷ l) l) (replies-snoc s xs e) ∙ both (eqb s x.seat) (eqb s e.seat)
  where
    both : (a b : Bool) → cond a (reply x.arc x.verdict ∷ cond b (replies_under s xs ++ reply e.arc e.verdict ∷ []) (replies_under s xs)) (cond b (replies_under s xs ++ reply e.arc e.verdict ∷ []) (replies_under s xs))
        ≡ cond b (cond a (reply x.arc x.verdict ∷ replies_under s xs) (replies_under s xs) ++ reply e.arc e.verdict ∷ []) (cond a (reply x.arc x.verdict ∷ replies_under s xs) (replies_under s xs))
    both true true = refl
    both true false = refl
    both false true = refl
    both false false = refl

replies_here : (s : ℕ) (es : List Entry) (a : ℕ) (v : Verdict) → replies_under s (es ++ entry_of s a v ∷ []) ≡ replies_under s es ++ reply a v ∷ []
replies_here s es a v = replies-snoc s es (entry_of s a v) ∙ ap (λ (b : Bool). cond b (replies_under s es ++ reply a v ∷ []) (replies_under s es)) (eq-eqb s s refl)

replies_else : (s t : ℕ) (es : List Entry) (a : ℕ) (v : Verdict) → s ≢ t → replies_under s (es ++ entry_of t a v ∷ []) ≡ replies_under s es
replies_else s t es a v ne = replies-snoc s es (entry_of t a v) ∙ ap (λ (b : Bool). cond b (replies_under s es ++ reply a v ∷ []) (replies_under s es)) (ne_eqb s t ne)

-- an entry of the driver is nobody's reply
pub driven : (mine : Instance) (journal : List Entry) (workers asked : ℕ) (seat : List Served) (a : ℕ) (v : Verdict) → IsServed mine journal workers asked seat → a < arcs mine → IsServed mine (journal ++ entry_of 0 a v ∷ []) workers asked seat
driven mine journal workers asked seat a v is below = record {
  wide = is.wide;
  answers = λ i. replies_else (i + 1) 0 journal a v (λ e. omega arith) ∙ is.answers i;
  unclaimed = is.unclaimed;
  seated = All-push (IsUnderSeat mine workers asked) journal (entry_of 0 a v) is.seated (omega arith, (λ e. below), λ l. absurd (omega arith));
}

at_same : (ss : List Served) (i : ℕ) (x : Served) → i < length ss → get_or (set ss i x) i nothing_served ≡ x
at_same ss i x lt = get_or-set_same ss i x nothing_served lt

at_other : (ss : List Served) (i j : ℕ) (x : Served) → j ≢ i → get_or (set ss i x) j nothing_served ≡ get_or ss j nothing_served
at_other ss i j x ne = get_or-set_other ss i j x nothing_served ne

-- the entry of a worker is the reply to it
answered : (mine : Instance) (journal : List Entry) (workers asked : ℕ) (ss : List Served) (i a : ℕ) (v : Verdict) → IsServed mine journal workers asked ss → i < length ss → a < asked
    → IsServed mine (journal ++ entry_of (i + 1) a v ∷ []) workers asked (answering ss i (reply a v))
answered mine journal workers asked ss i a v is lt known = record {
  wide = length-set ss i last ∙ is.wide;
  answers = λ j. ⊎_elim
      (λ (e : j ≡ i). subst (λ (k : ℕ). replies_under (k + 1) (journal ++ entry_of (i + 1) a v ∷ []) ≡ answered_to two k) (sym e)
      (replies_here (i + 1) journal a v ∙ (ap (λ l. l ++ reply a v ∷ []) (is.answers i) ∙ sym (ap (λ (x : Served). x.answered) (at_same ss i last lt)))))
      (λ (ne : j ≡ i → ⊥). replies_else (j + 1) (i + 1) journal a v (λ e. ne (omega arith)) ∙ (is.answers j ∙ sym (ap (λ (x : Served). x.answered) (at_other ss i j last ne))))
      (cases_eq j i);
  unclaimed = λ j. ⊎_elim
      (λ (e : j ≡ i). ap (λ (k : ℕ). claimed_from two k) e ∙ ap (λ (x : Served). x.claimed) (at_same ss i last lt))
      (λ (ne : j ≡ i → ⊥). ap (λ (x : Served). x.claimed) (at_other ss i j last ne) ∙ is.unclaimed j)
      (cases_eq j i);
  seated = let all = is.wide in All-push (IsUnderSeat mine workers asked) journal (entry_of (i + 1) a v) is.seated (omega arith, (λ e. absurd (omega arith)), λ l. known);
}
  where
    last : Served
    last = served (answered_to ss i ++ reply a v ∷ []) None

    two : List Served
    two = answering ss i (reply a v)

set_set : (ss : List Served) (i : ℕ) (x y : Served) → set (set ss i x) i y ≡ set ss i y
set_set [] i x y = refl
set_set (s ∷ ss) zero x y = refl
set_set (s ∷ ss) (suc i) x y = ap (λ (l : List Served). s ∷ l) (set_set ss i x y)

-- an ask that was claimed and answered was answered
claimed_answered : (ss : List Served) (i a : ℕ) (r : Reply) → i < length ss → answering (claiming ss i a) i r ≡ answering ss i r
claimed_answered ss i a r lt =
    set_set ss i claim (served (answered_to (claiming ss i a) i ++ r ∷ []) None)
    ∙ ap (λ (x : Served). set ss i (served (x.answered ++ r ∷ []) None)) (at_same ss i claim lt)
  where
    claim : Served
    claim = served (answered_to ss i) (Some a)

-- a claim that was given back changed nothing
given_back : (ss : List Served) (i a : ℕ) → i < length ss → claimed_from ss i ≡ None → unclaiming (claiming ss i a) i ≡ ss
given_back ss i a lt free =
    set_set ss i claim (served (answered_to (claiming ss i a) i) None)
    ∙ (ap (λ (x : Served). set ss i (served x.answered None)) (at_same ss i claim lt)
    ∙ (ap (λ (o : Option ℕ). set ss i (served (answered_to ss i) o)) (sym free) ∙ set-get_or ss i nothing_served))
  where
    claim : Served
    claim = served (answered_to ss i) (Some a)

-- what the published journal decided, the holder decided
pub decided :
    (mine : Instance) (k k' : JournalContents) (seat seat' : HolderView) (s a : ℕ) (v : Verdict) → DecidesIn mine s a k k' v → seat'.served ≡ seats_after seat.served (entry_of s a v) → seat'.looks ≡ seat.looks
    → DecidesFor s a (holder_state mine k seat) (holder_state mine k' seat') v
decided mine k k' seat seat' s a v keeps seats looks =
    let entry : Entry = entry_of s a v in (
      keeps.0,
      (λ i. holder_state mine (keeps.1 i) (record { served = seats i; looks = looks i })) ∙ (λ i. record {
        mine = mine;
        tree = version_tree-after mine k.published entry i;
        journal = k.journal ++ entry ∷ [];
        budget = k.budget;
        published = arcs_after k.published entry;
        seats = seats_after seat.served entry;
        looks = seat.looks;
      }),
    )

-- the holder after a decision of the driver
pub after_apply :
    (mine : Instance) (k k' : JournalContents) (workers asked : ℕ) (ss : List Served) (a : ℕ) (r : Result Verdict Fault) → IfOk r (DecidesIn mine 0 a k k')
    → IfErr r (λ e. (e ≡ no_memory) × (k' ≡ k)) → IsServed mine k.journal workers asked ss → a < arcs mine
    → IsServed mine k'.journal workers asked ss × (k'.budget ≡ k.budget)
after_apply mine k k' workers asked ss a (Ok v) ok err is below =
    (subst (λ (x : JournalContents). IsServed mine x.journal workers asked ss) (sym ok.1) (driven mine k.journal workers asked ss a v is below), ap (λ (x : JournalContents). x.budget) ok.1)
after_apply mine k k' workers asked ss a (Err e) ok err is below =
    (subst (λ (x : JournalContents). IsServed mine x.journal workers asked ss) (sym err.1) is, ap (λ (x : JournalContents). x.budget) err.1)

pub applied : (mine : Instance) (k k' : JournalContents) (seat : HolderView) (a : ℕ) (r : Result Verdict Fault) → IfOk r (DecidesIn mine 0 a k k') → IfOk r (Decides a (holder_state mine k seat) (holder_state mine k' seat))
applied mine k k' seat a (Ok v) ok = decided mine k k' seat seat 0 a v ok refl refl
applied mine k k' seat a (Err e) ok = tt

-- the seat after an ask was claimed and answered
pub seats_answered :
    (ss xs ys : List Served) (w a : ℕ) (v : Verdict) → 0 < w → w ≤ length ss → xs ≡ claiming ss (w - 1) a
    → ((b : ℕ) → claimed_from xs (w - 1) ≡ Some b → ys ≡ answering xs (w - 1) (reply b v)) → ys ≡ seats_after ss (entry_of w a v)
seats_answered ss xs ys w a v low high claim answer =
    let lt : w - 1 < length ss = omega arith in
    let has : claimed_from xs (w - 1) ≡ Some a = ap (λ l. claimed_from l (w - 1)) claim ∙ ap (λ (x : Served). x.claimed) (at_same ss (w - 1) (served (answered_to ss (w - 1)) (Some a)) lt) in
    answer a has
    ∙ (ap (λ l. answering l (w - 1) (reply a v)) claim
    ∙ (claimed_answered ss (w - 1) a (reply a v) lt
    ∙ sym (ap (λ (b : Bool). cond b ss (answering ss (w - 1) (reply a v))) (ne_eqb w 0 (λ e. omega arith)))))

-- the holder after an ask was decided and answered
pub after_answer :
    (mine : Instance) (k k' : JournalContents) (workers asked : ℕ) (ss ys : List Served) (w a : ℕ) (v : Verdict) → IsServed mine k.journal workers asked ss → 0 < w → w ≤ length ss → a < asked
    → DecidesIn mine w a k k' v → ys ≡ seats_after ss (entry_of w a v) → IsServed mine k'.journal workers asked ys × (k'.budget ≡ k.budget)
after_answer mine k k' workers asked ss ys w a v is low high known keeps seats =
    let lt : w - 1 < length ss = omega arith in
    let back : (w - 1) + 1 ≡ w = omega arith in
    let now : ys ≡ answering ss (w - 1) (reply a v) = seats ∙ ap (λ (b : Bool). cond b ss (answering ss (w - 1) (reply a v))) (ne_eqb w 0 (λ e. omega arith)) in
    let journal : k'.journal ≡ k.journal ++ entry_of ((w - 1) + 1) a v ∷ [] = ap (λ (x : JournalContents). x.journal) keeps.1 ∙ ap (λ n. k.journal ++ entry_of n a v ∷ []) (sym back) in
    (subst (λ (p : List Entry × List Served). IsServed mine p.0 workers asked p.1) (λ i. (sym journal i, sym now i)) (answered mine k.journal workers asked ss (w - 1) a v is lt known), ap (λ (x : JournalContents). x.budget) keeps.1)

-- the seat after an ask was claimed and given back
pub seats_returned : (ss xs ys : List Served) (w a : ℕ) → 0 < w → w ≤ length ss → claimed_from ss (w - 1) ≡ None → xs ≡ claiming ss (w - 1) a → ys ≡ unclaiming xs (w - 1) → ys ≡ ss
seats_returned ss xs ys w a low high free claim back =
    let lt : w - 1 < length ss = omega arith in
    back ∙ (ap (λ l. unclaiming l (w - 1)) claim ∙ given_back ss (w - 1) a lt free)

-- after a look that changed nothing else
pub looked : (mine : Instance) (k k' : JournalContents) (seat seat' : HolderView) (cell : ℕ) → k' ≡ k → seat'.served ≡ seat.served → seat'.looks ≡ seat.looks ++ cell ∷ [] → holder_state mine k' seat' ≡ with_look (holder_state mine k seat) cell
looked mine k k' seat seat' cell kept seats looks = λ i. holder_state mine (kept i) (record { served = seats i; looks = looks i })
