-- What a worker knows grows by its steps, and what was shown to it stays shown.
use Rattle.std.proofs.Common.{◌≡◌, ℕ, zero, suc, true, false, Bool, List, [], ◌∷◌, ◌++◌, get_or, refl, sym, ap, ◌∙◌, subst, arith, inl, inr, append_assoc, append-nil, length-append, true≢false}
use Rattle.std.specs.Prelude.{Option, Some, None, IsTrue, IfSome, MatchBool, MatchOption}
use Rattle.std.specs.List.{All}
use Rattle.std.proofs.lemmas.List.{get_or_append_left}
use Rattle.std.proofs.lemmas.List.Elements.{All-append, All-cons, All-nil}
use mathlib.Core.List.{IsPrefix, Sublist, nil-sublist}
use mathlib.Core.List.Sublist as sublists
use Rattle.pit_model.specs.Mine.{Instance}
use Rattle.pit_model.specs.Version.{applied_arcs}
use Rattle.pit_model.specs.declared.journal.Entry.{Entry}
use Rattle.proposals.specs.declared.verdict.Reply.{Reply}
use Rattle.proposals.specs.declared.seat_state.WorkerLedger.{WorkerLedger}
use Rattle.proposals.specs.Ledger.{HasNoOpenAsk, IsOpen, arcs_in, asking, collecting, withdrawn, worker_ledger, worker_ledgers}
use Rattle.proposals.specs.declared.draw_ledger.DrawLedger.{DrawLedger}
use Rattle.proposals.specs.Drawn.{GetsNone, drawing}
use Rattle.tree_lock.specs.Served.{MeetsJournal}
use Rattle.crew.specs.Working.{AsksFor, AsksWhatItSaw, CollectsVerdict, EndsAsk, HasSeen, IsSynchronised, LooksFor, Proposes, Remembers, Seated, TakesBack, WasShown, WorksOn, arcs_of_chunks, collected, goes_on_after, seated, seen, unanswered, unseen}

-- what holds of each element holds of those at the front
pub all_front : {X : Type 0} (P : X → Type 0) (xs ys : List X) → All P (xs ++ ys) → All P xs
all_front P xs ys all k d low = subst P (get_or_append_left xs ys d k low) (all k d (omega (arith, length-append xs ys)))

through : {X : Type 0} (xs ys zs : List X) → IsPrefix xs ys → IsPrefix ys zs → IsPrefix xs zs
through xs ys zs p q = (p.0 ++ q.0, sym (append_assoc xs p.0 q.0) ∙ (ap (λ w. w ++ q.0) p.1 ∙ q.1))

known : {list old : List ℕ} → Some old ≡ Some list → old ≡ list
known e = cc e

-- shown once, shown to whoever knows more
shown_later : (mine : Instance) (before after : Option (List ℕ)) (arc : ℕ) → Remembers before after → WasShown mine before arc → WasShown mine after arc
shown_later mine None after arc kept w = absurd (cc w.2)
shown_later mine (Some old) after arc kept w =
    (kept.0, w.1, kept.1, through w.1 old kept.0 (subst (IsPrefix w.1) (sym (known w.2)) w.3) kept.2, w.4)

pub still_shown : (mine : Instance) (before after : Option (List ℕ)) (asked : List ℕ) → Remembers before after → All (WasShown mine before) asked → All (WasShown mine after) asked
still_shown mine before after asked kept all k d low = shown_later mine before after (get_or asked k d) kept (all k d low)

-- a look forgets nothing
pub look_remembers : (mine : Instance) (arc : ℕ) (before after : Option (List ℕ)) (answer : Bool) → LooksFor mine arc before after answer → Remembers before after
look_remembers mine arc before after answer (seen old new was is begins same) = subst (λ o. Remembers o after) (sym was) (new, is, begins)
look_remembers mine arc None after answer (unseen same off) = tt
look_remembers mine arc (Some old) after answer (unseen same off) = (old, same, ([], append-nil old))

-- what was seen last was shown
pub seen_is_shown : (mine : Instance) (arc : ℕ) (looks : Option (List ℕ)) → HasSeen mine arc looks → WasShown mine looks arc
seen_is_shown mine arc looks s = (s.0, s.0, s.1, ([], append-nil s.0), s.2)

-- what was asked stays shown, by an ask for what was seen, a reply, an ask taken back, and mergers that are told
pub asked_as_seen : (mine : Instance) (arc : ℕ) (old new : WorkerLedger) (looks : Option (List ℕ)) (asked : Bool)
    → MatchBool asked (HasNoOpenAsk old × (new ≡ asking old arc)) ((HasNoOpenAsk old → ⊥) × (new ≡ old))
    → HasSeen mine arc looks → AsksWhatItSaw mine (seated old looks) → AsksWhatItSaw mine (seated new looks)
asked_as_seen mine arc old new looks true step saw all =
    let P = WasShown mine looks in
    subst (λ (d : WorkerLedger). AsksWhatItSaw mine (seated d looks)) (sym step.1)
    (All-append P old.asked (arc ∷ []) all (All-cons P arc [] (seen_is_shown mine arc looks saw) (All-nil P)))
asked_as_seen mine arc old new looks false step saw all = subst (λ (d : WorkerLedger). AsksWhatItSaw mine (seated d looks)) (sym step.1) all

pub collected_as_seen : (mine : Instance) (old new : WorkerLedger) (looks : Option (List ℕ)) (r : Option Reply)
    → MatchOption r (new ≡ old) (λ reply. IsOpen old reply.arc × (new ≡ collecting old reply))
    → AsksWhatItSaw mine (seated old looks) → AsksWhatItSaw mine (seated new looks)
collected_as_seen mine old new looks None same all = subst (λ (d : WorkerLedger). AsksWhatItSaw mine (seated d looks)) (sym same) all
collected_as_seen mine old new looks (Some reply) step all = subst (λ (d : WorkerLedger). AsksWhatItSaw mine (seated d looks)) (sym step.1) all

pub withdrawn_as_seen : (mine : Instance) (old new : WorkerLedger) (looks : Option (List ℕ)) (withdrew : Bool)
    → MatchBool withdrew ((a : ℕ) × IsOpen old a × (new ≡ withdrawn old)) (new ≡ old)
    → AsksWhatItSaw mine (seated old looks) → AsksWhatItSaw mine (seated new looks)
withdrawn_as_seen mine old new looks true step all =
    subst (λ (d : WorkerLedger). AsksWhatItSaw mine (seated d looks)) (sym step.2)
    (all_front (WasShown mine looks) (arcs_in old.collected) (step.0 ∷ []) (subst (All (WasShown mine looks)) step.1 all))
withdrawn_as_seen mine old new looks false same all = subst (λ (d : WorkerLedger). AsksWhatItSaw mine (seated d looks)) (sym same) all

pub told_as_seen : (mine : Instance) (asks : WorkerLedger) (looks : Option (List ℕ)) (seat told : List ℕ) → looks ≡ Some seat → IsPrefix seat told
    → AsksWhatItSaw mine (seated asks looks) → AsksWhatItSaw mine (seated asks (Some told))
told_as_seen mine asks looks seat told is begins all =
    still_shown mine looks (Some told) asks.asked (subst (λ o. Remembers o (Some told)) (sym is) (told, refl, begins)) all

-- a worker's seat at the board that met the holder's, and a seat to look from that is told
pub synchronised : (mine : Instance) (journal : List Entry) (asks worker : WorkerLedger) (looks : Option (List ℕ)) → worker ≡ asks → MeetsJournal asks journal
    → IfSome looks (λ list. list ≡ applied_arcs journal) → AsksWhatItSaw mine (seated asks looks) → IsSynchronised mine journal (seated worker looks)
synchronised mine journal asks worker looks same meets told all =
    subst (λ (d : WorkerLedger). IsSynchronised mine journal (seated d looks)) (sym same) (record { met = meets; told = told; shown = all })

pub takes_back : (old mid new : WorkerLedger) (looks : Option (List ℕ)) (withdrew : Bool) (r : Option Reply) → withdrew ≡ false
    → MatchBool withdrew ((a : ℕ) × IsOpen old a × (mid ≡ withdrawn old)) (mid ≡ old)
    → MatchOption r (new ≡ mid) (λ reply. IsOpen mid reply.arc × (new ≡ collecting mid reply)) → TakesBack (seated old looks) (seated new looks)
takes_back old mid new looks true r off step kept = absurd (true≢false off)
takes_back old mid new looks false None off same kept = inr (inr (ap (λ (d : WorkerLedger). seated d looks) (kept ∙ same)))
takes_back old mid new looks false (Some reply) off same step =
    inr (inl (reply, (subst (λ (d : WorkerLedger). IsOpen d reply.arc) same step.0, ap (λ (d : WorkerLedger). seated d looks) (step.1 ∙ ap (λ (d : WorkerLedger). collecting d reply) same))))

-- a verdict ends an ask, whether or not the worker goes on as far as the verdict lets it
pub ends_by : (old new : Seated) (goes_on : Bool) → CollectsVerdict old new goes_on → EndsAsk old new goes_on
ends_by old new goes_on c = collected c.0 c.1 (λ yes. subst IsTrue c.2 yes)

pub ends_at : (old new : Seated) (goes_on : Bool) → CollectsVerdict old new goes_on → EndsAsk old new false
ends_at old new goes_on c = collected c.0 c.1 (λ yes. absurd (true≢false (sym yes)))

-- new seats have asked for nothing
pub none_asked : (n : ℕ) → All (λ (d : WorkerLedger). d.asked ≡ []) (worker_ledgers n)
none_asked zero = All-nil (λ (d : WorkerLedger). d.asked ≡ [])
none_asked (suc n) =
    let P = λ (d : WorkerLedger). d.asked ≡ [] in
    All-append P (worker_ledgers n) (worker_ledger n [] [] ∷ []) (none_asked n) (All-cons P (worker_ledger n [] []) [] refl (All-nil P))

remembers_all : (looks : Option (List ℕ)) → Remembers looks looks
remembers_all None = tt
remembers_all (Some list) = (list, refl, ([], append-nil list))

remembers_more : (a b c : Option (List ℕ)) → Remembers a b → Remembers b c → Remembers a c
remembers_more None b c p q = tt
remembers_more (Some old) b c p q =
    let r = subst (λ o. Remembers o c) p.1 q in
    (r.0, r.1, through old p.0 r.0 p.2 r.2)

-- nothing done yet
pub idle : (at : Seated) → WorksOn [] at at true
idle at = record {
  cell = refl;
  more = [];
  asked = sym (append-nil at.asks.asked);
  among = nil-sublist [];
  replies = [];
  collected = sym (append-nil at.asks.collected);
  allowed = λ _. All-nil (λ (reply : Reply). IsTrue (goes_on_after reply.verdict));
  looks = remembers_all at.looks;
}

-- one stretch of work behind another
pub works_then : (xs ys : List ℕ) (a b c : Seated) (goes_on : Bool) → WorksOn xs a b true → WorksOn ys b c goes_on → WorksOn (xs ++ ys) a c goes_on
works_then xs ys a b c goes_on p q = record {
  cell = q.cell ∙ p.cell;
  more = p.more ++ q.more;
  asked = q.asked ∙ ap (λ l. l ++ q.more) p.asked ∙ append_assoc a.asks.asked p.more q.more;
  among = sublists.append p.among q.among;
  replies = p.replies ++ q.replies;
  collected = q.collected ∙ ap (λ l. l ++ q.replies) p.collected ∙ append_assoc a.asks.collected p.replies q.replies;
  allowed = λ yes. All-append (λ (reply : Reply). IsTrue (goes_on_after reply.verdict)) p.replies q.replies (p.allowed refl) (q.allowed yes);
  looks = remembers_more a.looks b.looks c.looks p.looks q.looks;
}

-- arcs that the worker passes over
pub passes : (xs ys : List ℕ) (a b : Seated) (goes_on : Bool) → WorksOn xs a b goes_on → WorksOn (xs ++ ys) a b goes_on
passes xs ys a b goes_on p = record {
  cell = p.cell;
  more = p.more;
  asked = p.asked;
  among = subst (λ l. Sublist l (xs ++ ys)) (append-nil p.more) (sublists.append p.among (nil-sublist ys));
  replies = p.replies;
  collected = p.collected;
  allowed = p.allowed;
  looks = p.looks;
}

-- a look more
pub looks_once : (xs : List ℕ) (a b c : Seated) (goes_on : Bool) → WorksOn xs a b goes_on → c.asks ≡ b.asks → Remembers b.looks c.looks → WorksOn xs a c goes_on
looks_once xs a b c goes_on p same kept = record {
  cell = ap (λ d. d.cell) same ∙ p.cell;
  more = p.more;
  asked = ap (λ d. d.asked) same ∙ p.asked;
  among = p.among;
  replies = p.replies;
  collected = ap (λ d. d.collected) same ∙ p.collected;
  allowed = p.allowed;
  looks = remembers_more a.looks b.looks c.looks p.looks kept;
}

asks_works : (arc : ℕ) (a b : Seated) → AsksFor arc a b → WorksOn (arc ∷ []) a b true
asks_works arc a b (inl step) = subst (λ s. WorksOn (arc ∷ []) a s true) (sym step.1) (record {
  cell = refl;
  more = arc ∷ [];
  asked = refl;
  among = sublists.refl (arc ∷ []);
  replies = [];
  collected = sym (append-nil a.asks.collected);
  allowed = λ _. All-nil (λ (reply : Reply). IsTrue (goes_on_after reply.verdict));
  looks = remembers_all a.looks;
})
asks_works arc a b (inr step) = subst (λ s. WorksOn (arc ∷ []) a s true) (sym step.1) (passes [] (arc ∷ []) a a true (idle a))

ends_works : (a b : Seated) (goes_on : Bool) → EndsAsk a b goes_on → WorksOn [] a b goes_on
ends_works a b goes_on (collected reply step allows) = subst (λ s. WorksOn [] a s goes_on) (sym step.1) (record {
  cell = refl;
  more = [];
  asked = sym (append-nil a.asks.asked);
  among = nil-sublist [];
  replies = reply ∷ [];
  collected = refl;
  allowed = λ yes. All-cons (λ (r : Reply). IsTrue (goes_on_after r.verdict)) reply [] (allows yes) (All-nil (λ (r : Reply). IsTrue (goes_on_after r.verdict)));
  looks = remembers_all a.looks;
})
ends_works a b goes_on (unanswered same stops) = subst (λ s. WorksOn [] a s goes_on) (sym same) (record {
  cell = refl;
  more = [];
  asked = sym (append-nil a.asks.asked);
  among = nil-sublist [];
  replies = [];
  collected = sym (append-nil a.asks.collected);
  allowed = λ _. All-nil (λ (r : Reply). IsTrue (goes_on_after r.verdict));
  looks = remembers_all a.looks;
})

-- an arc that the worker asks for
pub proposes_works : (arc : ℕ) (a b : Seated) (goes_on : Bool) → Proposes arc a b goes_on → WorksOn (arc ∷ []) a b goes_on
proposes_works arc a b goes_on p =
    subst (λ l. WorksOn l a b goes_on) (append-nil (arc ∷ []))
    (works_then (arc ∷ []) [] a p.0 b goes_on (asks_works arc a p.0 p.1) (ends_works p.0 b goes_on p.2))

-- the arcs of one chunk more
pub chunk_more : (chunks : List (List ℕ)) (numbers : List ℕ) (number : ℕ) → arcs_of_chunks chunks (numbers ++ number ∷ []) ≡ arcs_of_chunks chunks numbers ++ get_or chunks number []
chunk_more chunks [] number = append-nil (get_or chunks number [])
chunk_more chunks (n ∷ numbers) number =
    ap (λ l. get_or chunks n [] ++ l) (chunk_more chunks numbers number)
    ∙ sym (append_assoc (get_or chunks n []) (arcs_of_chunks chunks numbers) (get_or chunks number []))

pub asks_for : (arc : ℕ) (old new : Seated) (asked : Bool)
    → MatchBool asked (HasNoOpenAsk old.asks × (new ≡ seated (asking old.asks arc) old.looks)) ((HasNoOpenAsk old.asks → ⊥) × (new ≡ old)) → AsksFor arc old new
asks_for arc old new true step = inl step
asks_for arc old new false step = inr step

-- what a worker did with the chunks that it drew from one moment on
abbrev pub Sweeps : List (List ℕ) → List ℕ → DrawLedger → Seated → Seated → Bool → Type 0
Sweeps chunks first draws old new goes_on = (drawn : List ℕ) × (draws.drawn ≡ first ++ drawn) × WorksOn (arcs_of_chunks chunks drawn) old new goes_on

-- a number that is drawn last, of whose chunk the worker goes over these arcs, or over none
pub draws_more : (chunks : List (List ℕ)) (first : List ℕ) (v w : DrawLedger) (number : ℕ) (a b c : Seated) (goes_on : Bool)
    → w ≡ drawing v number → Sweeps chunks first v a b true → WorksOn (get_or chunks number []) b c goes_on → Sweeps chunks first w a c goes_on
draws_more chunks first v w number a b c goes_on step so works = (
  so.0 ++ number ∷ [],
  ap (λ (d : DrawLedger). d.drawn) step ∙ ap (λ l. l ++ number ∷ []) so.1 ∙ append_assoc first so.0 (number ∷ []),
  subst (λ l. WorksOn l a c goes_on) (sym (chunk_more chunks so.0 number)) (works_then (arcs_of_chunks chunks so.0) (get_or chunks number []) a b c goes_on so.2 works),
)

pub draws_none : (chunks : List (List ℕ)) (first : List ℕ) (v w : DrawLedger) (a b : Seated) → GetsNone v w → Sweeps chunks first v a b true → Sweeps chunks first w a b true
draws_none chunks first v w a b (inl done) so = (so.0, ap (λ (d : DrawLedger). d.drawn) done.1 ∙ so.1, so.2)
draws_none chunks first v w a b (inr last) so = draws_more chunks first v w last.0 a b b true last.2 so (passes [] (get_or chunks last.0 []) b b true (idle b))

pub works_same : (xs ys : List ℕ) (a x y : Seated) (g h : Bool) → xs ≡ ys → x ≡ y → g ≡ h → WorksOn ys a y h → WorksOn xs a x g
works_same xs ys a x y g h same_arcs same_seats same_end works =
    subst (λ l. WorksOn l a x g) (sym same_arcs) (subst (λ (s : Seated). WorksOn ys a s g) (sym same_seats) (subst (WorksOn ys a y) (sym same_end) works))
