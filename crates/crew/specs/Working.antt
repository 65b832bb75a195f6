-- What a worker of a sweep does: it draws chunks of arcs, asks for those of them that a version shows as merger arcs, serves the board
-- and collects the replies.
use Rattle.std.specs.Prelude.{◌≡◌, ◌⊎◌, ℕ, ◌<◌, ◌≤◌, Bool, true, false, List, [], ◌∷◌, ◌++◌, Option, Some, IsTrue, IfSome, slice_index_or}
use Rattle.std.specs.List.{All}
use mathlib.Core.List.{IsPrefix, Sublist}
use Rattle.pit_model.specs.declared.journal.Entry.{Entry}
use Rattle.pit_model.specs.declared.journal.Verdict.{Verdict}
use Rattle.pit_model.specs.declared.journal.Verdict.TheVariants.{Applied, Stale, Spent}
use Rattle.pit_model.specs.Mine.{Instance}
use Rattle.pit_model.specs.Tree.{is_merger}
use Rattle.pit_model.specs.Version.{applied_arcs, version_tree}
use Rattle.proposals.specs.declared.seat_state.WorkerLedger.{WorkerLedger}
use Rattle.proposals.specs.declared.verdict.Reply.{Reply}
use Rattle.proposals.specs.Ledger.{HasNoOpenAsk, IsOpen, asking, withdrawn, collecting}
use Rattle.tree_lock.specs.HolderState.{HolderState}
use Rattle.tree_lock.specs.Served.{LooksAtFirst, MeetsJournal, Serves}

-- what the two seats of a worker know: what it asked and collected, and the arcs of the versions that it saw. The seat to look from is
-- None only while it is lent
pub record Seated : Type 0 where
  pub asks : WorkerLedger
  pub looks : Option (List ℕ)

abbrev pub seated : WorkerLedger → Option (List ℕ) → Seated
seated asks looks = record { asks = asks; looks = looks }

-- how a worker's look for an arc ends: it saw a version, with all that its seat knew before, and answers whether that shows the arc as
-- a merger arc; or there was none to be had, its seat knows what it knew, and the answer is no
pub data LooksFor (mine : Instance) (arc : ℕ) (before after : Option (List ℕ)) (answer : Bool) : Type 0 where
  seen : (old new : List ℕ) → before ≡ Some old → after ≡ Some new → IsPrefix old new → answer ≡ is_merger mine (version_tree mine new) arc
      → LooksFor mine arc before after answer
  unseen : after ≡ before → answer ≡ false → LooksFor mine arc before after answer

-- the version that a seat saw last shows the arc as a merger arc
abbrev pub HasSeen : Instance → ℕ → Option (List ℕ) → Type 0
HasSeen mine arc looks = (list : List ℕ) × (looks ≡ Some list) × IsTrue (is_merger mine (version_tree mine list) arc)

-- a version up to the one that the seat saw last shows the arc as a merger arc
abbrev pub WasShown : Instance → Option (List ℕ) → ℕ → Type 0
WasShown mine looks arc =
    (list version : List ℕ) × (looks ≡ Some list) × IsPrefix version list × IsTrue (is_merger mine (version_tree mine version) arc)

-- the worker asked for nothing that no version showed it
abbrev pub AsksWhatItSaw : Instance → Seated → Type 0
AsksWhatItSaw mine seats = All (WasShown mine seats.looks) seats.asks.asked

-- a worker's seats have met the holder's: what it asked and collected agrees with the entries under its seat, it is told of all mergers,
-- and each arc that it asked for was a merger arc after some of them
pub record IsSynchronised (mine : Instance) (journal : List Entry) (seats : Seated) : Type 0 where
  pub met : MeetsJournal seats.asks journal
  pub told : IfSome seats.looks (λ list. list ≡ applied_arcs journal)
  pub shown : AsksWhatItSaw mine seats

-- a worker whose ask got this verdict goes on: the budget is not used up
abbrev pub goes_on_after : Verdict → Bool
goes_on_after Applied = true
goes_on_after Stale = true
goes_on_after Spent = false

-- the worker asked for the arc, unless it had an ask open
abbrev pub AsksFor : ℕ → Seated → Seated → Type 0
AsksFor arc old new =
    (HasNoOpenAsk old.asks × (new ≡ seated (asking old.asks arc) old.looks)) ⊎ ((HasNoOpenAsk old.asks → ⊥) × (new ≡ old))

-- the worker collected the reply to its open ask
abbrev pub Collects : Seated → Seated → Reply → Type 0
Collects old new reply = IsOpen old.asks reply.arc × (new ≡ seated (collecting old.asks reply) old.looks)

-- and goes on unless its ask was refused for the budget
abbrev pub CollectsVerdict : Seated → Seated → Bool → Type 0
CollectsVerdict old new goes_on = (reply : Reply) × Collects old new reply × (goes_on ≡ goes_on_after reply.verdict)

-- the worker took back its open ask, or collected the reply to it, or did neither
abbrev pub TakesBack : Seated → Seated → Type 0
TakesBack old new =
    ((arc : ℕ) × IsOpen old.asks arc × (new ≡ seated (withdrawn old.asks) old.looks)) ⊎ (((reply : Reply) × Collects old new reply) ⊎ (new ≡ old))

-- after its ask a worker collected one reply at most; it goes on only with a reply, and not where the budget is used up
pub data EndsAsk (old new : Seated) (goes_on : Bool) : Type 0 where
  collected : (reply : Reply) → Collects old new reply → (IsTrue goes_on → IsTrue (goes_on_after reply.verdict)) → EndsAsk old new goes_on
  unanswered : new ≡ old → goes_on ≡ false → EndsAsk old new goes_on

-- the worker asked for the arc, and its ask ended
abbrev pub Proposes : ℕ → Seated → Seated → Bool → Type 0
Proposes arc old new goes_on = (asked : Seated) × AsksFor arc old asked × EndsAsk asked new goes_on

-- a pass over the board with the lock: it reads the words of the first workers, of all of them where the worker goes on, and answers asks
-- that stand there
pub record ServesBoard (workers : ℕ) (old new : HolderState) (goes_on : Bool) : Type 0 where
  pub last : ℕ
  pub begun : 0 < workers → 0 < last
  pub within : last ≤ workers
  pub whole : IsTrue goes_on → last ≡ workers
  pub looked : LooksAtFirst last old new
  pub count : ℕ
  pub serves : Serves old new count

-- a seat that knew these arcs knows them still
abbrev pub Remembers : Option (List ℕ) → Option (List ℕ) → Type 0
Remembers before after = IfSome before (λ old. (new : List ℕ) × (after ≡ Some new) × IsPrefix old new)

-- from one moment of a sweep to a later one: the worker asked for some of these arcs, in their order, collected replies and looked; it
-- goes on only where no reply says that the budget is used up
pub record WorksOn (arcs : List ℕ) (old new : Seated) (goes_on : Bool) : Type 0 where
  pub cell : new.asks.cell ≡ old.asks.cell
  pub more : List ℕ
  pub asked : new.asks.asked ≡ old.asks.asked ++ more
  pub among : Sublist more arcs
  pub replies : List Reply
  pub collected : new.asks.collected ≡ old.asks.collected ++ replies
  pub allowed : IsTrue goes_on → All (λ (reply : Reply). IsTrue (goes_on_after reply.verdict)) replies
  pub looks : Remembers old.looks new.looks

-- the arcs of the chunks with these numbers; no arc for a number that no chunk has
abbrev pub arcs_of_chunks : List (List ℕ) → List ℕ → List ℕ
arcs_of_chunks chunks [] = []
arcs_of_chunks chunks (number ∷ others) = slice_index_or chunks number [] ++ arcs_of_chunks chunks others
