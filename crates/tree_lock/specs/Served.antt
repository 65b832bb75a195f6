-- How the journal stands to the board: what stands under a worker's seat is what was answered to it.
use Rattle.std.specs.Prelude.{◌≡◌, ℕ, ◌+◌, ◌-◌, ◌<◌, ◌≤◌, ◌==◌, Bool, true, false, if◌then◌else◌, List, [], ◌∷◌, ◌++◌, length, None}
use Rattle.std.specs.List.{All, range_with_len}
use Rattle.proposals.specs.declared.verdict.Reply.{Reply}
use Rattle.proposals.specs.declared.seat_state.WorkerLedger.{WorkerLedger}
use Rattle.proposals.specs.declared.seat_state.Served.{Served}
use Rattle.proposals.specs.Ledger.{reply, served, answered_to, claimed_from, Meets}
use Rattle.pit_model.specs.declared.journal.Entry.{Entry}
use Rattle.pit_model.specs.Mine.{Instance, arcs}
use Rattle.tree_lock.specs.HolderState.{HolderState, with_look, DecidesFor}

-- the entries under a seat, as replies
abbrev pub replies_under : ℕ → List Entry → List Reply
replies_under seat [] = []
replies_under seat (entry ∷ others) =
    if seat == entry.seat then reply entry.arc entry.verdict ∷ replies_under seat others else replies_under seat others

-- under the seat of a worker, of an arc that may be asked for; or under the driver's, which is 0, of an arc of the mine
abbrev pub IsUnderSeat : Instance → ℕ → ℕ → Entry → Type 0
IsUnderSeat mine workers asked entry = (entry.seat ≤ workers) × (entry.seat ≡ 0 → entry.arc < arcs mine) × (0 < entry.seat → entry.arc < asked)

abbrev pub AreUnderSeats : Instance → ℕ → ℕ → List Entry → Type 0
AreUnderSeats mine workers asked journal = All (IsUnderSeat mine workers asked) journal

-- nothing was answered yet to any of so many workers, and nothing is claimed
pub record IsFresh (workers : ℕ) (seat : List Served) : Type 0 where
  pub wide : length seat ≡ workers
  pub unanswered : (i : ℕ) → answered_to seat i ≡ []
  pub unclaimed : (i : ℕ) → claimed_from seat i ≡ None

-- the entries under each worker's seat are what was answered to it, all others are the driver's, and nothing is claimed
pub record IsServed (mine : Instance) (journal : List Entry) (workers asked : ℕ) (seat : List Served) : Type 0 where
  pub wide : length seat ≡ workers
  pub answers : (i : ℕ) → replies_under (i + 1) journal ≡ answered_to seat i
  pub unclaimed : (i : ℕ) → claimed_from seat i ≡ None
  pub seated : AreUnderSeats mine workers asked journal

-- the word of the worker was looked at, once; then one ask of it was decided, or none
abbrev pub ServesOne : ℕ → HolderState → HolderState → Bool → Type 0
ServesOne worker old new true = (arc : ℕ) × (verdict : _) × DecidesFor worker arc (with_look old (worker - 1)) new verdict
ServesOne worker old new false = new ≡ with_look old (worker - 1)

-- the words of the first so many workers were looked at, in order, each once
abbrev pub LooksAtFirst : ℕ → HolderState → HolderState → Type 0
LooksAtFirst workers old new = new.looks ≡ old.looks ++ range_with_len 0 workers

-- under seats that rise, all above this one
abbrev pub AreRisingSeats : ℕ → List Entry → Type 0
AreRisingSeats seat [] = Unit {0}
AreRisingSeats seat (entry ∷ others) = (seat < entry.seat) × AreRisingSeats entry.seat others

-- a pass over the board: so many more entries, under the seats of workers, rising, each one's at most once
pub record Serves (old new : HolderState) (count : ℕ) : Type 0 where
  pub more : List Entry
  pub journal : new.journal ≡ old.journal ++ more
  pub counted : length more ≡ count
  pub rising : AreRisingSeats 0 more
  pub mine : new.mine ≡ old.mine
  pub budget : new.budget ≡ old.budget

-- what a worker knows, and the entries under its seat, agree: its asks are the arcs of the entries, and at most the last is
-- unanswered; it collected the entries, and at most the last is not collected
abbrev pub MeetsJournal : WorkerLedger → List Entry → Type 0
MeetsJournal worker_ledger journal = Meets worker_ledger (served (replies_under (worker_ledger.cell + 1) journal) None)
