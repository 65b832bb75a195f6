-- The ledger of each worker: what it asked (Q), what was answered to it (R), what it collected (K), and what is claimed from it (C).
use Rattle.std.specs.Prelude.{◌≡◌, ◌≢◌, ◌⊎◌, ℕ, zero, suc, ◌+◌, ◌<◌, ◌≤◌, List, [], ◌∷◌, ◌++◌, map, length, replicate, slice_index_or as get_or, slice_set as set, Option, Some, None}
use mathlib.Core.Option.{some}
use lib.ListN.{get_elem?}
use Rattle.atomic_table.specs.Table.{State, Me, Step}
use Rattle.pit_model.specs.declared.journal.Verdict.{Verdict}
use Rattle.pit_model.specs.declared.journal.Verdict.TheVariants.{Applied, Stale, Spent}
use Rattle.proposals.specs.declared.verdict.Reply.{Reply}
use Rattle.proposals.specs.declared.seat_state.WorkerLedger.{WorkerLedger}
use Rattle.proposals.specs.declared.seat_state.Served.{Served}
use Rattle.proposals.specs.declared.seat_state.HolderLedger.{HolderLedger}
use Rattle.proposals.specs.declared.seat_state.SeatState.{SeatState}

abbrev pub code : Verdict → ℕ
code Applied = 1
code Stale = 2
code Spent = 3

abbrev pub reply : ℕ → Verdict → Reply
reply a v = record { arc = a; verdict = v }

abbrev pub arcs_in : List Reply → List ℕ
arcs_in = map (λ (r : Reply). r.arc)

-- where a worker stands, beside the replies that were done with before
pub data Phase : Type 0 where
  idle : Phase
  asks : ℕ → Phase
  claims : ℕ → Phase
  gave : Reply → Phase
  took : Reply → Phase

pub record CellState : Type 0 where
  pub done : List Reply
  pub phase : Phase

abbrev pub cell_state : List Reply → Phase → CellState
cell_state d p = record { done = d; phase = p }

abbrev pub word_at : Phase → ℕ
word_at idle = 0
word_at (asks a) = 4294967296 + a
word_at (claims a) = 8589934592 + a
word_at (gave r) = code r.verdict
word_at (took r) = code r.verdict

abbrev pub asked_at : List Reply → Phase → List ℕ
asked_at d idle = arcs_in d
asked_at d (asks a) = arcs_in d ++ a ∷ []
asked_at d (claims a) = arcs_in d ++ a ∷ []
asked_at d (gave r) = arcs_in (d ++ r ∷ [])
asked_at d (took r) = arcs_in (d ++ r ∷ [])

abbrev pub answered_at : List Reply → Phase → List Reply
answered_at d idle = d
answered_at d (asks a) = d
answered_at d (claims a) = d
answered_at d (gave r) = d ++ r ∷ []
answered_at d (took r) = d ++ r ∷ []

abbrev pub collected_at : List Reply → Phase → List Reply
collected_at d idle = d
collected_at d (asks a) = d
collected_at d (claims a) = d
collected_at d (gave r) = d
collected_at d (took r) = d ++ r ∷ []

abbrev pub claimed_at : Phase → Option ℕ
claimed_at idle = None
claimed_at (asks a) = None
claimed_at (claims a) = Some a
claimed_at (gave r) = None
claimed_at (took r) = None

abbrev pub SmallAt : Phase → Type 0
SmallAt idle = Unit {0}
SmallAt (asks a) = a < 4294967296
SmallAt (claims a) = a < 4294967296
SmallAt (gave r) = Unit {0}
SmallAt (took r) = Unit {0}

abbrev pub cell_word : CellState → ℕ
cell_word r = word_at r.phase

abbrev pub asked : CellState → List ℕ
asked r = asked_at r.done r.phase

abbrev pub collected : CellState → List Reply
collected r = collected_at r.done r.phase

abbrev pub served_of : CellState → Served
served_of r = record { answered = answered_at r.done r.phase; claimed = claimed_at r.phase }

abbrev pub fresh : CellState
fresh = cell_state [] idle

-- what the rule says of a worker's knowledge
pub record WorkerFits (rows : List CellState) (owner : ℕ → ℕ) (most seat : ℕ) (d : WorkerLedger) : Type 0 where
  pub own : owner d.cell ≡ seat
  pub within : d.cell < most
  pub at : CellState
  pub is : get_elem? rows d.cell ≡ some at
  pub asks : d.asked ≡ asked at
  pub takes : d.collected ≡ collected at

-- and of the holder's
pub record HolderFits (rows : List CellState) (holder dealt seat : ℕ) (r : HolderLedger) : Type 0 where
  pub own : holder ≡ seat
  pub count : r.dealt ≡ dealt
  pub serves : r.served ≡ map served_of rows

-- The rule. There is one row for each worker, which gives its word and what its seat and the holder's seat know
pub record Boarded (n : ℕ) (s : State (Unit {0}) SeatState) : Type 0 where
  pub rows : List CellState
  pub owner : ℕ → ℕ
  pub holder : ℕ
  pub dealt : ℕ
  pub words : s.words ≡ map cell_word rows
  pub wide : length rows ≡ n
  pub small : (i : ℕ) (r : CellState) → get_elem? rows i ≡ some r → SmallAt r.phase
  pub new : (i : ℕ) (r : CellState) → dealt ≤ i → get_elem? rows i ≡ some r → r ≡ fresh
  pub workers : (j : ℕ) (v : SeatState) (d : WorkerLedger) → get_elem? s.views j ≡ some v → v.worker ≡ Some d → WorkerFits rows owner dealt j d
  pub holders : (j : ℕ) (v : SeatState) (r : HolderLedger) → get_elem? s.views j ≡ some v → v.holder ≡ Some r → HolderFits rows holder dealt j r

abbrev pub nothing_served : Served
nothing_served = record { answered = []; claimed = None }

abbrev pub seat_state : Option WorkerLedger → Option HolderLedger → SeatState
seat_state w h = record { worker = w; holder = h }

abbrev pub worker_ledger : ℕ → List ℕ → List Reply → WorkerLedger
worker_ledger i q k = record { cell = i; asked = q; collected = k }

abbrev pub holder_ledger : ℕ → List Served → List ℕ → HolderLedger
holder_ledger n ss ls = record { dealt = n; served = ss; looks = ls }

abbrev pub opener : ℕ → SeatState
opener n = seat_state None (Some (holder_ledger 0 (replicate n nothing_served) []))

abbrev pub empty_seat : SeatState
empty_seat = seat_state None None

-- no ask is open
abbrev pub HasNoOpenAsk : WorkerLedger → Type 0
HasNoOpenAsk d = d.asked ≡ arcs_in d.collected

-- the ask for this arc is open
abbrev pub IsOpen : WorkerLedger → ℕ → Type 0
IsOpen d a = d.asked ≡ arcs_in d.collected ++ a ∷ []

abbrev pub asking : WorkerLedger → ℕ → WorkerLedger
asking d a = worker_ledger d.cell (d.asked ++ a ∷ []) d.collected

abbrev pub withdrawn : WorkerLedger → WorkerLedger
withdrawn d = worker_ledger d.cell (arcs_in d.collected) d.collected

abbrev pub collecting : WorkerLedger → Reply → WorkerLedger
collecting d r = worker_ledger d.cell d.asked (d.collected ++ r ∷ [])

abbrev Sat : Type 0
Sat = Me (Unit {0}) SeatState

abbrev At : Type 0
At = Step (Unit {0})

-- What each kind of step tells.
abbrev pub Asked : At → Sat → ℕ → Sat → Type 0
Asked st m n m' = (d : WorkerLedger) (a : ℕ) → m.0.worker ≡ Some d → n ≡ 4294967296 + a → m' ≡ (seat_state (Some (asking d a)) m.0.holder, m.1)

abbrev pub Withdrew : At → Sat → ℕ → Sat → Type 0
Withdrew st m n m' = (d : WorkerLedger) → m.0.worker ≡ Some d → (n ≡ st.first → m' ≡ (seat_state (Some (withdrawn d)) m.0.holder, m.1)) × (n ≢ st.first → m' ≡ m)

abbrev pub Collected : At → Sat → ℕ → Sat → Type 0
Collected st m n m' = (d : WorkerLedger) (a : ℕ) → m.0.worker ≡ Some d → IsOpen d a
    → (n < 4 → (v : Verdict) × (n ≡ code v) × (m' ≡ (seat_state (Some (collecting d (reply a v))) m.0.holder, m.1))) × (4 ≤ n → m' ≡ m)

-- The holder's side.
abbrev pub served : List Reply → Option ℕ → Served
served rs c = record { answered = rs; claimed = c }

-- R and C of a worker
abbrev pub answered_to : List Served → ℕ → List Reply
answered_to ss i = (get_or ss i nothing_served).answered

abbrev pub claimed_from : List Served → ℕ → Option ℕ
claimed_from ss i = (get_or ss i nothing_served).claimed

-- the arc a is claimed from a worker that had none claimed
abbrev pub claiming : List Served → ℕ → ℕ → List Served
claiming ss i a = set ss i (served (answered_to ss i) (Some a))

abbrev pub answering : List Served → ℕ → Reply → List Served
answering ss i r = set ss i (served (answered_to ss i ++ r ∷ []) None)

abbrev pub unclaiming : List Served → ℕ → List Served
unclaiming ss i = set ss i (served (answered_to ss i) None)

-- the holder's ledger where what it did is this
abbrev pub serving : HolderLedger → List Served → HolderLedger
serving q ss = holder_ledger q.dealt ss q.looks

-- and where it has looked for an ask in one cell more
abbrev pub looking : HolderLedger → ℕ → HolderLedger
looking q i = holder_ledger q.dealt q.served (q.looks ++ i ∷ [])

abbrev pub Looked : At → Sat → ℕ → Sat → Type 0
Looked st m n m' = (q : HolderLedger) → m.0.holder ≡ Some q → m' ≡ (seat_state m.0.worker (Some (looking q st.word)), m.1)

abbrev pub Claimed : At → Sat → ℕ → Sat → Type 0
Claimed st m n m' = (q : HolderLedger) (a : ℕ) → m.0.holder ≡ Some q → st.first ≡ 4294967296 + a
    → (n ≡ st.first → (claimed_from q.served st.word ≡ None) × (m' ≡ (seat_state m.0.worker (Some (serving q (claiming q.served st.word a))), m.1))) × (n ≢ st.first → m' ≡ m)

abbrev pub Answered : At → Sat → ℕ → Sat → Type 0
Answered st m n m' = (q : HolderLedger) (a : ℕ) (v : Verdict) → m.0.holder ≡ Some q → claimed_from q.served st.word ≡ Some a → n ≡ code v → m' ≡ (seat_state m.0.worker (Some (serving q (answering q.served st.word (reply a v)))), m.1)

abbrev pub Unclaimed : At → Sat → ℕ → Sat → Type 0
Unclaimed st m n m' = (q : HolderLedger) → m.0.holder ≡ Some q → m' ≡ (seat_state m.0.worker (Some (serving q (unclaiming q.served st.word))), m.1)

-- Meeting: what the ledger says of a worker's seat and the holder's seat together
abbrev pub Meets : WorkerLedger → Served → Type 0
Meets d x =
    ((d.asked ≡ arcs_in x.answered) × ((d.collected ≡ x.answered) ⊎ ((r : Reply) × (x.answered ≡ d.collected ++ r ∷ []))))
    ⊎ ((a : ℕ) × (d.asked ≡ arcs_in x.answered ++ a ∷ []) × (d.collected ≡ x.answered))

abbrev pub Agreed : At → Sat → ℕ → Sat → Type 0
Agreed st m n m' = (m' ≡ m) × ((d : WorkerLedger) (q : HolderLedger) → m.0.worker ≡ Some d → m.0.holder ≡ Some q → Meets d (get_or q.served d.cell nothing_served))

abbrev pub sat : At → Sat → ℕ → Sat → Type 0
sat st m n m' = m'.0 ≡ empty_seat

-- The holder's seat gives the next worker a seat.
abbrev pub one_more : Option HolderLedger → Option HolderLedger
one_more None = None
one_more (Some q) = Some (holder_ledger (q.dealt + 1) q.served q.looks)

abbrev pub newcomer : Option HolderLedger → Option WorkerLedger
newcomer None = None
newcomer (Some q) = Some (worker_ledger q.dealt [] [])

abbrev pub dealing : SeatState → SeatState
dealing v = seat_state v.worker (one_more v.holder)

abbrev pub dealt_to : SeatState → SeatState
dealt_to v = seat_state (newcomer v.holder) None

-- the two seats as one
abbrev pub meeting : SeatState → SeatState → SeatState
meeting v w = seat_state v.worker w.holder

abbrev pub worker_part : SeatState → SeatState
worker_part v = seat_state v.worker None

abbrev pub holder_part : SeatState → SeatState
holder_part v = seat_state None v.holder

-- What a seat is seen as.
abbrev pub worker_ledger_or : Option WorkerLedger → WorkerLedger
worker_ledger_or None = worker_ledger 0 [] []
worker_ledger_or (Some d) = d

abbrev pub holder_ledger_or : Option HolderLedger → HolderLedger
holder_ledger_or None = holder_ledger 0 [] []
holder_ledger_or (Some q) = q

-- the holder's seat, to a contract: for each worker what was answered to it and what is claimed from it, and the cells in which the
-- holder looked for an ask, in order
pub record HolderView : Type 0 where
  pub served : List Served
  pub looks : List ℕ

abbrev pub holder_view : HolderLedger → HolderView
holder_view q = record { served = q.served; looks = q.looks }

-- what a worker's seat remembers of its open ask
abbrev pub OpenIs : Option ℕ → WorkerLedger → Type 0
OpenIs None d = HasNoOpenAsk d
OpenIs (Some a) d = IsOpen d a × (a < 4294967296)

-- the seats of so many workers, in order
abbrev pub worker_ledgers : ℕ → List WorkerLedger
worker_ledgers zero = []
worker_ledgers (suc n) = worker_ledgers n ++ worker_ledger n [] [] ∷ []
