-- The table of the board: how a worker's word says what was asked (q), answered (r), collected (k) and claimed (c).
use Rattle.std.specs.Prelude.{◌≡◌, ◌⊎◌, ℕ, ◌+◌, ◌^◌, ◌<◌, List, [], ◌∷◌, ◌++◌, slice_index_or as get_or, Option, Some, None}
use mathlib.Core.Option.{some}
use lib.ListN.{get_elem?}
use Rattle.atomic_table.specs.Table.{State}
use Rattle.pit_model.specs.declared.journal.Verdict.{Verdict}
use Rattle.pit_model.specs.declared.journal.Verdict.TheVariants.{Applied, Stale, Spent}
use Rattle.proposals.specs.declared.verdict.Reply.{Reply}
use Rattle.proposals.specs.declared.seat_state.WorkerLedger.{WorkerLedger}
use Rattle.proposals.specs.declared.seat_state.HolderLedger.{HolderLedger}
use Rattle.proposals.specs.declared.seat_state.SeatState.{SeatState}
use Rattle.proposals.specs.Ledger.{arcs_in, answered_to, claimed_from}

-- 0: all that was asked is answered, all that was answered is collected
abbrev pub IdleRow : ℕ → List ℕ → List Reply → List Reply → Option ℕ → Type 0
IdleRow word q r k c = (word ≡ 0) × (q ≡ arcs_in r) × (k ≡ r) × (c ≡ None)

-- the word of an answered ask
abbrev pub IsWordOf : Verdict → ℕ → Type 0
IsWordOf Applied word = word ≡ 1
IsWordOf Stale word = word ≡ 2
IsWordOf Spent word = word ≡ 3

-- 1, 2, 3: all that was asked is answered, the last by this verdict, and at most the last is not collected
abbrev pub AnsweredRow : ℕ → List ℕ → List Reply → List Reply → Option ℕ → Type 0
AnsweredRow word q r k c = (v : Verdict) × (d : List Reply) × (last : Reply) × IsWordOf v word × (q ≡ arcs_in r) × (r ≡ d ++ last ∷ []) × (last.verdict ≡ v) × (c ≡ None) × ((k ≡ r) ⊎ (k ≡ d))

-- 2^32 and an arc: it was asked last, and is not answered
abbrev pub AskedRow : ℕ → List ℕ → List Reply → List Reply → Option ℕ → Type 0
AskedRow word q r k c = (a : ℕ) × (a < 2 ^ 32) × (word ≡ 2 ^ 32 + a) × (q ≡ arcs_in r ++ a ∷ []) × (k ≡ r) × (c ≡ None)

-- 2^33 and an arc: the same, and it is claimed
abbrev pub ClaimedRow : ℕ → List ℕ → List Reply → List Reply → Option ℕ → Type 0
ClaimedRow word q r k c = (a : ℕ) × (a < 2 ^ 32) × (word ≡ 2 ^ 33 + a) × (q ≡ arcs_in r ++ a ∷ []) × (k ≡ r) × (c ≡ Some a)

abbrev pub Stands : ℕ → List ℕ → List Reply → List Reply → Option ℕ → Type 0
Stands word q r k c = IdleRow word q r k c ⊎ (AnsweredRow word q r k c ⊎ (AskedRow word q r k c ⊎ ClaimedRow word q r k c))

-- what a worker's seat and the holder's seat know stands to the worker's word as the table says
abbrev pub LedgerStands : State (Unit {0}) SeatState → Type 0
LedgerStands s = (j h : ℕ) (v u : SeatState) (d : WorkerLedger) (b : HolderLedger) → get_elem? s.views j ≡ some v → v.worker ≡ Some d → get_elem? s.views h ≡ some u → u.holder ≡ Some b
    → Stands (get_or s.words d.cell 0) d.asked (answered_to b.served d.cell) d.collected (claimed_from b.served d.cell)
