-- What the seats of one board have in common.
use Rattle.std.specs.Prelude.{◌≡◌, ℕ, ◌<◌, List, [], length, slice_index_or, Option, Some}
use Rattle.atomic_table.specs.Seated.{TableId}
use Rattle.atomic_table.specs.declared.shared.Seat.{Seat}
use Rattle.proposals.specs.declared.seat_state.WorkerLedger.{WorkerLedger}
use Rattle.proposals.specs.declared.seat_state.HolderLedger.{HolderLedger}
use Rattle.proposals.specs.declared.seat_state.SeatState.{SeatState}
use Rattle.proposals.specs.Ledger.{worker_ledger_or, holder_ledger_or, claimed_from, OpenIs}

abbrev pub worker_ledger_in : Seat (Unit {0}) SeatState → WorkerLedger
worker_ledger_in s = worker_ledger_or s.me.0.worker

abbrev pub holder_ledger_in : Seat (Unit {0}) SeatState → HolderLedger
holder_ledger_in s = holder_ledger_or s.me.0.holder

pub record IsWorker (z : TableId) (cell : ℕ) (open_ask : Option ℕ) (s : Seat (Unit {0}) SeatState) : Type 0 where
  pub table : s.table_id ≡ z
  pub empty : s.me.1 ≡ []
  pub is : s.me.0.worker ≡ Some (worker_ledger_in s)
  pub at : (worker_ledger_in s).cell ≡ cell
  pub inside : cell < z.words
  pub ask : OpenIs open_ask (worker_ledger_in s)

pub record IsHolder (z : TableId) (s : Seat (Unit {0}) SeatState) : Type 0 where
  pub table : s.table_id ≡ z
  pub empty : s.me.1 ≡ []
  pub is : s.me.0.holder ≡ Some (holder_ledger_in s)
  pub wide : length (holder_ledger_in s).served ≡ z.words

-- the holder's seat beside a list of arcs, in which each arc that is claimed stands at its worker's cell
pub record IsHolding (z : TableId) (claimed : List ℕ) (s : Seat (Unit {0}) SeatState) : Type 0 where
  pub seat : IsHolder z s
  pub each_worker : length claimed ≡ z.words
  pub kept : (i a : ℕ) → claimed_from (holder_ledger_in s).served i ≡ Some a → slice_index_or claimed i 0 ≡ a
