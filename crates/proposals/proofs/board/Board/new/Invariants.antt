-- So many seats are dealt, and the holder's seat counts them.
use Rattle.std.proofs.Common.{◌-◌, ◌≡◌, ◌≤◌, [], None, Some, replicate}
use Rattle.proposals.specs.Ledger.{seat_state, holder_ledger, nothing_served, worker_ledgers}
use Rattle.proposals.proofs.board.Board.new.Given as goal

abbrev pub invariant-loop-cell : goal.invariant-loop-cell
invariant-loop-cell g l = record { upto : l.cell ≤ l.workers; table : l.seat.table_id ≡ l.cells.shared.table_id; me : l.seat.me ≡ (seat_state None (Some (holder_ledger l.cell (replicate l.workers nothing_served) [])), []); made : l.seats.items ≡ worker_ledgers l.cell }

abbrev pub decreases-loop-cell : goal.decreases-loop-cell
decreases-loop-cell g l = l.workers - l.cell
