-- What is gathered and what is left are together what there was.
use Rattle.std.proofs.Common.{◌+◌, ◌≡◌, ℕ, [], length}
use Rattle.proposals.specs.Drawn.{times, all_drawn}
use Rattle.proposals.proofs.draws.Draws.close.Given as goal

abbrev pub invariant-loop-seat : goal.invariant-loop-seat
invariant-loop-seat g l = record {
  table : l.all.table_id ≡ l.counter.shared.table_id;
  empty : l.all.me.1 ≡ [];
  counts : l.all.me.0.seats + length l.seats.items ≡ length l.initial.seats.items;
  tells : (x : ℕ) → times x l.all.me.0.drawn + times x (all_drawn l.seats.items) ≡ times x (all_drawn l.initial.seats.items);
}

abbrev pub decreases-loop-seat : goal.decreases-loop-seat
decreases-loop-seat g l = length l.seats.items
