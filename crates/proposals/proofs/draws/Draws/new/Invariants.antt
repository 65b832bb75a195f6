-- The first seat stands for the seats that are not dealt.
use Rattle.std.proofs.Common.{◌-◌, ◌≡◌, ◌≤◌, []}
use Rattle.proposals.specs.Drawn.{hand, new_seats}
use Rattle.proposals.proofs.draws.Draws.new.Given as goal

abbrev pub invariant-loop-done : goal.invariant-loop-done
invariant-loop-done g l = record { upto : l.done ≤ l.seats; table : l.seat.table_id ≡ l.counter.shared.table_id; me : l.seat.me ≡ (hand l.chunks (l.seats - l.done) [], []); made : l.dealt.items ≡ new_seats l.chunks l.done }

abbrev pub decreases-loop-done : goal.decreases-loop-done
decreases-loop-done g l = l.seats - l.done
