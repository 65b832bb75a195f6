-- All blocks before u need higher ones, and u does so far as its row was read.
use Rattle.std.proofs.Common.{ℕ, ◌+◌, ◌<◌, length}
use Rattle.pit_model.specs.Graph.{first_of, second_of}
use Rattle.mine_graph.proofs.no_cycle.need_higher.Given as goal

abbrev pub invariant-loop-u : goal.invariant-loop-u
invariant-loop-u l = (j : ℕ) → j < length l.rows.pairs → first_of l.rows.pairs j < l.u → first_of l.rows.pairs j < second_of l.rows.pairs j

abbrev pub invariant-loop-i : goal.invariant-loop-i
invariant-loop-i l = (j : ℕ) → j < l.i → l.u < second_of l.rows.pairs (l.row.start + j)
