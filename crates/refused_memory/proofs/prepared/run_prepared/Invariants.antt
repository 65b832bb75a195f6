-- The board and the counter are those that were just prepared.
use Rattle.refused_memory.proofs.prepared.run_prepared.Given as goal

abbrev pub ghosts-run-B-BoardId : goal.ghosts-run-B-BoardId
ghosts-run-B-BoardId a = record { board = a.prepared.board; arcs = 4294967295 }

abbrev pub ghosts-run-L-CounterId : goal.ghosts-run-L-CounterId
ghosts-run-L-CounterId a = record { draws = a.prepared.draws.table }
