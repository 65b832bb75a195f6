-- The run's board is the one that was just made.
use Rattle.crate_tests.proofs.board_tests.a_board_of_one.Given as goal

abbrev pub ghosts-failure_at : goal.ghosts-failure_at
ghosts-failure_at a = record { board = a.unnamed; arcs = 4294967295 }
