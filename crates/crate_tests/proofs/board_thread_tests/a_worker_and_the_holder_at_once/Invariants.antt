-- The run's board is the one that was just made.
use Rattle.crate_tests.proofs.board_thread_tests.a_worker_and_the_holder_at_once.Given as goal

abbrev pub ghosts-two_threads : goal.ghosts-two_threads
ghosts-two_threads g a = record { board = a.unnamed; arcs = 4294967295 }
