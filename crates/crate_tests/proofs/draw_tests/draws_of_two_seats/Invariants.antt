-- The run's counter is the one that was just made.
use Rattle.crate_tests.proofs.draw_tests.draws_of_two_seats.Given as goal

abbrev pub ghosts-failure_at : goal.ghosts-failure_at
ghosts-failure_at a = record { draws = a.unnamed.table }
