-- The lock works on this instance, this list of mergers, this budget and the board that was just made.
use Rattle.crate_tests.proofs.trial.failure_of.Given as goal

abbrev pub ghosts-try_at-S-BoardId : goal.ghosts-try_at-S-BoardId
ghosts-try_at-S-BoardId g a = record { board = a.begun.unnamed; arcs = 4294967295 }

abbrev pub ghosts-try_at-S-ListId : goal.ghosts-try_at-S-ListId
ghosts-try_at-S-ListId g a = record { book = a.begun.list; mine = a.begun.mine.now }

abbrev pub ghosts-try_at-S-LockId : goal.ghosts-try_at-S-LockId
ghosts-try_at-S-LockId g a = record { budget = a.setting.now.budget; workers = a.begun.unnamed.words }
