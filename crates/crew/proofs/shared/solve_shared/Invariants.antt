-- The lock works on this instance, this budget and the board that was just made, on which the arcs of the instance are asked
-- for.
use Rattle.pit_model.specs.Mine.{arcs}
use Rattle.crew.proofs.shared.solve_shared.Given as goal

abbrev pub ghosts-solve_at-S-BoardId : goal.ghosts-solve_at-S-BoardId
ghosts-solve_at-S-BoardId g a = record { board = a.begun.unnamed; arcs = arcs a.begun.tree.mine }

abbrev pub ghosts-solve_at-S-LockId : goal.ghosts-solve_at-S-LockId
ghosts-solve_at-S-LockId g a = record { budget = a.begun.budget; workers = a.begun.unnamed.words }

abbrev pub ghosts-solve_at-S-ListId : goal.ghosts-solve_at-S-ListId
ghosts-solve_at-S-ListId g a = record { book = a.begun.list; mine = a.begun.tree.mine }
