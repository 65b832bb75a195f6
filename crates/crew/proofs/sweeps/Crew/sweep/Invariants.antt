-- Each sweep has a counter of its own.
use Rattle.crew.proofs.sweeps.Crew.sweep.Given as goal

abbrev pub ghosts-sweep_by : goal.ghosts-sweep_by
ghosts-sweep_by g a = record { draws = a.unnamed.table }
