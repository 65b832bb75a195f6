-- The options of the commands of `pitschedule`.
use Rattle.std.specs.Prelude.{List, ◌∷◌, [], ◌++◌, codes}
use Rattle.command_line.specs.Options.{Choice, needed, offered}

abbrev pub problem_options : List Choice
problem_options = needed (codes "problem") ∷ needed (codes "prec") ∷ []

-- those of `check`, and those of `bound`
abbrev pub schedule_options : List Choice
schedule_options = problem_options ++ needed (codes "schedule") ∷ offered (codes "prices") ∷ []

abbrev pub bound_options : List Choice
bound_options = problem_options ++ needed (codes "prices") ∷ []
