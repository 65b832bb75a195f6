-- The modes of a run: what the command line may not ask for, and the mode that its words name.
use Rattle.std.specs.Prelude.{ℕ, Bool, ◌&&◌, ◌||◌, not, List, Option, Some, None, if◌then◌else◌, codes}
use Rattle.std.specs.Str.{bytes_eq}
use Rattle.solver.specs.declared.mode.Mode.{Mode}
use Rattle.solver.specs.declared.mode.Mode.TheVariants.{Single, Parts, Shared}

-- a word of the command line is one of the three modes
abbrev pub is_mode : List ℕ → Bool
is_mode word = bytes_eq word (codes "single") || bytes_eq word (codes "parts") || bytes_eq word (codes "shared")

-- what is wrong with the word of a mode, given whether there is a budget and whether a journal is wanted: the first that applies
abbrev pub mode_fault_of : List ℕ → Bool → Bool → Option (List ℕ)
mode_fault_of word budget journal =
    if not (is_mode word) then Some (codes "pitshell: mode is single, parts or shared")
    else (if bytes_eq word (codes "parts") && budget then Some (codes "pitshell: parts takes no budget")
    else (if journal && not (bytes_eq word (codes "shared")) then Some (codes "pitshell: journal needs shared")
    else None))

-- the mode of a word in which nothing is wrong
abbrev pub mode_named : List ℕ → ℕ → Option ℕ → Mode
mode_named word workers budget =
    if bytes_eq word (codes "parts") then Parts
    else (if bytes_eq word (codes "shared") then Shared workers budget 4096
    else Single budget)
