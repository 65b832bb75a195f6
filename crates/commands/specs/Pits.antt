-- The words of a pit: what the command line may not ask for, and the direction that a word names.
use Rattle.std.specs.Prelude.{ℕ, Bool, ◌&&◌, ◌||◌, not, List, Option, Some, None, if◌then◌else◌, codes}
use Rattle.std.specs.Str.{bytes_eq}
use Rattle.pit_model.specs.declared.direction.Direction.{Direction}
use Rattle.pit_model.specs.declared.direction.Direction.TheVariants.{Least, Greatest}

-- what is wrong with the word of a pit, given whether a certificate and whether a journal is wanted: the first that applies
abbrev pub pit_fault_of : List ℕ → Bool → Bool → Option (List ℕ)
pit_fault_of word certificate journal =
    if not (bytes_eq word (codes "least") || bytes_eq word (codes "greatest")) then Some (codes "pitshell: pit is least or greatest")
    else (if bytes_eq word (codes "greatest") && (certificate || journal) then Some (codes "pitshell: greatest takes no certificate or journal")
    else None)

-- the direction of a word in which nothing is wrong
abbrev pub pit_named : List ℕ → Direction
pit_named word = if bytes_eq word (codes "greatest") then Greatest else Least
