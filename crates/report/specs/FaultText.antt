-- The text of a fault: `error `, the number, `: `, the words, the input and the line or item, where there is one.
use Rattle.std.specs.Prelude.{ℕ, zero, suc, List, [], ◌++◌, codes, decimal}
use Rattle.std.specs.List.{flat_map}
use Rattle.faults.specs.Words.{number_of, words_of, source_text, place_word}
use Rattle.faults.specs.declared.fault.Fault.{Fault}
use Rattle.faults.specs.declared.refusal.Refusal.{Refusal}
use Rattle.faults.specs.declared.refusal.Refusal.TheVariants.{Cycle, NegativeColumn, NoSuchColumn, Exhausted, FixedClash}
use Rattle.faults.specs.declared.source.Source.{Source}

-- a block of a cycle
abbrev pub cycle_block : ℕ → List ℕ
cycle_block block = codes " " ++ decimal block

-- what differs: the blocks of the cycle, the block, the column, the count
unfoldable pub detail_of : Refusal → List ℕ
detail_of (Cycle list) = flat_map cycle_block list.items
detail_of (NegativeColumn block) = decimal block
detail_of (NoSuchColumn column) = decimal column
detail_of (FixedClash block) = decimal block
detail_of (Exhausted mergers) = decimal mergers ++ codes " mergers"
detail_of _ = []

-- the line or item, where there is one
unfoldable pub place_text : Source → ℕ → List ℕ
place_text source zero = []
place_text source (suc line) = place_word source ++ decimal (suc line)

unfoldable pub fault_text : Fault → List ℕ
fault_text fault =
    codes "error " ++ decimal (number_of fault.refusal) ++ codes ": " ++ words_of fault.refusal ++ detail_of fault.refusal
    ++ source_text fault.source ++ place_text fault.source fault.line ++ codes "\n"
