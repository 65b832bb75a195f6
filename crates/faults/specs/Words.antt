-- The number and the words of each refusal, and the words that name an input.
use Rattle.std.specs.Prelude.{ℕ, List, [], codes}
use Rattle.faults.specs.declared.refusal.Refusal.{Refusal}
use Rattle.faults.specs.declared.refusal.Refusal.TheVariants.{NoMemory, ReadFailed, WrongHeader, OverLimit, NotWhole, NotDecimal, IdOutOfPlace, PredecessorOutOfRange, NeedsItself, PredecessorTwice, WrongFieldCount, EndsEarly, AfterEnd, Cycle, NegativeColumn, NoSuchColumn, CountsDiffer, WriteFailed, FactorsNotRising, Exhausted, FixedClash, NoSeat}
use Rattle.faults.specs.declared.source.Source.{Source}
use Rattle.faults.specs.declared.source.Source.TheVariants.{None, Model, Precedence, Blocks, Certificate, Journal, Factors, Fixed}

-- the number of a refusal
abbrev pub number_of : Refusal → ℕ
number_of NoMemory = 1
number_of ReadFailed = 2
number_of WrongHeader = 3
number_of OverLimit = 4
number_of NotWhole = 5
number_of NotDecimal = 6
number_of IdOutOfPlace = 7
number_of PredecessorOutOfRange = 8
number_of NeedsItself = 9
number_of PredecessorTwice = 10
number_of WrongFieldCount = 11
number_of EndsEarly = 12
number_of AfterEnd = 13
number_of (Cycle list) = 14
number_of (NegativeColumn block) = 15
number_of (NoSuchColumn column) = 16
number_of CountsDiffer = 17
number_of WriteFailed = 18
number_of FactorsNotRising = 19
number_of (Exhausted mergers) = 20
number_of (FixedClash block) = 21
number_of NoSeat = 22

-- its words, up to what differs from fault to fault
abbrev pub words_of : Refusal → List ℕ
words_of NoMemory = codes "no memory"
words_of ReadFailed = codes "read failed"
words_of WrongHeader = codes "wrong header"
words_of OverLimit = codes "over the limit"
words_of NotWhole = codes "not a whole number"
words_of NotDecimal = codes "not a decimal"
words_of IdOutOfPlace = codes "id out of place"
words_of PredecessorOutOfRange = codes "predecessor out of range"
words_of NeedsItself = codes "block needs itself"
words_of PredecessorTwice = codes "predecessor named twice"
words_of WrongFieldCount = codes "wrong number of fields"
words_of EndsEarly = codes "ends early"
words_of AfterEnd = codes "line after the end"
words_of (Cycle list) = codes "cycle"
words_of (NegativeColumn block) = codes "negative value at block "
words_of (NoSuchColumn column) = codes "no column "
words_of CountsDiffer = codes "counts differ"
words_of WriteFailed = codes "write failed"
words_of FactorsNotRising = codes "factors not rising"
words_of (Exhausted mergers) = codes "exhausted after "
words_of (FixedClash block) = codes "fixed blocks clash at block "
words_of NoSeat = codes "no seat"

-- the input
abbrev pub source_text : Source → List ℕ
source_text None = []
source_text Model = codes " in model"
source_text Precedence = codes " in precedence"
source_text Blocks = codes " in blocks"
source_text Certificate = codes " in certificate"
source_text Journal = codes " in journal"
source_text Factors = codes " in factors"
source_text Fixed = codes " in fixed"

-- the word before a line's number, or an item's
abbrev pub place_word : Source → List ℕ
place_word Factors = codes " item "
place_word _ = codes " line "
