-- The law, as it is shown of what is printed.
use Rattle.report.proofs.NumbersRead as numbers
use Rattle.report.proofs.number.printed_numbers_read_back.Goals as goal

pub returns : goal.returns
returns c = numbers.numbers_read_back
