-- The law, as it is shown of what is written.
use Rattle.report.proofs.PitRead as pits
use Rattle.report.proofs.pit.pit_reads_back.Goals as goal

pub returns : goal.returns
returns c = pits.pit_reads_back
