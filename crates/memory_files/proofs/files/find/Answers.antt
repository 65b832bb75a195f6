-- Each file is the one of the name, or is passed over.
use Rattle.std.proofs.Common.{rules}
use Rattle.memory_files.proofs.Finding.{found, missing, no_file, passed}
use Rattle.memory_files.proofs.files.find.Goals as goal

pub returns-then-eq : goal.returns-then-eq
returns-then-eq c = found c.args.files.now c.args.name.now c.loop-file.file-index no_file (search rules) (search rules) c.loop-file.invariant

pub loop-file-preserved : goal.loop-file-preserved
loop-file-preserved c = passed c.args.files.now c.args.name.now c.loop-file.file-index no_file (search rules) (search rules) c.loop-file.invariant

pub returns : goal.returns
returns c = missing c.args.files.now c.args.name.now c.loop-file.file-index (search rules) c.loop-file.invariant
