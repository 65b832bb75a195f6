-- No file so far has the name.
use Rattle.std.proofs.Common.{◌≡◌, drop}
use Rattle.memory_files.specs.MemoryRelations.{text_under}
use Rattle.memory_files.proofs.files.find.Given as goal

abbrev pub invariant-loop-file : goal.invariant-loop-file
invariant-loop-file l = text_under (drop l.file-index l.files) l.name ≡ text_under l.files l.name
