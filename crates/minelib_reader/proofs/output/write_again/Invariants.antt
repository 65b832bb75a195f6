-- A call that a signal interrupted wrote no byte, and of a sound stream there is none.
use Rattle.std.specs.Io.KnownBytes.{Keeps}
use Rattle.minelib_reader.proofs.output.write_again.Given as goal

abbrev pub invariant-loop-try : goal.invariant-loop-try
invariant-loop-try g l = record {
  known : Keeps (g.S.Write.contents l.initial.stream) (g.S.Write.contents l.stream);
  sound : g.S.OutputStream.IsSound l.initial.stream → g.S.OutputStream.IsSound l.stream;
}
