-- A call that a signal interrupted took no byte of the stream, and of a sound stream there is none.
use Rattle.std.proofs.Common.{◌≡◌, length}
use Rattle.std.specs.Io.KnownBytes.{Keeps}
use Rattle.minelib_reader.proofs.input.read_again.Given as goal

abbrev pub invariant-loop-try : goal.invariant-loop-try
invariant-loop-try g l = record {
  length : length l.buf ≡ length l.initial.buf;
  known : Keeps (g.S.Read.remaining l.initial.stream) (g.S.Read.remaining l.stream);
  sound : g.S.InputStream.IsSound l.initial.stream → g.S.InputStream.IsSound l.stream;
}
