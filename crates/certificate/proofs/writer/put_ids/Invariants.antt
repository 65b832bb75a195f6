-- The lines so far were put.
use Rattle.std.proofs.Common.{take}
use Rattle.std.specs.List.{flat_map}
use Rattle.pit_model.specs.PitText.{line_of}
use Rattle.report.specs.Puts.{Puts, IsReady}
use Rattle.certificate.proofs.writer.put_ids.Given as goal

abbrev pub invariant-loop-id : goal.invariant-loop-id
invariant-loop-id g l = record {
  puts : Puts (g.W.OutBytes.progress l.fn.writer) l.fn.out (g.W.OutBytes.progress l.writer) l.out (flat_map line_of (take l.id-index l.ids));
  ready : IsReady (g.W.OutBytes.progress l.writer) l.out;
}
