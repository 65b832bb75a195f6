-- The lines of the arcs so far were put.
use Rattle.std.specs.List.{flat_map}
use Rattle.report.specs.Puts.{Puts, IsReady}
use Rattle.certificate.specs.CertificateText.{carrying, flow_line}
use Rattle.certificate.proofs.writer.put_flow.Given as goal

abbrev pub invariant-loop-k : goal.invariant-loop-k
invariant-loop-k g l = record {
  puts : Puts (g.W.OutBytes.progress l.fn.writer) l.fn.out (g.W.OutBytes.progress l.writer) l.out (flat_map (flow_line l.graph.pairs l.flow) (carrying l.flow l.k));
  ready : IsReady (g.W.OutBytes.progress l.writer) l.out;
}
