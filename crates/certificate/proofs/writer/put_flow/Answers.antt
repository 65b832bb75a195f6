-- An arc more, which has a line where it carries something.
use Rattle.std.proofs.Common.{◌≡◌, ◌+◌, ℕ, List, [], ◌++◌, ap, sym, ◌∙◌}
use Rattle.std.specs.List.{flat_map}
use Rattle.std.proofs.lemmas.List.{flat_map_more}
use Rattle.report.proofs.PutLemmas.{puts_then, puts_as}
use Rattle.certificate.specs.CertificateText.{carrying, flow_line}
use Rattle.certificate.proofs.Carrying.{carries, carries_not}
use Rattle.certificate.proofs.writer.put_flow.Goals as goal
use Rattle.certificate.proofs.writer.put_flow.Goals.{then-carries, else-carries}

pub loop-k-preserved : goal.loop-k-preserved
loop-k-preserved g c =
    elim c.if-carries.branch [
      | then-carries w ↦
          let on = sym c.carries.ensures ∙ w.if-carries.true in
          let more : flat_map (flow_line c.args.graph.now.pairs c.args.flow.now) (carrying c.args.flow.now c.loop-k.k) ++ flow_line c.args.graph.now.pairs c.args.flow.now c.loop-k.k
          ≡ flat_map (flow_line c.args.graph.now.pairs c.args.flow.now) (carrying c.args.flow.now (c.loop-k.k + 1)) =
          flat_map_more (flow_line c.args.graph.now.pairs c.args.flow.now) [] (carrying c.args.flow.now c.loop-k.k) c.loop-k.k
          ∙ ap (λ (xs : List ℕ). flat_map (flow_line c.args.graph.now.pairs c.args.flow.now) xs) (sym (carries c.args.flow.now c.loop-k.k on)) in
          rw (w.writer-is, w.out-is) (record {
            puts = puts_as more (puts_then _ _ _ _ _ _ _ _ c.loop-k.invariant.puts w.put_arc.ensures.puts);
            ready = w.put_arc.ensures.ready;
          })
      | else-carries w ↦
          let off = sym c.carries.ensures ∙ w.if-carries.false in
          rw (w.writer-is, w.out-is) (record {
            puts = puts_as (ap (λ (xs : List ℕ). flat_map (flow_line c.args.graph.now.pairs c.args.flow.now) xs) (sym (carries_not c.args.flow.now c.loop-k.k off))) c.loop-k.invariant.puts;
            ready = c.loop-k.invariant.ready;
          })
    ]
