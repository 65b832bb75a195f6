-- The parts of the text, one after the other, and nothing waits behind them.
use Rattle.std.proofs.Common.{◌≡◌, ◌∙◌, ℕ, List, ◌++◌, ap, length}
use Rattle.std.specs.Prelude.{ℤ, codes}
use Rattle.std.specs.List.{flat_map}
use Rattle.std.proofs.lemmas.List.{append-nil}
use Rattle.report.proofs.PutLemmas.{puts_then, puts_as, puts_end}
use Rattle.certificate.specs.CertificateText.{carrying, certificate_head, flow_head, flow_line, list_text}
use Rattle.certificate.proofs.Written.{written_spells}
use Rattle.certificate.proofs.writer.write.Goals as goal

pub returns-clause-text : goal.returns-clause-text
returns-clause-text g c =
    let pairs = c.args.graph.now.pairs in
    let flow = c.as_slice-flow.result.now in
    let all : ℕ = length c.args.graph.now.pairs in
    -- the text by its parts
    let parts = λ (ids : List ℕ) (count : ℕ) (amounts : List ℤ). certificate_head c.args.graph.now c.args.fixed.now.lists ++ list_text (codes "IN:") ids ++ flow_head count ++ flat_map (flow_line pairs amounts) (carrying amounts all) in
    let two = puts_then _ _ _ _ _ _ _ _ c.put_head.ensures.puts c.put_list.ensures.puts in
    let three = puts_then _ _ _ _ _ _ _ _ two c.put_flow_head.ensures.puts in
    let four = puts_then _ _ _ _ _ _ _ _ three c.put_flow.ensures.puts in
    let five = puts_then _ _ _ _ _ _ _ _ four c.finish.ensures.puts in
    let counted : c.count_carrying.result ≡ length (carrying c.as_slice-flow.result.now (length c.args.graph.now.pairs)) = c.count_carrying.ensures ∙ ap (λ m. length (carrying c.as_slice-flow.result.now m)) c.arcs.ensures in
    let whole =
    append-nil (parts c.as_slice.result.now c.count_carrying.result flow)
    ∙ ap (λ count. parts c.as_slice.result.now count flow) counted
    ∙ ap (λ ids. parts ids (length (carrying flow all)) flow) c.as_slice.ensures.value
    ∙ ap (λ amounts. parts c.args.certificate.now.pit.items (length (carrying amounts all)) amounts) c.as_slice-flow.ensures.value in
    puts_end _ _ _ _ _ c.finish.result (puts_as whole five) c.new-out.ensures.bytes c.new-out.ensures.failed c.finish.ensures.none c.finish.ensures.answers

pub returns-clause-spelled : goal.returns-clause-spelled
returns-clause-spelled g c =
    written_spells c.args.graph.now c.args.fixed.now.lists c.args.certificate.now.pit.items c.args.certificate.now.flow.items c.law.ensures.graph c.law.ensures.few_blocks c.law.ensures.few_arcs c.requires.of_graph.fixable c.requires.candidate
