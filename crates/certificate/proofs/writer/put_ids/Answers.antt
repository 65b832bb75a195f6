-- One block more.
use Rattle.std.proofs.Common.{◌≡◌, ◌∙◌, [], ◌++◌, ◌+◌, List, ℕ, take, get_or, ap, sym}
use Rattle.std.specs.List.{flat_map}
use Rattle.std.proofs.lemmas.List.{flat_map_more, take_more}
use Rattle.pit_model.specs.PitText.{line_of}
use Rattle.report.proofs.PutLemmas.{puts_then, puts_as}
use Rattle.certificate.proofs.writer.put_ids.Goals as goal

pub loop-id-preserved : goal.loop-id-preserved
loop-id-preserved g c =
    let pit = c.args.ids.now in
    let i = c.loop-id.id-index in
    let item = get_or pit i 0 in
    let more : flat_map line_of (take i pit) ++ line_of item ≡ flat_map line_of (take (i + 1) pit) =
    flat_map_more line_of [] (take i pit) item ∙ ap (λ (xs : List ℕ). flat_map line_of xs) (sym (take_more pit i 0 c.loop-id-test.true)) in
    record {
      puts = puts_as more (puts_then _ _ _ _ _ _ _ _ c.loop-id.invariant.puts c.put_line.ensures.puts);
      ready = c.put_line.ensures.ready;
    }
