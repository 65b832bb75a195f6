-- One line more.
use Rattle.std.proofs.Common.{◌≡◌, ◌∙◌, [], ◌++◌, ◌+◌, List, ℕ, take, get_or, ap, sym}
use Rattle.std.specs.List.{flat_map}
use Rattle.std.proofs.lemmas.List.{flat_map_more, take_more}
use Rattle.pit_model.specs.ShellText.{block_factor_line}
use Rattle.report.proofs.PutLemmas.{puts_then, puts_as}
use Rattle.report.proofs.shells.put_blocks.Goals as goal

pub loop-block-preserved : goal.loop-block-preserved
loop-block-preserved g c =
    let blocks = c.args.blocks.now in
    let i = c.loop-block.block-index in
    let line = block_factor_line c.args.shells.now in
    let item = get_or blocks i 0 in
    let more : flat_map line (take i blocks) ++ line item ≡ flat_map line (take (i + 1) blocks) =
    flat_map_more line [] (take i blocks) item ∙ ap (λ (xs : List ℕ). flat_map line xs) (sym (take_more blocks i 0 c.loop-block-test.true)) in
    record {
      puts = puts_as more (puts_then _ _ _ _ _ _ _ _ c.loop-block.invariant.puts c.put_block.ensures.puts);
      ready = c.put_block.ensures.ready;
    }
