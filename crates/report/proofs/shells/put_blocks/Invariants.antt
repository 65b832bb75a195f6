-- The lines of the blocks so far were put.
use Rattle.std.proofs.Common.{take}
use Rattle.std.specs.List.{flat_map}
use Rattle.pit_model.specs.ShellText.{block_factor_line}
use Rattle.report.specs.Puts.{Puts, IsReady}
use Rattle.report.proofs.shells.put_blocks.Given as goal

abbrev pub invariant-loop-block : goal.invariant-loop-block
invariant-loop-block g l = record {
  puts : Puts (g.W.OutBytes.progress l.fn.writer) l.fn.out (g.W.OutBytes.progress l.writer) l.out (flat_map (block_factor_line l.shells) (take l.block-index l.blocks));
  ready : IsReady (g.W.OutBytes.progress l.writer) l.out;
}
