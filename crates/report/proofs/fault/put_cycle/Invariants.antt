-- The blocks so far were put.
use Rattle.std.proofs.Common.{take}
use Rattle.std.specs.List.{flat_map}
use Rattle.report.specs.FaultText.{cycle_block}
use Rattle.report.specs.Puts.{Puts, IsReady}
use Rattle.report.proofs.fault.put_cycle.Given as goal

abbrev pub invariant-loop-block : goal.invariant-loop-block
invariant-loop-block g l = record {
  puts : Puts (g.W.OutBytes.progress l.fn.writer) l.fn.out (g.W.OutBytes.progress l.writer) l.out (flat_map cycle_block (take l.block-index l.blocks));
  ready : IsReady (g.W.OutBytes.progress l.writer) l.out;
}
