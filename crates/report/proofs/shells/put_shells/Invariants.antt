-- The lines of the shells so far were put.
use Rattle.std.proofs.Common.{take}
use Rattle.std.specs.List.{flat_map}
use Rattle.pit_model.specs.ShellText.{shell_line}
use Rattle.report.specs.Puts.{Puts, IsReady}
use Rattle.report.proofs.shells.put_shells.Given as goal

abbrev pub invariant-loop-i : goal.invariant-loop-i
invariant-loop-i g l = record {
  puts : Puts (g.W.OutBytes.progress l.fn.writer) l.fn.out (g.W.OutBytes.progress l.writer) l.out (flat_map shell_line (take l.i l.shells));
  ready : IsReady (g.W.OutBytes.progress l.writer) l.out;
}
