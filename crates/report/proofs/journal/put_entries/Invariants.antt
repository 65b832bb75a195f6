-- The lines of the entries so far were put.
use Rattle.std.proofs.Common.{take}
use Rattle.std.specs.List.{flat_map}
use Rattle.pit_model.specs.JournalText.{entry_line}
use Rattle.report.specs.Puts.{Puts, IsReady}
use Rattle.report.proofs.journal.put_entries.Given as goal

abbrev pub invariant-loop-i : goal.invariant-loop-i
invariant-loop-i g l = record {
  puts : Puts (g.W.OutBytes.progress l.fn.writer) l.fn.out (g.W.OutBytes.progress l.writer) l.out (flat_map entry_line (take l.i l.entries));
  ready : IsReady (g.W.OutBytes.progress l.writer) l.out;
}
