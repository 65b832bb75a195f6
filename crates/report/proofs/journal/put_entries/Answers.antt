-- One line more.
use Rattle.std.proofs.Common.{◌≡◌, ◌∙◌, [], ◌++◌, ◌+◌, List, take, get_or, ap, sym}
use Rattle.std.specs.List.{flat_map}
use Rattle.std.proofs.lemmas.List.{flat_map_more, take_more}
use Rattle.pit_model.specs.declared.journal.Entry.{Entry}
use Rattle.pit_model.specs.declared.journal.Verdict.TheVariants.{Applied}
use Rattle.pit_model.specs.JournalText.{entry_line}
use Rattle.report.proofs.PutLemmas.{puts_then, puts_as}
use Rattle.report.proofs.journal.put_entries.Goals as goal

pub loop-i-preserved : goal.loop-i-preserved
loop-i-preserved g c =
    let entries = c.args.entries.now in
    let i = c.loop-i.i in
    let none : Entry = record { seat = 0; arc = 0; verdict = Applied } in
    let more : flat_map entry_line (take i entries) ++ entry_line (get_or entries i none) ≡ flat_map entry_line (take (i + 1) entries) =
    flat_map_more entry_line [] (take i entries) (get_or entries i none) ∙ ap (λ (xs : List Entry). flat_map entry_line xs) (sym (take_more entries i none c.loop-i-test.true)) in
    record {
      puts = puts_as more (puts_then _ _ _ _ _ _ _ _ c.loop-i.invariant.puts c.put_entry.ensures.puts);
      ready = c.put_entry.ensures.ready;
    }
