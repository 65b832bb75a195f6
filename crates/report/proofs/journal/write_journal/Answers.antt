-- The head and the lines of the entries, and nothing waits behind them.
use Rattle.std.proofs.Common.{◌++◌, length, rules}
use Rattle.std.specs.List.{flat_map}
use Rattle.std.proofs.lemmas.List.{append-nil}
use Rattle.pit_model.specs.JournalText.{entry_line, journal_head}
use Rattle.report.proofs.PutLemmas.{puts_then, puts_as, puts_end}
use Rattle.report.proofs.JournalWritten.{written_spells}
use Rattle.report.proofs.journal.write_journal.Goals as goal

pub returns-clause-text : goal.returns-clause-text
returns-clause-text g c =
    let two = puts_then _ _ _ _ _ _ _ _ c.put_head.ensures.puts c.put_entries.ensures.puts in
    let three = puts_then _ _ _ _ _ _ _ _ two c.finish.ensures.puts in
    let whole = append-nil (journal_head c.args.graph.now.blocks (length c.args.graph.now.pairs) c.args.budget (length c.args.entries.now) ++ flat_map entry_line c.args.entries.now) in
    puts_end _ _ _ _ _ c.finish.result (puts_as whole three) c.new-out.ensures.bytes c.new-out.ensures.failed c.finish.ensures.none c.finish.ensures.answers

pub returns-clause-spelled : goal.returns-clause-spelled
returns-clause-spelled g c =
    written_spells c.args.graph.now c.args.budget c.args.entries.now c.law.ensures.few_blocks c.law.ensures.few_arcs (search rules) (search rules) c.requires.seated
