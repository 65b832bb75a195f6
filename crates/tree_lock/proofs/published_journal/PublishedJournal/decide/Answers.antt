use Rattle.std.proofs.Common.{◌≡◌, ap, sym, ◌∙◌, arith, List}
use Rattle.pit_model.specs.declared.journal.Entry.{Entry}
use Rattle.pit_model.specs.Journal.{lawful_verdict, applied_count}
use Rattle.pit_model.specs.Version.{version_tree}
use Rattle.tree_lock.specs.PublishedJournal.{entry_of}
use Rattle.pit_model.proofs.Journals.{applied_count-most}
use Rattle.tree_lock.proofs.Deciding.{journal_after}
use Rattle.tree_lock.proofs.published_journal.PublishedJournal.decide.Goals as goal

pub carry_out-requires-clause-room : goal.carry_out-requires-clause-room
carry_out-requires-clause-room g c =
    let most = applied_count-most c.self.inside.journal.items in
    let counted = c.self.invariant.counted in
    let s = c.self.inside.journal.small in
    let k = c.self.inside.journal.ok in
    omega arith

pub invariant_of-self-3 : goal.invariant_of-self-3
invariant_of-self-3 g c =
    let mine = g.V.ListId.mine in
    let published_journal = c.self.invariant in
    let fields = c.self.inside in
    let entry : Entry = entry_of c.args.seat c.args.arc c.verdict_on-verdict.result in
    let tree = version_tree mine fields.publisher in
    let lawful : c.verdict_on-verdict.result ≡ lawful_verdict mine fields.budget tree fields.applied c.args.arc =
    c.verdict_on-verdict.ensures
    ∙ ap (λ (l : List Entry). lawful_verdict mine fields.budget tree (applied_count l) c.args.arc) c.in_ok-reserve.ensures.items
    ∙ ap (λ n. lawful_verdict mine fields.budget tree n c.args.arc) (sym published_journal.counted) in
    rw (c.in-Ok.ensures.done.0, c.in-Ok.ensures.done.1, c.push_reserved.ensures.items, c.in_ok-reserve.ensures.items)
    (journal_after mine fields.publisher fields.journal.items fields.budget fields.applied entry published_journal lawful)
