-- What is said of reading and of replaying is said of both.
use Rattle.std.proofs.Common.{◌≡◌, ap, ◌∙◌, refl, subst}
use Rattle.std.specs.Prelude.{IfOk}
use Rattle.std.proofs.lemmas.Result.{err_from_is_err_and}
use Rattle.minelib_reader.specs.Answer.{Refuses, ReadsText}
use Rattle.faults.specs.declared.source.Source.TheVariants as sources
use Rattle.pit_model.specs.Graph.{Graph}
use Rattle.report.specs.JournalFault.{IsFirstJournalFault}
use Rattle.report.specs.JournalGrammar.{SpellsJournal}
use Rattle.report.specs.JournalLines.{budget_and_entries}
use Rattle.commands.specs.Solve.{reading}
use Rattle.merging.specs.Parts.{graph_of_instance}
use Rattle.merging.specs.Replayed.{EndsReplay}
use Rattle.merging.proofs.SolvedPart.{graph_is}
use Rattle.commands.proofs.Replaying.{reading_refused, is_replayed}
use Rattle.commands.proofs.replay.replay_on.Goals as goal

pub returns-in_err-said-clause-refused : goal.returns-in_err-said-clause-refused
returns-in_err-said-clause-refused g c =
    let p = err_from_is_err_and c.from_residual.result c.from_residual.ensures.1 in
    let e = c.in_err-said.field-0.0 in
    let before = g.J.InBytes.progress c.args.journal.now in
    let after = g.J.InBytes.progress c.read_journal.new.reader in
    let ended = g.J.InBytes.IsAtEnd c.read_journal.new.reader in
    let same : c.deref.result.now ≡ graph_of_instance c.args.rest.now = graph_is c.deref.result.now c.args.rest.now
    (ap (λ (h : Graph). h.blocks) c.deref.ensures ∙ c.graph.ensures.blocks) (ap (λ (h : Graph). h.pairs) c.deref.ensures ∙ c.graph.ensures.pairs) in
    let refused = subst (λ (h : Graph). Refuses e.refusal sources.Journal e before after (ReadsText before after ended (λ text. IsFirstJournalFault h text e))) same c.in_err-said.ensures.answers in
    rw (p.1, p.2) (reading_refused e.refusal e c.args.rest.now (reading before after ended) refl refused)

pub returns-clause-replayed : goal.returns-clause-replayed
returns-clause-replayed g c =
    let before = g.J.InBytes.progress c.args.journal.now in
    let after = g.J.InBytes.progress c.read_journal.new.reader in
    let ended = g.J.InBytes.IsAtEnd c.read_journal.new.reader in
    let same : c.deref.result.now ≡ graph_of_instance c.args.rest.now = graph_is c.deref.result.now c.args.rest.now
    (ap (λ (h : Graph). h.blocks) c.deref.ensures ∙ c.graph.ensures.blocks) (ap (λ (h : Graph). h.pairs) c.deref.ensures ∙ c.graph.ensures.pairs) in
    let read = c.in_ok-said.ensures.answers in
    let said = budget_and_entries c.in_ok-said.said.budget c.in_ok-said.said.entries.items in
    is_replayed c.args.rest.now (reading before after ended) said read.0 c.replay.result read.1
    (subst (λ (h : Graph). SpellsJournal h read.0 said) same read.2)
    (subst (λ entries. IfOk c.replay.result (EndsReplay c.args.rest.now c.in_ok-said.said.budget entries)) c.deref-2.ensures.value c.replay.ensures.ended)
