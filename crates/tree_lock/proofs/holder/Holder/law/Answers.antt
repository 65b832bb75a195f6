use Rattle.std.proofs.Common.{◌≡◌, subst}
use Rattle.pit_model.specs.Tree.{MineTree}
use Rattle.pit_model.specs.Limits.{IsInstance}
use Rattle.pit_model.specs.Journal.{IsLawful, replay}
use Rattle.pit_model.specs.Version.{IsVersion}
use Rattle.pit_model.proofs.Simple.{instance_is_simple}
use Rattle.pit_model.proofs.Journals.{journal_is_bounded, journal_keeps_budget}
use Rattle.tree_lock.specs.HolderState.{HolderState}
use Rattle.tree_lock.proofs.Deciding.{published_is_replay, published_is_version}
use Rattle.tree_lock.proofs.holder.Holder.law.Goals as goal

pub returns-clause-within_budget : goal.returns-clause-within_budget
returns-clause-within_budget g c =
    let now = c.args.self.now in
    journal_keeps_budget now.mine now.budget now.journal (subst (λ (h : HolderState). IsLawful h.mine h.budget h.journal) c.self.view_is c.law.ensures.lawful)

pub returns-clause-bounded : goal.returns-clause-bounded
returns-clause-bounded g c =
    let now = c.args.self.now in
    let mine : IsInstance now.mine = subst (λ (h : HolderState). IsInstance h.mine) c.self.view_is (subst (λ (t : MineTree). IsInstance t.mine) c.tree.ensures c.law-2.ensures.instance) in
    journal_is_bounded now.mine now.budget now.journal (instance_is_simple now.mine mine) (subst (λ (h : HolderState). IsLawful h.mine h.budget h.journal) c.self.view_is c.law.ensures.lawful)

pub returns-clause-replayed : goal.returns-clause-replayed
returns-clause-replayed g c =
    let published_journal = c.self.inside.published_journal in
    subst (λ (h : HolderState). h.tree ≡ replay h.mine h.journal) c.self.view_is
    (published_is_replay g.S.ListId.mine published_journal.published published_journal.journal published_journal.budget c.law.ensures.lawful c.law.ensures.published)

pub returns-clause-version : goal.returns-clause-version
returns-clause-version g c =
    let published_journal = c.self.inside.published_journal in
    subst (λ (h : HolderState). IsVersion h.mine h.tree h.published) c.self.view_is
    (published_is_version g.S.ListId.mine published_journal.published published_journal.journal published_journal.budget c.law.ensures.lawful c.law.ensures.published)
