-- The law of the lock is of the holder's journal, which is the one that is answered.
use Rattle.std.proofs.Common.{◌≡◌, ◌∙◌, ℕ, List, Option, ap, subst, sym}
use Rattle.pit_model.specs.declared.journal.Entry.{Entry}
use Rattle.pit_model.specs.Mine.{Instance, arcs}
use Rattle.tree_lock.specs.Served.{AreUnderSeats}
use Rattle.crew.specs.Solved.{IsSolvedTogether}
use Rattle.crew.proofs.Seats.{are_seated}
use Rattle.crew.proofs.driver.end_of.Goals as goal

pub returns-clause-solved : goal.returns-clause-solved
returns-clause-solved g c =
    let h = c.args.holder in
    let workers = g.S.LockId.workers in
    let outcome = c.in_ok-outcome.field-0 in
    let count : g.S.BoardId.arcs ≡ arcs h.mine = c.requires.known ∙ ap arcs (sym c.law.ensures.mine) in
    let solved : IsSolvedTogether h.mine workers h.budget outcome h.journal = record {
      lawful = c.law.ensures.lawful;
      seated = are_seated h.mine workers h.journal (subst (λ n. AreUnderSeats h.mine workers n h.journal) count c.law.ensures.seated);
      ends = c.in_ok-outcome.ensures.ends;
    } in
    subst (λ (journal : List Entry). IsSolvedTogether g.S.ListId.mine workers g.S.LockId.budget outcome journal) (sym c.into_parts-journal.ensures.journal)
    (subst (λ (budget : Option ℕ). IsSolvedTogether g.S.ListId.mine workers budget outcome h.journal) c.law.ensures.budget
    (subst (λ (mine : Instance). IsSolvedTogether mine workers h.budget outcome h.journal) c.law.ensures.mine solved))
