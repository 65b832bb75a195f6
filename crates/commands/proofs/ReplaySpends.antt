-- The replay of a journal whose budget is used up ends at that budget.
use Rattle.std.proofs.Common.{rules, ◌≡◌, ℕ, inl, inr, refl, sym, ap, subst, ◌∙◌, true, List}
use Rattle.std.specs.Prelude.{◌⊎◌, ◌==◌}
use Rattle.std.proofs.lemmas.Bool.{false≢true}
use Rattle.minelib_reader.specs.Device.{Progress}
use Rattle.faults.specs.declared.fault.Fault.{Fault}
use Rattle.faults.specs.declared.refusal.Refusal.{Refusal}
use Rattle.faults.specs.declared.refusal.Refusal.TheVariants.{WriteFailed, Exhausted}
use Rattle.pit_model.specs.Journal.{is_used_up}
use Rattle.pit_model.specs.Mine.{Instance}
use Rattle.pit_model.specs.Replay.{IsSpentAt}
use Rattle.report.specs.JournalLines.{BudgetAndEntries}
use Rattle.solver.specs.declared.mode.Mode.{Mode}
use Rattle.commands.specs.Solve.{Files, FixedInstance, Reading}
use Rattle.commands.specs.Journaled.{AtBudget, IsJournaled}
use Rattle.commands.specs.Replay.{AnswersJournal, settled, differs, unfinished, IsJournalSpent, NotReplayed, no_mine, no_journal, Replays, RefusesReplay}
use Rattle.commands.specs.Uniqueness.{GaveTaken, IsUnread, ReadAlike, SpendsReplay}
use Rattle.commands.specs.declared.status.Status.{Status}
use Rattle.commands.proofs.OneFault.{given_is_faultless}
use Rattle.commands.proofs.ReplayOnce.{no_difference, taken_so}
use Rattle.commands.proofs.ReplayTakes.{faultless}

itself : (n : ℕ) → (n == n) ≡ true
itself n = search rules

never_answered : (fixed_mine : FixedInstance) (mine : Instance) (said : BudgetAndEntries) (text : List ℕ) (status : Status) (count : ℕ) → IsSpentAt mine said.budget said.entries count → AnswersJournal fixed_mine mine said text status → ⊥
never_answered fixed_mine mine said text status count s (settled t is_text done) = false≢true (sym (t.none_left s.left.0) ∙ s.left.1)
never_answered fixed_mine mine said text status count s (differs k d is_text negative) = no_difference mine said.budget said.entries k s.lawful d
never_answered fixed_mine mine said text status count s (unfinished made o is_text negative) =
    let same : made ≡ count = sym o.made ∙ s.made in
    false≢true (sym o.allowed ∙ (λ i. is_used_up (s.allowed i) (same i)) ∙ itself count)

module _ (files other : Files) (journal : Reading) (same : ReadAlike files other) (mode : Mode) (count : ℕ) (before after : Progress)
    (taken : GaveTaken journal before after) (wrote : IsJournaled (AtBudget count) mode files before after) where
  not_reported : (text : List ℕ) (status : Status) → Replays other journal text status → ⊥
  not_reported text status r =
      never_answered r.fixed_mine r.rest r.said text status count
      (taken_so files other journal same (AtBudget count) mode before after r.rest r.said taken wrote (r.fixed_mine, r.given, r.is_rest) r.journal_given) r.answers

  same_count : (named : ℕ) → IsJournalSpent other journal named → named ≡ count
  same_count named used =
      let s = taken_so files other journal same (AtBudget count) mode before after used.rest used.said taken wrote used.given used.journal_given in
      sym used.spent.made ∙ s.made

  unread : (fault : Fault) → NotReplayed fault other journal → IsUnread fault.refusal
  unread fault (no_mine refused left) = given_is_faultless files other wrote.given.0 fault same wrote.given.1 refused
  unread fault (no_journal fixed_mine given refused) = faultless files other journal same (AtBudget count) mode before after fixed_mine fault.refusal fault taken wrote given refused

  refused : (r : Refusal) (fault : Fault) (other_before other_after : Progress) → fault.refusal ≡ r → RefusesReplay r fault other journal other_before other_after → (r ≡ Exhausted count) ⊎ IsUnread r
  refused WriteFailed fault other_before other_after is h = absurd (not_reported h.1.text h.1.status h.1.replays)
  refused (Exhausted named) fault other_before other_after is h = inl (ap Exhausted (same_count named h.1))
  refused _ fault other_before other_after is h = inr (subst IsUnread is (unread fault h.0))

pub spends_replay : (files other : Files) (journal : Reading) → SpendsReplay files other journal
spends_replay files other journal = record {
  not_reported = λ mode count before after other_before other_after other_status same taken wrote reported.
      not_reported files other journal same mode count before after taken wrote reported.text other_status reported.replays;
  refused = λ mode count before after other_before other_after fault same taken wrote h.
      refused files other journal same mode count before after taken wrote fault.refusal fault other_before other_after refl h;
}
