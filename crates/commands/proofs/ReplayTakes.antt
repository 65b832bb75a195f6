-- A journal that a solve wrote has no fault for whoever reads it; and its replay does not end at a budget where the solve was done.
use Rattle.std.proofs.Common.{◌≡◌, ℕ, inl, inr, refl, sym, subst, ◌∙◌, List}
use Rattle.std.specs.Prelude.{◌⊎◌, None}
use Rattle.std.proofs.lemmas.Bool.{false≢true}
use Rattle.std.proofs.lemmas.List.{append_cancel_left}
use Rattle.minelib_reader.specs.Device.{Progress}
use Rattle.minelib_reader.specs.Text.{rows_of, count_of_lines}
use Rattle.faults.specs.declared.fault.Fault.{Fault}
use Rattle.faults.specs.declared.refusal.Refusal.{Refusal}
use Rattle.faults.specs.declared.refusal.Refusal.TheVariants.{NoMemory, ReadFailed, WriteFailed, NoSeat, Exhausted}
use Rattle.pit_model.specs.declared.direction.Direction.TheVariants.{Least}
use Rattle.pit_model.specs.Graph.{Graph}
use Rattle.pit_model.specs.Mine.{Instance}
use Rattle.pit_model.specs.Replay.{IsComplete}
use Rattle.report.specs.JournalFault.{journal_fault_at, IsFirstJournalFault}
use Rattle.report.specs.JournalGrammar.{SpellsJournal}
use Rattle.report.specs.JournalLines.{BudgetAndEntries, budget_and_entries, journal_step, journal_end, first_journal_state}
use Rattle.report.proofs.FirstFaults.{clear_where_read}
use Rattle.report.proofs.JournalRead as journals
use Rattle.merging.specs.Parts.{graph_of_instance}
use Rattle.solver.specs.declared.mode.Mode.{Mode}
use Rattle.solver.specs.declared.mode.Mode.TheVariants.{Single, Parts, Shared}
use Rattle.commands.specs.Solve.{Files, FixedInstance, GaveInOrder, Reading, IsDone}
use Rattle.commands.specs.Journaled.{JournalEnd, SaysJournal, IsJournaled}
use Rattle.commands.specs.Replay.{NotReplayed, no_mine, no_journal, RefusesJournal, RefusesReplay}
use Rattle.commands.specs.Uniqueness.{GaveTaken, IsUnread, ReadAlike, TakesReplay}
use Rattle.commands.specs.declared.status.Status.{Status}
use Rattle.commands.proofs.OneFault.{never_faulty}
use Rattle.commands.proofs.ReplayOnce.{rest_once, taken_so}
use Rattle.commands.proofs.Uniqueness.{given_once}

-- a text that spells a journal has no fault
sound_journal : (graph : Graph) (text : List ℕ) (said : BudgetAndEntries) (fault : Fault) → SpellsJournal graph text said → IsFirstJournalFault graph text fault → ⊥
sound_journal graph text said fault spelled is =
    let read = journals.reads graph (count_of_lines text) (rows_of text) said spelled in
    let none : journal_fault_at graph text is.place ≡ None = clear_where_read (journal_step graph) (journal_end (count_of_lines text)) first_journal_state (rows_of text) said read is.place in
    let some = is.here in
    cc

-- what is said spells some journal
spells : (Ends : JournalEnd) (mode : Mode) (rest : Instance) (text : List ℕ) → SaysJournal Ends mode rest text → (said : BudgetAndEntries) × SpellsJournal (graph_of_instance rest) text said
spells Ends (Shared workers budget chunk) rest text says = (budget_and_entries budget says.0, says.1)
spells Ends (Single budget) rest text says = absurd says
spells Ends Parts rest text says = absurd says

module _ (files other : Files) (journal : Reading) (same : ReadAlike files other) where
  pub faultless : (Ends : JournalEnd) (mode : Mode) (before after : Progress) (fixed_mine : FixedInstance) (r : Refusal) (fault : Fault) → GaveTaken journal before after → IsJournaled Ends mode files before after
      → GaveInOrder other fixed_mine → RefusesJournal r fault fixed_mine journal → IsUnread r
  faultless Ends mode before after fixed_mine NoMemory fault taken wrote given h = inl refl
  faultless Ends mode before after fixed_mine ReadFailed fault taken wrote given h = inr refl
  faultless Ends mode before after fixed_mine WriteFailed fault taken wrote given h = absurd h.2
  faultless Ends mode before after fixed_mine NoSeat fault taken wrote given h = absurd h.2
  faultless Ends mode before after fixed_mine (Exhausted count) fault taken wrote given h = absurd h.2
  faultless Ends mode before after fixed_mine _ fault taken wrote given h =
      let rest = h.0 in
      let text = h.2.0 in
      let same_text : wrote.text ≡ text = append_cancel_left before.bytes wrote.text taken.text (sym wrote.wrote.0 ∙ taken.taken) ∙ given_once journal taken.text text taken.given h.2.1 in
      let same_rest = rest_once files other journal same wrote.rest rest wrote.given (fixed_mine, given, h.1) in
      let spelled = spells Ends mode wrote.rest wrote.text wrote.says in
      let there = subst (λ (m : Instance). SpellsJournal (graph_of_instance m) text spelled.0) same_rest (subst (λ t. SpellsJournal (graph_of_instance wrote.rest) t spelled.0) same_text spelled.1) in
      absurd (sound_journal (graph_of_instance rest) text spelled.0 fault there h.2.2)

  unread : (mode : Mode) (before after pit_before pit_after : Progress) (status : Status) (fault : Fault) → GaveTaken journal before after
      → IsJournaled IsComplete mode files before after → IsDone Least files pit_before pit_after status → NotReplayed fault other journal → IsUnread fault.refusal
  unread mode before after pit_before pit_after status fault taken wrote done (no_mine refused left) = never_faulty files other Least pit_before pit_after status fault same done refused
  unread mode before after pit_before pit_after status fault taken wrote done (no_journal fixed_mine given refused) = faultless IsComplete mode before after fixed_mine fault.refusal fault taken wrote given refused

  by_cases : (mode : Mode) (before after pit_before pit_after other_before other_after : Progress) (status : Status) (r : Refusal) (fault : Fault) → fault.refusal ≡ r → GaveTaken journal before after
      → IsJournaled IsComplete mode files before after → IsDone Least files pit_before pit_after status
      → RefusesReplay r fault other journal other_before other_after → IsUnread r ⊎ (r ≡ WriteFailed)
  by_cases mode before after pit_before pit_after other_before other_after status WriteFailed fault is taken wrote done h = inr refl
  by_cases mode before after pit_before pit_after other_before other_after status (Exhausted count) fault is taken wrote done h =
      let used = h.1 in
      let s = taken_so files other journal same IsComplete mode before after used.rest used.said taken wrote used.given used.journal_given in
      absurd (false≢true (sym (s.none_left used.spent.left.0) ∙ used.spent.left.1))
  by_cases mode before after pit_before pit_after other_before other_after status _ fault is taken wrote done h =
      inl (subst IsUnread is (unread mode before after pit_before pit_after status fault taken wrote done h.0))

pub takes_replay : (files other : Files) (journal : Reading) → TakesReplay files other journal
takes_replay files other journal = record {
  no_fault = λ mode before after fixed_mine fault same taken wrote given h.
      faultless files other journal same _ mode before after fixed_mine fault.refusal fault taken wrote given h;
  done = λ mode before after pit_before pit_after other_before other_after status fault same taken wrote done h.
      by_cases files other journal same mode before after pit_before pit_after other_before other_after status fault.refusal fault refl taken wrote done h;
}
