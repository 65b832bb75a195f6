-- Two runs of `replay` over the same texts: they write one answer, and those that blame a text name the same fault.
use Rattle.std.proofs.Common.{◌≡◌, ℕ, suc, ◌<◌, ◌≤◌, inl, inr, refl, sym, ap, subst, ◌∙◌, arith, List, ◌++◌, take, Option, Some, None}
use Rattle.std.proofs.lemmas.Bool.{cases_lt, false≢true}
use Rattle.minelib_reader.specs.Device.{Progress}
use Rattle.minelib_reader.proofs.FirstFaultLemmas.{one_first}
use Rattle.faults.specs.declared.fault.Fault.{Fault}
use Rattle.faults.specs.declared.refusal.Refusal.{Refusal}
use Rattle.faults.specs.declared.refusal.Refusal.TheVariants.{NoMemory, ReadFailed, WriteFailed, NoSeat, Exhausted}
use Rattle.pit_model.specs.declared.journal.Entry.{Entry}
use Rattle.pit_model.specs.declared.direction.Direction.TheVariants.{Least}
use Rattle.pit_model.specs.Fixed.{IsRestOf}
use Rattle.pit_model.specs.Journal.{IsLawful}
use Rattle.pit_model.specs.Mine.{Instance}
use Rattle.pit_model.specs.Replay.{DiffersAt, IsComplete, IsOpenAt}
use Rattle.pit_model.proofs.OneRest.{rest_is_one}
use Rattle.merging.specs.Parts.{graph_of_instance}
use Rattle.report.specs.FaultText.{fault_text}
use Rattle.report.specs.JournalFault.{journal_fault_at, IsFirstJournalFault}
use Rattle.report.specs.JournalGrammar.{SpellsJournal}
use Rattle.report.specs.JournalLines.{BudgetAndEntries}
use Rattle.report.specs.ReplayText.{difference_text, open_text}
use Rattle.commands.specs.Solve.{Files, FixedInstance, Gave, GaveInOrder, Reading, fixed_in}
use Rattle.commands.specs.Replay.{AnswersJournal, differs, settled, unfinished, NotReplayed, no_journal, no_mine, RefusesJournal, RefusesReplay}
use Rattle.commands.specs.Uniqueness.{BlamesAText, GaveAlike, ReadAlike, ReplayFaultsOnce, ReplaysOnce}
use Rattle.commands.specs.declared.status.Status.{Status}
use Rattle.commands.proofs.OneCheck.{none_blamed, none_blamed_too, one_mine_fault}
use Rattle.commands.proofs.ReplayOnce.{journal_once, lawful_take, no_difference}
use Rattle.commands.proofs.Uniqueness.{mine_in_order, one_text}

-- ---- one answer

-- the first entry without its lawful verdict is one
no_earlier : (mine : Instance) (budget : Option ℕ) (journal : List Entry) (k l : ℕ) → DiffersAt mine budget journal k → DiffersAt mine budget journal l → k < l → ⊥
no_earlier mine budget journal k l a b lt = a.differs (lawful_take mine budget journal k b.before (let next = b.next in omega (arith, next, lt)) b.lawful)

one_difference : (mine : Instance) (budget : Option ℕ) (journal : List Entry) (k l : ℕ) → DiffersAt mine budget journal k → DiffersAt mine budget journal l → k ≡ l
one_difference mine budget journal k l a b = elim (cases_lt k l) [
  | inl lt ↦ absurd (no_earlier mine budget journal k l a b lt)
  | inr le ↦ elim (cases_lt l k) [
    | inl gt ↦ absurd (no_earlier mine budget journal l k b a gt)
    | inr ge ↦ omega (arith, le, ge)
  ]
]

record IsSameAnswer (text other : List ℕ) (status other_status : Status) : Type 0 where
  texts : text ≡ other
  statuses : status ≡ other_status

no_end : (mine : Instance) (said : BudgetAndEntries) (count : ℕ) → IsComplete mine said.budget said.entries → IsOpenAt mine said.budget said.entries count → ⊥
no_end mine said count s o = false≢true (sym (s.none_left o.left.0) ∙ o.left.1)

one_report : (fixed_mine : FixedInstance) (mine : Instance) (said : BudgetAndEntries) (text other : List ℕ) (status other_status : Status)
    → AnswersJournal fixed_mine mine said text status → AnswersJournal fixed_mine mine said other other_status → IsSameAnswer text other status other_status
one_report f mine said text other status other_status (settled s is done) (settled t is_too done_too) =
    record { texts = one_text Least f text other is is_too; statuses = done ∙ sym done_too }
one_report f mine said text other status other_status (settled s is done) (differs l d is_too is_no) = absurd (no_difference mine said.budget said.entries l s.lawful d)
one_report f mine said text other status other_status (settled s is done) (unfinished l o is_too is_no) = absurd (no_end mine said l s o)
one_report f mine said text other status other_status (differs k d is is_no) (settled t is_too done) = absurd (no_difference mine said.budget said.entries k t.lawful d)
one_report f mine said text other status other_status (differs k d is is_no) (differs l e is_too is_no_too) =
    record { texts = is ∙ ap difference_text (one_difference mine said.budget said.entries k l d e) ∙ sym is_too; statuses = is_no ∙ sym is_no_too }
one_report f mine said text other status other_status (differs k d is is_no) (unfinished l o is_too is_no_too) = absurd (no_difference mine said.budget said.entries k o.lawful d)
one_report f mine said text other status other_status (unfinished k o is is_no) (settled t is_too done) = absurd (no_end mine said k t o)
one_report f mine said text other status other_status (unfinished k o is is_no) (differs l d is_too is_no_too) = absurd (no_difference mine said.budget said.entries l o.lawful d)
one_report f mine said text other status other_status (unfinished k o is is_no) (unfinished l p is_too is_no_too) =
    record { texts = is ∙ ap open_text (sym o.made ∙ p.made) ∙ sym is_too; statuses = is_no ∙ sym is_no_too }

pub replays_once : (files other : Files) (journal other_journal : Reading) → ReplaysOnce files other journal other_journal
replays_once files other journal other_journal before after other_before other_after status other_status same alike one two =
    let a = one.replays in
    let b = two.replays in
    let mine = mine_in_order files other same a.fixed_mine b.fixed_mine a.given.holds.gave b.given.holds.gave in
    let own = subst (λ (x : FixedInstance). IsRestOf x.mine (fixed_in x) a.rest) mine a.is_rest in
    let rest = rest_is_one b.fixed_mine.mine (fixed_in b.fixed_mine) a.rest b.rest own b.is_rest in
    let x = a.journal_given in
    let y = b.journal_given in
    let here = subst (λ t. SpellsJournal (graph_of_instance a.rest) t a.said) (alike x.text y.text x.given y.given) x.spelled in
    let there = subst (λ (m : Instance). SpellsJournal (graph_of_instance m) y.text a.said) rest here in
    let said = journal_once (graph_of_instance b.rest) y.text a.said b.said there y.spelled in
    let moved = subst (λ (j : BudgetAndEntries). AnswersJournal b.fixed_mine b.rest j one.text status) said
    (subst (λ (m : Instance). AnswersJournal b.fixed_mine m a.said one.text status) rest
    (subst (λ (f : FixedInstance). AnswersJournal f a.rest a.said one.text status) mine a.answers)) in
    let answer = one_report b.fixed_mine b.rest b.said one.text two.text status other_status moved b.answers in
    (record { text = two.text; taken = one.wrote.0 ∙ ap (λ t. before.bytes ++ t) answer.texts; taken_too = two.wrote.0 }, answer.statuses)

-- ---- one fault

-- the first fault of the text of a journal of a mine's rest
record FaultsJournal (fault : Fault) (m : FixedInstance) (journal : Reading) : Type 0 where
  rest : Instance
  is_rest : IsRestOf m.mine (fixed_in m) rest
  text : List ℕ
  given : Gave journal text
  first : IsFirstJournalFault (graph_of_instance rest) text fault

journal_fault : (r : Refusal) (fault : Fault) (m : FixedInstance) (journal : Reading) → BlamesAText r → RefusesJournal r fault m journal → FaultsJournal fault m journal
journal_fault NoMemory fault m journal blames h = absurd blames
journal_fault ReadFailed fault m journal blames h = absurd blames
journal_fault WriteFailed fault m journal blames h = absurd blames
journal_fault NoSeat fault m journal blames h = absurd blames
journal_fault (Exhausted count) fault m journal blames h = absurd blames
journal_fault _ fault m journal blames h = record { rest = h.0; is_rest = h.1; text = h.2.0; given = h.2.1; first = h.2.2 }

not_replayed : (r : Refusal) (fault : Fault) (files : Files) (journal : Reading) (before after : Progress) → BlamesAText r → RefusesReplay r fault files journal before after → NotReplayed fault files journal
not_replayed WriteFailed fault files journal before after blames h = absurd blames
not_replayed (Exhausted count) fault files journal before after blames h = absurd blames
not_replayed _ fault files journal before after blames h = h.0

module _ (files other : Files) (journal other_journal : Reading) (same : ReadAlike files other) (alike : GaveAlike journal other_journal)
    (fault second : Fault) (some : BlamesAText fault.refusal) (some_too : BlamesAText second.refusal) where
  one_journal_fault : (m n : FixedInstance) → GaveInOrder files m → GaveInOrder other n
      → RefusesJournal fault.refusal fault m journal → RefusesJournal second.refusal second n other_journal → fault_text fault ≡ fault_text second
  one_journal_fault m n one two h k =
      let mine = mine_in_order files other same m n one.holds.gave two.holds.gave in
      let a = journal_fault fault.refusal fault m journal some h in
      let b = journal_fault second.refusal second n other_journal some_too k in
      let own = subst (λ (x : FixedInstance). IsRestOf x.mine (fixed_in x) a.rest) mine a.is_rest in
      let rest = rest_is_one n.mine (fixed_in n) a.rest b.rest own b.is_rest in
      let here = subst (λ t. IsFirstJournalFault (graph_of_instance a.rest) t fault) (alike a.text b.text a.given b.given) a.first in
      let there = subst (λ (x : Instance). IsFirstJournalFault (graph_of_instance x) b.text fault) rest here in
      ap fault_text (one_first (journal_fault_at (graph_of_instance b.rest) b.text) fault second there b.first)

  one_replay : NotReplayed fault files journal → NotReplayed second other other_journal → fault_text fault ≡ fault_text second
  one_replay (no_mine h left) (no_mine k left_too) = one_mine_fault files other same fault second some some_too h k
  one_replay (no_mine h left) (no_journal n gave k) = absurd (none_blamed files other same fault second some some_too n h gave)
  one_replay (no_journal m gave h) (no_mine k left) = absurd (none_blamed_too files other same fault second some some_too m gave k)
  one_replay (no_journal m one h) (no_journal n two k) = one_journal_fault m n one two h k

pub replay_faults_once : (files other : Files) (journal other_journal : Reading) → ReplayFaultsOnce files other journal other_journal
replay_faults_once files other journal other_journal before after other_before other_after fault second same alike some some_too h k =
    one_replay files other journal other_journal same alike fault second some some_too
    (not_replayed fault.refusal fault files journal before after some h)
    (not_replayed second.refusal second other other_journal other_before other_after some_too k)
