-- The replay of a journal of the mine that was read is told, and where it comes to a pit, that is the pit of the files' mine.
use Rattle.std.proofs.Common.{◌≡◌, ◌∙◌, ℕ, Bool, List, length, refl, sym, subst, Ok, Err, Result, Vec, Global}
use Rattle.std.specs.Prelude.{IfOk, IfErr}
use Rattle.minelib_reader.specs.Device.{Progress}
use Rattle.minelib_reader.specs.Answer.{Refuses, ReadsText}
use Rattle.minelib_reader.proofs.TextFaults.{IsOfText}
use Rattle.faults.specs.declared.fault.Fault.{Fault}
use Rattle.faults.specs.declared.refusal.Refusal.{Refusal}
use Rattle.faults.specs.declared.refusal.Refusal.TheVariants.{NoMemory, ReadFailed, WriteFailed, NoSeat, Exhausted}
use Rattle.faults.specs.declared.source.Source.TheVariants as sources
use Rattle.pit_model.specs.Mine.{Instance, members}
use Rattle.pit_model.specs.Limits.{IsInstance}
use Rattle.report.specs.JournalLines.{BudgetAndEntries}
use Rattle.report.specs.JournalGrammar.{SpellsJournal}
use Rattle.report.specs.JournalFault.{IsFirstJournalFault}
use Rattle.report.proofs.JournalOfText.{journal_fault_of_text}
use Rattle.merging.specs.Parts.{graph_of_instance}
use Rattle.merging.specs.Replayed.{EndsReplay}
use Rattle.merging.specs.Reduced.{IsRestIn, ListsJoined}
use Rattle.merging.specs.declared.reduced_mine.ReducedMine.{ReducedMine}
use Rattle.mine_graph.specs.FixedBlocks.{FixedBlocks, no_lists}
use Rattle.pit_search.proofs.Searching.{is_rest_of, joined_pit, none_is_rest, plain_pit}
use Rattle.merging.specs.declared.replayed.Replayed.{Replayed}
use Rattle.merging.specs.declared.replayed.Replayed.TheVariants as ends
use Rattle.pit_model.specs.declared.direction.Direction.TheVariants.{Least}
use Rattle.pit_model.specs.Fixed.{IsRestOf}
use Rattle.commands.specs.Solve.{Files, FixedInstance, Reading, Gave, HoldsMine, Solves, fixed_in}
use Rattle.commands.specs.Replay.{EndsOnRest, IsReplayed, IsReplayedOn, AnswersJournal, settled, differs, unfinished, Replays, ReportsReplay, IsReplayCut, IsJournalSpent, RefusesJournal, RefusesJournalOn, NotReplayed, no_journal, RefusesReplay, TellsEnd, FailsToReport, cut, spent, ReportsEnd}
use Rattle.commands.specs.declared.status.Status.{Status}
use Rattle.commands.specs.declared.status.Status.TheVariants.{Done, No}
use Rattle.commands.proofs.Solving.{solves}

-- a refusal of the reader is one of the journal
pub reading_refused : (r : Refusal) (e : Fault) (rest : Instance) (journal : Reading) → e.refusal ≡ r
    → Refuses r sources.Journal e journal.before journal.after (ReadsText journal.before journal.after journal.ended (λ text. IsFirstJournalFault (graph_of_instance rest) text e))
    → RefusesJournalOn r e rest journal
reading_refused NoMemory e rest journal is h = (h.1, h.0)
reading_refused ReadFailed e rest journal is h = h
reading_refused WriteFailed e rest journal is h = h
reading_refused NoSeat e rest journal is h = subst IsOfText is (journal_fault_of_text (graph_of_instance rest) h.0 e h.2)
reading_refused (Exhausted count) e rest journal is h = subst IsOfText is (journal_fault_of_text (graph_of_instance rest) h.0 e h.2)
reading_refused _ e rest journal is h = h

-- why there is no journal of the rest
pub rest_refused : (r : Refusal) (e : Fault) (fixed_mine : FixedInstance) (rest : Instance) (journal : Reading) → IsRestOf fixed_mine.mine (fixed_in fixed_mine) rest → RefusesJournalOn r e rest journal → RefusesJournal r e fixed_mine journal
rest_refused NoMemory e fixed_mine rest journal is h = h
rest_refused _ e fixed_mine rest journal is h = (rest, is, h)

-- the end of the replay of the journal that was read
pub is_replayed :
    (mine : Instance) (reading : Reading) (said : BudgetAndEntries) (text : List ℕ) (answer : Result Replayed Fault) → Gave reading text → SpellsJournal (graph_of_instance mine) text said
    → IfOk answer (EndsReplay mine said.budget said.entries) → IfOk answer (IsReplayedOn mine reading)
is_replayed mine reading said text (Ok end) given spelled ended = record { journal = said; given = record { text = text; given = given; spelled = spelled }; ends = ended }
is_replayed mine reading said text (Err e) given spelled ended = tt

-- the end of a replay of the mine itself, where nothing is fixed
plain_end : (fixed_mine : FixedInstance) (journal : BudgetAndEntries) (end : Replayed) → fixed_mine.lists ≡ no_lists → EndsReplay fixed_mine.mine journal.budget journal.entries end → EndsOnRest fixed_mine fixed_mine.mine journal end
plain_end fixed_mine journal (ends.Pit pit) none e = (e.0, plain_pit Least fixed_mine.mine fixed_mine.lists pit.items none e.1)
plain_end fixed_mine journal _ none e = e

pub plain_replayed : (fixed_mine : FixedInstance) (reading : Reading) (answer : Result Replayed Fault) → fixed_mine.lists ≡ no_lists → IfOk answer (IsReplayedOn fixed_mine.mine reading) → IfOk answer (IsReplayed fixed_mine reading)
plain_replayed fixed_mine reading (Ok end) none r = record {
  rest = fixed_mine.mine;
  is_rest = none_is_rest fixed_mine.mine fixed_mine.lists none;
  journal = r.journal;
  given = r.given;
  ends = plain_end fixed_mine r.journal end none r.ends;
}
plain_replayed fixed_mine reading (Err e) none r = tt

pub plain_refused : (fixed_mine : FixedInstance) (reading : Reading) (answer : Result Replayed Fault) → fixed_mine.lists ≡ no_lists
    → IfErr answer (λ e. RefusesJournalOn e.refusal e fixed_mine.mine reading) → IfErr answer (λ e. RefusesJournal e.refusal e fixed_mine reading)
plain_refused fixed_mine reading (Ok end) none r = tt
plain_refused fixed_mine reading (Err e) none r = rest_refused e.refusal e fixed_mine fixed_mine.mine reading (none_is_rest fixed_mine.mine fixed_mine.lists none) r

-- the end of a replay of the rest without a pit
open_end : (fixed_mine : FixedInstance) (rest : Instance) (journal : BudgetAndEntries) (end : Replayed) → ((pit : Vec ℕ Global) → end ≡ ends.Pit pit → ⊥)
    → EndsReplay rest journal.budget journal.entries end → EndsOnRest fixed_mine rest journal end
open_end fixed_mine rest journal (ends.Pit pit) other e = absurd (other pit refl)
open_end fixed_mine rest journal _ other e = e

pub open_replayed : (fixed_mine : FixedInstance) (rest : Instance) (reading : Reading) (end : Replayed) → IsRestOf fixed_mine.mine (fixed_in fixed_mine) rest → ((pit : Vec ℕ Global) → end ≡ ends.Pit pit → ⊥)
    → IsReplayedOn rest reading end → IsReplayed fixed_mine reading end
open_replayed fixed_mine rest reading end is other r = record { rest = rest; is_rest = is; journal = r.journal; given = r.given; ends = open_end fixed_mine rest r.journal end other r.ends }

-- and with one, which is joined with what must be dug
pub pit_replayed :
    (mine : Instance) (fixed : FixedBlocks) (rest : ReducedMine) (reading : Reading) (found list : Vec ℕ Global) → (fixed.lists ≡ no_lists → ⊥) → IsRestIn mine fixed rest
    → IsReplayedOn rest.mine reading (ends.Pit found)
    → ((set : ℕ → Bool) → found.items ≡ members (length rest.blocks.items) set → ListsJoined mine.blocks fixed rest.blocks.items set list.items)
    → IsReplayed (record { mine = mine; lists = fixed.lists }) reading (ends.Pit list)
pit_replayed mine fixed rest reading found list some is r joined = record {
  rest = rest.mine;
  is_rest = is_rest_of mine fixed rest some is;
  journal = r.journal;
  given = r.given;
  ends = (r.ends.0, joined_pit Least mine fixed rest found.items list.items is r.ends.1 joined);
}

answers : (fixed_mine : FixedInstance) (rest : Instance) (said : BudgetAndEntries) (end : Replayed) (text : List ℕ) (status : Status) → EndsOnRest fixed_mine rest said end → TellsEnd fixed_mine end text status → AnswersJournal fixed_mine rest said text status
answers fixed_mine rest said (ends.Pit pit) text status e t = settled e.0 t.0 t.1
answers fixed_mine rest said (ends.Differs k) text status e t = differs k e t.0 t.1
answers fixed_mine rest said (ends.Open count) text status e t = unfinished count e t.0 t.1
answers fixed_mine rest said (ends.Exhausted count) text status e t = absurd t

no_is_not_done : No ≡ Done → ⊥
no_is_not_done same = cc

-- where the pit was told, its text is that of the mine as the files spell it
solves_done : (files : Files) (fixed_mine : FixedInstance) (end : Replayed) (text : List ℕ) (status : Status) → HoldsMine files fixed_mine → TellsEnd fixed_mine end text status → status ≡ Done → Solves Least files text
solves_done files fixed_mine (ends.Pit pit) text status holds t is = solves Least files fixed_mine text holds t.0
solves_done files fixed_mine (ends.Differs k) text status holds t is = absurd (no_is_not_done (sym t.1 ∙ is))
solves_done files fixed_mine (ends.Open count) text status holds t is = absurd (no_is_not_done (sym t.1 ∙ is))
solves_done files fixed_mine (ends.Exhausted count) text status holds t is = absurd t

replays : (files : Files) (journal : Reading) (fixed_mine : FixedInstance) (end : Replayed) (text : List ℕ) (status : Status) → HoldsMine files fixed_mine → IsInstance fixed_mine.mine
    → IsReplayed fixed_mine journal end → TellsEnd fixed_mine end text status → Replays files journal text status
replays files journal fixed_mine end text status holds is r t = record {
  fixed_mine = fixed_mine;
  given = record { holds = holds; ordered = is.graph };
  rest = r.rest;
  is_rest = r.is_rest;
  said = r.journal;
  journal_given = r.given;
  answers = answers fixed_mine r.rest r.journal end text status r.ends t;
  solves = solves_done files fixed_mine end text status holds t;
}

reported : (files : Files) (journal : Reading) (fixed_mine : FixedInstance) (end : Replayed) (status : Status) (before after : Progress) → HoldsMine files fixed_mine → IsInstance fixed_mine.mine
    → IsReplayed fixed_mine journal end → ReportsEnd fixed_mine end before after status → ReportsReplay files journal before after status
reported files journal fixed_mine end status before after holds is r t = record {
  text = t.0;
  replays = replays files journal fixed_mine end t.0 status holds is r t.1;
  wrote = t.2;
}

not_reported : (files : Files) (journal : Reading) (fixed_mine : FixedInstance) (end : Replayed) (before after : Progress) (e : Fault) → HoldsMine files fixed_mine → IsInstance fixed_mine.mine
    → IsReplayed fixed_mine journal end → FailsToReport fixed_mine end before after e → RefusesReplay e.refusal e files journal before after
not_reported files journal fixed_mine end before after e holds is r (cut text status t w failed) =
    let was : IsReplayCut files journal before after = record {
      text = text;
      status = status;
      replays = replays files journal fixed_mine end text status holds is r t;
      wrote = w;
    } in
    subst (λ f. RefusesReplay f.refusal f files journal before after) (sym failed) (refl, was)
not_reported files journal fixed_mine end before after e holds is r (spent count ended used same) =
    let was : IsJournalSpent files journal count = record {
      rest = r.rest;
      given = (fixed_mine, record { holds = holds; ordered = is.graph }, r.is_rest);
      said = r.journal;
      journal_given = r.given;
      spent = subst (EndsOnRest fixed_mine r.rest r.journal) ended r.ends;
    } in
    subst (λ f. RefusesReplay f.refusal f files journal before after) (sym used) (refl, was, same)

-- each refusal before anything is written
not_replayed : (r : Refusal) (e : Fault) (files : Files) (journal : Reading) (out : Progress) → (r ≡ WriteFailed → ⊥) → ((count : ℕ) → r ≡ Exhausted count → ⊥) → NotReplayed e files journal → RefusesReplay r e files journal out out
not_replayed WriteFailed e files journal out written used n = absurd (written refl)
not_replayed (Exhausted count) e files journal out written used n = absurd (used count refl)
not_replayed _ e files journal out written used n = (n, refl)

journal_is_no_write : (r : Refusal) (e : Fault) (fixed_mine : FixedInstance) (journal : Reading) → RefusesJournal r e fixed_mine journal → r ≡ WriteFailed → ⊥
journal_is_no_write WriteFailed e fixed_mine journal h same = h.2
journal_is_no_write _ e fixed_mine journal h same = cc

journal_is_no_budget : (r : Refusal) (e : Fault) (fixed_mine : FixedInstance) (journal : Reading) → RefusesJournal r e fixed_mine journal → (count : ℕ) → r ≡ Exhausted count → ⊥
journal_is_no_budget (Exhausted n) e fixed_mine journal h count same = h.2
journal_is_no_budget _ e fixed_mine journal h count same = cc

pub journal_refused : (e : Fault) (files : Files) (journal : Reading) (fixed_mine : FixedInstance) (out : Progress) → HoldsMine files fixed_mine → IsInstance fixed_mine.mine → RefusesJournal e.refusal e fixed_mine journal → RefusesReplay e.refusal e files journal out out
journal_refused e files journal fixed_mine out holds is h =
    not_replayed e.refusal e files journal out (journal_is_no_write e.refusal e fixed_mine journal h) (journal_is_no_budget e.refusal e fixed_mine journal h) (no_journal fixed_mine (record { holds = holds; ordered = is.graph }) h)

-- the end of a run
pub reported_or_not :
    (files : Files) (journal : Reading) (fixed_mine : FixedInstance) (end : Replayed) (before after : Progress) (r : Result Status Fault) → HoldsMine files fixed_mine → IsInstance fixed_mine.mine
    → IsReplayed fixed_mine journal end → IfOk r (ReportsEnd fixed_mine end before after) → IfErr r (FailsToReport fixed_mine end before after)
    → IfOk r (ReportsReplay files journal before after) × IfErr r (λ e. RefusesReplay e.refusal e files journal before after)
reported_or_not files journal fixed_mine end before after (Ok status) holds is r t n = (reported files journal fixed_mine end status before after holds is r t, tt)
reported_or_not files journal fixed_mine end before after (Err e) holds is r t n = (tt, not_reported files journal fixed_mine end before after e holds is r n)
