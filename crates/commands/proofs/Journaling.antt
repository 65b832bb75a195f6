-- The journal of a solve, once written, is one that ends as the solve did; so it is where a beginning was.
use Rattle.std.proofs.Common.{◌≡◌, ℕ, ◌≤◌, List, inl, inr, ⊎_elim, refl, sym, subst, arith}
use Rattle.std.specs.Prelude.{Option, Some, Result, Ok, Err, IfOk, IfErr}
use Rattle.minelib_reader.specs.Device.{Progress, Writes}
use Rattle.faults.specs.Refused.{write_failed}
use Rattle.faults.specs.declared.fault.Fault.{Fault}
use Rattle.faults.specs.declared.refusal.Refusal.{Refusal}
use Rattle.faults.specs.declared.refusal.Refusal.TheVariants.{NoMemory, WriteFailed}
use Rattle.pit_model.specs.declared.journal.Entry.{Entry}
use Rattle.pit_model.specs.Graph.{Graph}
use Rattle.pit_model.specs.Mine.{Instance, arcs}
use Rattle.pit_model.specs.Fixed.{IsFixedRest, IsRestOf, some_fixed, fixed_of, graph_of_mine, mine_among}
use Rattle.pit_model.specs.Journal.{AreSeated}
use Rattle.pit_model.specs.JournalText.{most_seat, AreSeatedBelow}
use Rattle.pit_model.proofs.OneRest.{rest_is_one}
use Rattle.mine_graph.specs.FixedBlocks.{FixedBlocks, forced_closure, barred_closure, no_lists}
use Rattle.report.specs.JournalGrammar.{SpellsJournal}
use Rattle.report.specs.JournalLines.{budget_and_entries}
use Rattle.merging.specs.Parts.{graph_of_instance}
use Rattle.merging.specs.declared.outcome.Outcome.{Outcome}
use Rattle.merging.specs.declared.outcome.Outcome.TheVariants as outcomes
use Rattle.solver.specs.declared.mode.Mode.{Mode}
use Rattle.solver.specs.declared.mode.Mode.TheVariants.{Single, Parts, Shared}
use Rattle.solver.specs.Modes.{EndsIn}
use Rattle.solver.specs.Searched.{EndsFixed, IsLiftedOutcome}
use Rattle.pit_search.proofs.Searching.{named_block}
use Rattle.commands.specs.Solve.{Files, FixedInstance, HoldsMine, fixed_in}
use Rattle.commands.specs.Chosen.{Chosen, OfWriter, OfWriterIfAny}
use Rattle.commands.specs.Journaled.{JournalEnd, AtBudget, EndOf, AtAnyEnd, MayPutEntries, PutsEntries, RefusesEntries, SaysJournal, WritesJournal, PutsJournal, IsJournaled, IsJournalCut}
use Rattle.commands.specs.Run.{RefusesOutcome}
use Rattle.commands.proofs.Certifying.{of_states}

-- the journal of workers ends as their outcome says
ends_so : (rest : Instance) (workers chunk : ℕ) (budget : Option ℕ) (found : Outcome) (entries : List Entry) → EndsIn (Shared workers budget chunk) rest found entries → EndOf found rest budget entries
ends_so rest workers chunk budget (outcomes.Pit certificate) entries solved = record { lawful = solved.0.lawful; none_left = solved.0.ends.1 }
ends_so rest workers chunk budget (outcomes.Exhausted count) entries solved = record { lawful = solved.0.lawful; left = solved.0.ends.2; allowed = solved.0.ends.0; made = solved.0.ends.1 }

-- and so as the outcome by the numbers of the whole
ends_lifted : (fixed_mine : FixedInstance) (rest : Instance) (budget : Option ℕ) (entries : List Entry) (found outcome : Outcome) → IsLiftedOutcome fixed_mine.mine (fixed_in fixed_mine) found outcome → EndOf found rest budget entries → EndOf outcome rest budget entries
ends_lifted fixed_mine rest budget entries (outcomes.Pit found) (outcomes.Pit certificate) lifted ends = ends
ends_lifted fixed_mine rest budget entries (outcomes.Exhausted count) (outcomes.Exhausted other) lifted ends = subst (λ n. AtBudget n rest budget entries) (sym lifted) ends
ends_lifted fixed_mine rest budget entries (outcomes.Pit found) (outcomes.Exhausted other) lifted ends = absurd lifted
ends_lifted fixed_mine rest budget entries (outcomes.Exhausted count) (outcomes.Pit certificate) lifted ends = absurd lifted

-- each end is one of the two
says_any : (outcome : Outcome) (mode : Mode) (mine : Instance) (text : List ℕ) → SaysJournal (EndOf outcome) mode mine text → SaysJournal AtAnyEnd mode mine text
says_any (outcomes.Pit certificate) (Shared workers budget chunk) mine text says = (says.0, says.1, says.2, inl says.3)
says_any (outcomes.Exhausted count) (Shared workers budget chunk) mine text says = (says.0, says.1, says.2, inr (count, says.3))
says_any outcome (Single budget) mine text says = absurd says
says_any outcome Parts mine text says = absurd says

-- the seats of workers are among those that a journal may name
seated_below : (rest : Instance) (workers : ℕ) (entries : List Entry) → workers ≤ most_seat → AreSeated rest workers entries → AreSeatedBelow (arcs rest) entries
seated_below rest workers entries few seated i d l = let at = seated i d l in (omega (arith, at.0), at.1)

-- the part of the open blocks is the rest
pub part_is_rest :
    (mine : Instance) (fixed : FixedBlocks) (whole : Graph) (blocks : List ℕ) (part : Graph) → whole ≡ graph_of_mine mine → (fixed.lists ≡ no_lists → ⊥)
    → IsFixedRest whole (fixed_of fixed.lists) (forced_closure fixed) (barred_closure fixed) blocks part → IsRestOf mine (fixed_of fixed.lists) (mine_among mine blocks part)
part_is_rest mine fixed whole blocks part same some is =
    let named = named_block fixed.lists.forced fixed.lists.barred some in
    some_fixed named.0 named.1 (forced_closure fixed) (barred_closure fixed) blocks part (subst (λ (g : Graph). IsFixedRest g (fixed_of fixed.lists) (forced_closure fixed) (barred_closure fixed) blocks part) same is) refl

-- entries that can be written of one rest can be of the other, which is the same
pub seated_there : (fixed_mine : FixedInstance) (entries : List Entry) (other : Instance) → MayPutEntries fixed_mine entries → IsRestOf fixed_mine.mine (fixed_in fixed_mine) other → AreSeatedBelow (arcs other) entries
seated_there fixed_mine entries other may is = subst (λ (m : Instance). AreSeatedBelow (arcs m) entries) (rest_is_one fixed_mine.mine (fixed_in fixed_mine) may.0 other may.1 is) may.2

-- the text of entries that goes to a writer is one of the rest whose graph it names
pub puts_entries :
    (fixed_mine : FixedInstance) (budget : Option ℕ) (entries : List Entry) (rest : Instance) (graph : Graph) (text : List ℕ) (before after : Progress) (answer : Result (Unit {0}) Fault)
    → IsRestOf fixed_mine.mine (fixed_in fixed_mine) rest → graph ≡ graph_of_instance rest → SpellsJournal graph text (budget_and_entries budget entries)
    → Writes before after text answer → IfErr answer (λ e. e ≡ write_failed)
    → IfOk answer (λ x. PutsEntries fixed_mine budget entries before after (Ok x)) × IfErr answer (λ e. RefusesEntries fixed_mine budget entries e.refusal e before after)
puts_entries fixed_mine budget entries rest graph text before after (Ok x) is same spelled writes refused =
    (record { rest = rest; is_rest = is; text = text; spelled = subst (λ (g : Graph). SpellsJournal g text (budget_and_entries budget entries)) same spelled; writes = writes }, tt)
puts_entries fixed_mine budget entries rest graph text before after (Err e) is same spelled writes refused =
    let put : PutsEntries fixed_mine budget entries before after (Err write_failed) = record {
      rest = rest;
      is_rest = is;
      text = text;
      spelled = subst (λ (g : Graph). SpellsJournal g text (budget_and_entries budget entries)) same spelled;
      writes = writes;
    } in
    (tt, subst (λ f. RefusesEntries fixed_mine budget entries f.refusal f before after) (sym refused) (refl, put))

-- the entries that were written are the journal of a solve that ended so
module _ (fixed_mine : FixedInstance) (workers chunk : ℕ) (budget : Option ℕ) (outcome : Outcome) (entries : List Entry)
    (ended : EndsFixed (Shared workers budget chunk) fixed_mine.mine (fixed_in fixed_mine) outcome entries) where
  abbrev rest : Instance
  rest = ended.0

  pub says_so : (text : List ℕ) (other : Instance) → IsRestOf fixed_mine.mine (fixed_in fixed_mine) other → SpellsJournal (graph_of_instance other) text (budget_and_entries budget entries)
      → SaysJournal (EndOf outcome) (Shared workers budget chunk) other text
  says_so text other is_rest spelled =
      let solved = ended.2.1 in
      let found = ended.2.0 in
      let same = rest_is_one fixed_mine.mine (fixed_in fixed_mine) rest other ended.1 is_rest in (
        entries,
        spelled,
        subst (λ m. AreSeated m workers entries) same solved.0.seated,
        subst (λ m. EndOf outcome m budget entries) same (ends_lifted fixed_mine rest budget entries found outcome ended.2.2 (ends_so rest workers chunk budget found entries solved)),
      )

  pub puts_whole : (before after : Progress) → PutsEntries fixed_mine budget entries before after (Ok tt)
      → PutsJournal (EndOf outcome) (Shared workers budget chunk) fixed_mine (record { before = Some before; after = Some after }) (Ok tt)
  puts_whole before after w = inr (record { rest = w.rest; is_rest = w.is_rest; text = w.text; says = says_so w.text w.rest w.is_rest w.spelled; writes = w.writes })

  any_end : (text : List ℕ) (other : Instance) → SaysJournal (EndOf outcome) (Shared workers budget chunk) other text → SaysJournal AtAnyEnd (Shared workers budget chunk) other text
  any_end text other says = says_any outcome (Shared workers budget chunk) other text says

  pub entries_refused : (r : Refusal) (e : Fault) (before after : Progress) → RefusesEntries fixed_mine budget entries r e before after
      → RefusesOutcome (Shared workers budget chunk) fixed_mine r e (record { before = Some before; after = Some after })
  entries_refused NoMemory e before after h = (h.0, (λ i. Some (h.1 i)))
  entries_refused WriteFailed e before after h =
      let w = h.1 in
      (record { rest = w.rest; is_rest = w.is_rest; text = w.text; says = any_end w.text w.rest (says_so w.text w.rest w.is_rest w.spelled); writes = w.writes }, h.0)
  entries_refused _ e before after h = absurd h

  -- entries of seats and arcs that can be written
  pub may_put : MayPutEntries fixed_mine entries
  may_put = (rest, ended.1, seated_below rest workers entries ended.2.1.1 ended.2.1.0.seated)

-- what went of the entries to a writer went of the journal
pub journal_put :
    (fixed_mine : FixedInstance) (workers chunk : ℕ) (budget : Option ℕ) (outcome : Outcome) (entries written : List Entry) (before after : Progress) (answer : Result (Unit {0}) Fault)
    → EndsFixed (Shared workers budget chunk) fixed_mine.mine (fixed_in fixed_mine) outcome entries → written ≡ entries
    → IfOk answer (λ x. PutsEntries fixed_mine budget written before after (Ok x)) → IfErr answer (λ e. RefusesEntries fixed_mine budget written e.refusal e before after)
    → IfOk answer (λ x. PutsJournal (EndOf outcome) (Shared workers budget chunk) fixed_mine (record { before = Some before; after = Some after }) (Ok x))
    × IfErr answer (λ e. RefusesOutcome (Shared workers budget chunk) fixed_mine e.refusal e (record { before = Some before; after = Some after }))
journal_put fixed_mine workers chunk budget outcome entries written before after (Ok x) ended same put refused =
    (puts_whole fixed_mine workers chunk budget outcome entries ended before after (subst (λ es. PutsEntries fixed_mine budget es before after (Ok tt)) same put), tt)
journal_put fixed_mine workers chunk budget outcome entries written before after (Err e) ended same put refused =
    (tt, entries_refused fixed_mine workers chunk budget outcome entries ended e.refusal e before after (subst (λ es. RefusesEntries fixed_mine budget es e.refusal e before after) same refused))

-- of the mine that the readers gave
journaled_of : (Ends : JournalEnd) (mode : Mode) (files : Files) (fixed_mine : FixedInstance) → HoldsMine files fixed_mine → (before after : Progress) → WritesJournal {E = Fault} Ends mode fixed_mine (Ok tt) before after → IsJournaled Ends mode files before after
journaled_of Ends mode files fixed_mine holds before after w = record {
  rest = w.rest;
  given = (fixed_mine, record { holds = holds; ordered = holds.gave.instance.graph }, w.is_rest);
  text = w.text;
  says = w.says;
  wrote = w.writes;
}

cut_of : (mode : Mode) (files : Files) (fixed_mine : FixedInstance) (e : Fault) → HoldsMine files fixed_mine → (before after : Progress) → WritesJournal {E = Fault} AtAnyEnd mode fixed_mine (Err e) before after → IsJournalCut mode files before after
cut_of mode files fixed_mine e holds before after w = record {
  rest = w.rest;
  given = (fixed_mine, record { holds = holds; ordered = holds.gave.instance.graph }, w.is_rest);
  text = w.text;
  says = w.says;
  wrote = w.writes;
}

pub journaled :
    (Ends : JournalEnd) (mode : Mode) (files : Files) (fixed_mine : FixedInstance) (c : Chosen) → HoldsMine files fixed_mine
    → OfWriterIfAny c (WritesJournal {E = Fault} Ends mode fixed_mine (Ok tt)) → OfWriterIfAny c (IsJournaled Ends mode files)
journaled Ends mode files fixed_mine c holds w = ⊎_elim
    (λ none. inl none)
    (λ wrote. inr (of_states (WritesJournal {E = Fault} Ends mode fixed_mine (Ok tt)) (IsJournaled Ends mode files) (journaled_of Ends mode files fixed_mine holds) c.before c.after wrote))
    w

pub journal_cut :
    (mode : Mode) (files : Files) (fixed_mine : FixedInstance) (e : Fault) (c : Chosen) → HoldsMine files fixed_mine
    → OfWriter c (WritesJournal {E = Fault} AtAnyEnd mode fixed_mine (Err e)) → OfWriter c (IsJournalCut mode files)
journal_cut mode files fixed_mine e c holds wrote =
    of_states (WritesJournal {E = Fault} AtAnyEnd mode fixed_mine (Err e)) (IsJournalCut mode files) (cut_of mode files fixed_mine e holds) c.before c.after wrote
