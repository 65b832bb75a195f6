-- The journal that a solve wrote has one replay: it ends as the solve did.
use Rattle.std.proofs.Common.{◌≡◌, ℕ, zero, suc, ◌≤◌, refl, sym, ap, subst, ◌∙◌, arith, List, [], ◌∷◌, take, Option}
use Rattle.std.proofs.lemmas.Bool.{false≢true}
use Rattle.std.proofs.lemmas.List.{append_cancel_left}
use Rattle.minelib_reader.specs.Device.{Progress}
use Rattle.minelib_reader.specs.Text.{rows_of, count_of_lines}
use Rattle.minelib_reader.proofs.CheckLemmas.{same_value}
use Rattle.pit_model.specs.declared.journal.Entry.{Entry}
use Rattle.pit_model.specs.Graph.{Graph}
use Rattle.pit_model.specs.Mine.{Instance}
use Rattle.pit_model.specs.Tree.{Tree, opening}
use Rattle.pit_model.specs.Journal.{tree_after, count_after, IsLawful, IsLawfulFrom}
use Rattle.pit_model.specs.Replay.{DiffersAt, IsComplete}
use Rattle.report.specs.JournalLines.{BudgetAndEntries, budget_and_entries}
use Rattle.report.specs.JournalGrammar.{SpellsJournal}
use Rattle.report.proofs.JournalRead as journals
use Rattle.merging.specs.Parts.{graph_of_instance}
use Rattle.solver.specs.declared.mode.Mode.{Mode}
use Rattle.solver.specs.declared.mode.Mode.TheVariants.{Single, Parts, Shared}
use Rattle.pit_model.specs.declared.direction.Direction.TheVariants.{Least}
use Rattle.pit_model.specs.Fixed.{IsRestOf}
use Rattle.pit_model.proofs.OneRest.{rest_is_one}
use Rattle.commands.specs.Solve.{Files, FixedInstance, Reading, IsDone, fixed_in}
use Rattle.commands.specs.Journaled.{GaveRest, JournalEnd, SaysJournal, IsJournaled}
use Rattle.commands.specs.Replay.{GaveJournal, AnswersJournal, settled, differs, unfinished}
use Rattle.commands.specs.Uniqueness.{GaveTaken, ReadAlike, PassesReplay}
use Rattle.commands.specs.declared.status.Status.{Status}
use Rattle.commands.specs.declared.status.Status.TheVariants.{Done}
use Rattle.commands.proofs.Uniqueness.{given_once, mine_in_order, solves_once}

pub journal_once : (graph : Graph) (text : List ℕ) (j k : BudgetAndEntries) → SpellsJournal graph text j → SpellsJournal graph text k → j ≡ k
journal_once graph text j k s t =
    same_value j k (sym (journals.reads graph (count_of_lines text) (rows_of text) j s) ∙ journals.reads graph (count_of_lines text) (rows_of text) k t)

-- the first entries of a lawful journal are lawful
lawful_front : (mine : Instance) (budget : Option ℕ) (tree : Tree) (made k : ℕ) (journal : List Entry) → IsLawfulFrom mine budget tree made journal → IsLawfulFrom mine budget tree made (take k journal)
lawful_front mine budget tree made zero journal lawful = tt
lawful_front mine budget tree made (suc k) [] lawful = tt
lawful_front mine budget tree made (suc k) (entry ∷ others) lawful = (lawful.0, lawful_front mine budget (tree_after mine tree entry) (count_after made entry) k others lawful.1)

take_front : (k l : ℕ) (journal : List Entry) → k ≤ l → take k (take l journal) ≡ take k journal
take_front zero l journal le = refl
take_front (suc k) zero journal le = absurd (omega arith)
take_front (suc k) (suc l) [] le = refl
take_front (suc k) (suc l) (entry ∷ others) le = ap (λ (es : List Entry). entry ∷ es) (take_front k l others (omega arith))

-- and so are fewer of them
pub lawful_take : (mine : Instance) (budget : Option ℕ) (journal : List Entry) (k l : ℕ) → k ≤ l → IsLawful mine budget (take l journal) → IsLawful mine budget (take k journal)
lawful_take mine budget journal k l le lawful =
    subst (IsLawful mine budget) (take_front k l journal le) (lawful_front mine budget (opening mine) 0 k (take l journal) lawful)

pub no_difference : (mine : Instance) (budget : Option ℕ) (journal : List Entry) (k : ℕ) → IsLawful mine budget journal → DiffersAt mine budget journal k → ⊥
no_difference mine budget journal k lawful d = d.differs (lawful_front mine budget (opening mine) 0 k journal lawful)

-- what a journal's text says of the rest of the mine that the readers gave, whoever reads it
module _ (files other : Files) (journal : Reading) (same : ReadAlike files other) where
  -- the rest is one
  pub rest_once : (m n : Instance) → GaveRest files m → GaveRest other n → m ≡ n
  rest_once m n one two =
      let fixed_mine = mine_in_order files other same one.0 two.0 one.1.holds.gave two.1.holds.gave in
      rest_is_one two.0.mine (fixed_in two.0) m n (subst (λ (t : FixedInstance). IsRestOf t.mine (fixed_in t) m) fixed_mine one.2) two.2

  said_so :
      (Ends : JournalEnd) (mode : Mode) (rest behind_rest : Instance) (text behind : List ℕ) (said : BudgetAndEntries) → GaveRest files rest → GaveRest other behind_rest
      → text ≡ behind → SaysJournal Ends mode rest text → SpellsJournal (graph_of_instance behind_rest) behind said → Ends behind_rest said.budget said.entries
  said_so Ends (Shared workers budget chunk) rest behind_rest text behind said one two is says spelled =
      let alike = rest_once rest behind_rest one two in
      let here = subst (λ m. SpellsJournal (graph_of_instance m) behind (budget_and_entries budget says.0)) alike (subst (λ t. SpellsJournal (graph_of_instance rest) t (budget_and_entries budget says.0)) is says.1) in
      let j = journal_once (graph_of_instance behind_rest) behind (budget_and_entries budget says.0) said here spelled in
      subst (λ (x : BudgetAndEntries). Ends behind_rest x.budget x.entries) j (subst (λ m. Ends m budget says.0) alike says.3)
  said_so Ends (Single budget) rest behind_rest text behind said one two is says spelled = absurd says
  said_so Ends Parts rest behind_rest text behind said one two is says spelled = absurd says

  -- the text that went to the writer is the one that was given
  pub taken_so : (Ends : JournalEnd) (mode : Mode) (before after : Progress) (rest : Instance) (said : BudgetAndEntries) → GaveTaken journal before after → IsJournaled Ends mode files before after
      → GaveRest other rest → GaveJournal rest journal said → Ends rest said.budget said.entries
  taken_so Ends mode before after rest said taken wrote two given =
      let text : wrote.text ≡ given.text = append_cancel_left before.bytes wrote.text taken.text (sym wrote.wrote.0 ∙ taken.taken) ∙ given_once journal taken.text given.text taken.given given.given in
      said_so Ends mode wrote.rest rest wrote.text given.text said wrote.given two text wrote.says given.spelled

settles : (fixed_mine : FixedInstance) (mine : Instance) (said : BudgetAndEntries) (text : List ℕ) (status : Status) → IsComplete mine said.budget said.entries → AnswersJournal fixed_mine mine said text status → status ≡ Done
settles fixed_mine mine said text status s (settled t is_text done) = done
settles fixed_mine mine said text status s (differs k d is_text negative) = absurd (no_difference mine said.budget said.entries k s.lawful d)
settles fixed_mine mine said text status s (unfinished count o is_text negative) = absurd (false≢true (sym (s.none_left o.left.0) ∙ o.left.1))

pub passes_replay : (files other : Files) (journal : Reading) → PassesReplay files other journal
passes_replay files other journal mode before after pit_before pit_after other_before other_after status other_status same taken wrote done reported =
    let r = reported.replays in
    let s = taken_so files other journal same IsComplete mode before after r.rest r.said taken wrote (r.fixed_mine, r.given, r.is_rest) r.journal_given in
    let is_done = settles r.fixed_mine r.rest r.said reported.text other_status s r.answers in
    let two : IsDone Least other other_before other_after other_status = record { done = is_done; text = reported.text; solves = r.solves is_done; wrote = reported.wrote } in
    (solves_once files other Least pit_before pit_after other_before other_after status other_status same done two, is_done ∙ sym done.done)
