-- What the holder of the lock has: the tree of an instance, the journal of what was decided, the budget of mergers, the arcs of
-- the mergers that readers see, for each worker what was answered to it and what is claimed from it, and the cells of the workers whose
-- words it looked at, in order.
use Rattle.std.specs.Prelude.{◌≡◌, ℕ, ◌-◌, ◌==◌, if◌then◌else◌, [], ◌∷◌, ◌++◌, List, Option}
use Rattle.proposals.specs.declared.seat_state.Served.{Served}
use Rattle.proposals.specs.Ledger.{HolderView, reply, answering}
use Rattle.pit_model.specs.declared.journal.Verdict.{Verdict}
use Rattle.pit_model.specs.declared.journal.Entry.{Entry}
use Rattle.pit_model.specs.Mine.{Instance}
use Rattle.pit_model.specs.Tree.{Tree, opening}
use Rattle.pit_model.specs.Journal.{lawful_verdict, tree_after, applied_count}
use Rattle.pit_model.specs.Version.{version_tree, arcs_after}
use Rattle.tree_lock.specs.PublishedJournal.{JournalContents, entry_of}

pub record HolderState : Type 0 where
  pub mine : Instance
  pub tree : Tree
  pub journal : List Entry
  pub budget : Option ℕ
  pub published : List ℕ
  pub seats : List Served
  pub looks : List ℕ

-- the opening tree, with nothing decided yet
abbrev pub opened : Instance → Option ℕ → HolderView → HolderState
opened mine budget seat =
    record { mine = mine; tree = opening mine; journal = []; budget = budget; published = []; seats = seat.served; looks = seat.looks }

-- the contents of a published journal, with the tree of the published mergers and the seat at the board
abbrev pub holder_state : Instance → JournalContents → HolderView → HolderState
holder_state mine kept seat = record {
  mine = mine;
  tree = version_tree mine kept.published;
  journal = kept.journal;
  budget = kept.budget;
  published = kept.published;
  seats = seat.served;
  looks = seat.looks;
}

-- what is to be decided of an arc now
abbrev pub verdict_on : HolderState → ℕ → Verdict
verdict_on now arc = lawful_verdict now.mine now.budget now.tree (applied_count now.journal) arc

-- an entry under a worker's seat is answered to it; seat 0 is the driver's, to which nothing is answered
abbrev pub seats_after : List Served → Entry → List Served
seats_after seats entry =
    if entry.seat == 0 then seats else answering seats (entry.seat - 1) (reply entry.arc entry.verdict)

-- after one more entry: an applied arc is merged over and published, and what was decided is answered
abbrev pub with_entry : HolderState → Entry → HolderState
with_entry before entry = record {
  mine = before.mine;
  tree = tree_after before.mine before.tree entry;
  journal = before.journal ++ entry ∷ [];
  budget = before.budget;
  published = arcs_after before.published entry;
  seats = seats_after before.seats entry;
  looks = before.looks;
}

-- after a look at the word of one worker more, at its cell
abbrev pub with_look : HolderState → ℕ → HolderState
with_look before cell = record {
  mine = before.mine;
  tree = before.tree;
  journal = before.journal;
  budget = before.budget;
  published = before.published;
  seats = before.seats;
  looks = before.looks ++ cell ∷ [];
}

-- an arc was decided for a seat, as is lawful
abbrev pub DecidesFor : ℕ → ℕ → HolderState → HolderState → Verdict → Type 0
DecidesFor seat arc old new verdict = (verdict ≡ verdict_on old arc) × (new ≡ with_entry old (entry_of seat arc verdict))

-- and for the driver, which has seat 0
abbrev pub Decides : ℕ → HolderState → HolderState → Verdict → Type 0
Decides arc old new verdict = DecidesFor 0 arc old new verdict
