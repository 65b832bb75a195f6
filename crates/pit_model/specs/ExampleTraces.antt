-- What mergers make of the forks, merger by merger, worked out by hand; and which journals over them are lawful. A definition
-- of the tree, of the merger or of the journal with a sign, a comparison or a number changed makes one of these false.
use Rattle.std.specs.Prelude.{◌≡◌, ℕ, ℤ, pos, neg_ℤ, List, [], ◌∷◌, length, Option, Some, None, map}
use Rattle.std.specs.List.{range_with_len}
use Rattle.pit_model.specs.declared.journal.Verdict.{Verdict}
use Rattle.pit_model.specs.declared.journal.Verdict.TheVariants.{Applied, Stale, Spent}
use Rattle.pit_model.specs.declared.journal.Entry.{Entry}
use Rattle.pit_model.specs.Mine.{Instance, arcs, members}
use Rattle.pit_model.specs.Flow.{excess}
use Rattle.pit_model.specs.Tree.{Tree, flow, is_strong, is_merger, opening}
use Rattle.pit_model.specs.Merger.{carried, merged, merger_path}
use Rattle.pit_model.specs.Rank.{positive_worth, rank}
use Rattle.pit_model.specs.Journal.{AreSeated, IsLawful, applied_count, replay}
use Rattle.pit_model.specs.FirstRun.{first_merger, first_run}
use Rattle.pit_model.specs.Replay.{DiffersAt, IsOpenAt, IsComplete, IsSpentAt}
use Rattle.pit_model.specs.Version.{IsVersion, applied_arcs}
use Rattle.pit_model.specs.ExampleMines.{cut_fork, kept_fork, split_fork}

abbrev pub example_tree : List (Option ℕ) → List ℤ → Tree
example_tree parents flows = record { parents = parents; flows = flows }

-- what is seen of a tree: its excesses, block by block, its strong blocks, its merger arcs, and its rank
pub record HasReadings (mine : Instance) (tree : Tree) (excesses : List ℤ) (strong mergers : List ℕ) (its_rank : ℕ) : Type 0 where
  pub excesses_are : map (excess mine (flow tree)) (range_with_len 0 mine.blocks) ≡ excesses
  pub strong_are : members mine.blocks (is_strong mine tree) ≡ strong
  pub mergers_are : members (arcs mine) (is_merger mine tree) ≡ mergers
  pub rank_is : rank mine tree ≡ pos its_rank

-- the path of a merger, what it carries into each place of it, and the tree that it gives
pub record Merges (mine : Instance) (tree : Tree) (arc : ℕ) (path : List ℕ) (amounts : List ℤ) (after : Tree) : Type 0 where
  pub path_is : merger_path mine tree arc ≡ path
  pub amounts_are : map (carried mine tree path) (range_with_len 0 (length path)) ≡ amounts
  pub gives : merged mine tree arc ≡ after

-- of values 1, -2, 5, -2: at first arc 0, then arc 2, since block 0 is weak; then arc 1, over which 1 can go and 3 stays behind
abbrev pub cut_once : Tree
cut_once = example_tree (Some 1 ∷ None ∷ None ∷ None ∷ []) (pos 1 ∷ pos 0 ∷ pos 0 ∷ [])

abbrev pub cut_twice : Tree
cut_twice = example_tree (Some 1 ∷ None ∷ Some 1 ∷ None ∷ []) (pos 1 ∷ pos 0 ∷ pos 5 ∷ [])

abbrev pub cut_last : Tree
cut_last = example_tree (Some 3 ∷ None ∷ Some 1 ∷ None ∷ []) (pos 0 ∷ pos 1 ∷ pos 5 ∷ [])

-- the law: so the first trace goes
pub record CutTrace : Type 0 where
  pub opens : HasReadings cut_fork (opening cut_fork) (pos 1 ∷ neg_ℤ (pos 2) ∷ pos 5 ∷ neg_ℤ (pos 2) ∷ []) (0 ∷ 2 ∷ []) (0 ∷ 1 ∷ 2 ∷ []) 32
  pub first : Merges cut_fork (opening cut_fork) 0 (0 ∷ 1 ∷ []) (pos 1 ∷ pos 1 ∷ []) cut_once
  pub once : HasReadings cut_fork cut_once (pos 0 ∷ neg_ℤ (pos 1) ∷ pos 5 ∷ neg_ℤ (pos 2) ∷ []) (2 ∷ []) (2 ∷ []) 28
  pub second : Merges cut_fork cut_once 2 (2 ∷ 1 ∷ []) (pos 5 ∷ pos 5 ∷ []) cut_twice
  pub twice : HasReadings cut_fork cut_twice (pos 0 ∷ pos 4 ∷ pos 0 ∷ neg_ℤ (pos 2) ∷ []) (0 ∷ 1 ∷ 2 ∷ []) (1 ∷ []) 21
  pub third : Merges cut_fork cut_twice 1 (1 ∷ 0 ∷ 3 ∷ []) (pos 4 ∷ pos 1 ∷ pos 1 ∷ []) cut_last
  pub last : HasReadings cut_fork cut_last (pos 0 ∷ pos 3 ∷ pos 0 ∷ neg_ℤ (pos 1) ∷ []) (1 ∷ 2 ∷ []) [] 17

-- of values 4, -2, 5, -2: arcs 0 and 1, after which the branch of blocks 0, 1 and 3 has an excess of zero, so that it is weak
-- again; then arc 2, over which 5 goes to block 1, 3 stays there, and 2 go on
abbrev pub split_once : Tree
split_once = example_tree (Some 1 ∷ None ∷ None ∷ None ∷ []) (pos 4 ∷ pos 0 ∷ pos 0 ∷ [])

abbrev pub split_twice : Tree
split_twice = example_tree (Some 3 ∷ Some 0 ∷ None ∷ None ∷ []) (pos 2 ∷ pos 2 ∷ pos 0 ∷ [])

abbrev pub split_last : Tree
split_last = example_tree (Some 3 ∷ None ∷ Some 1 ∷ None ∷ []) (pos 0 ∷ pos 4 ∷ pos 5 ∷ [])

-- the law: so the second trace goes
pub record SplitTrace : Type 0 where
  pub first : Merges split_fork (opening split_fork) 0 (0 ∷ 1 ∷ []) (pos 4 ∷ pos 4 ∷ []) split_once
  pub once : HasReadings split_fork split_once (pos 0 ∷ pos 2 ∷ pos 5 ∷ neg_ℤ (pos 2) ∷ []) (0 ∷ 1 ∷ 2 ∷ []) (1 ∷ []) 36
  pub second : Merges split_fork split_once 1 (1 ∷ 0 ∷ 3 ∷ []) (pos 2 ∷ pos 2 ∷ pos 2 ∷ []) split_twice
  pub twice : HasReadings split_fork split_twice (pos 0 ∷ pos 0 ∷ pos 5 ∷ pos 0 ∷ []) (2 ∷ []) (2 ∷ []) 28
  pub third : Merges split_fork split_twice 2 (2 ∷ 1 ∷ 0 ∷ 3 ∷ []) (pos 5 ∷ pos 5 ∷ pos 2 ∷ pos 2 ∷ []) split_last
  pub last : HasReadings split_fork split_last (pos 0 ∷ pos 3 ∷ pos 0 ∷ pos 2 ∷ []) (0 ∷ 1 ∷ 2 ∷ 3 ∷ []) [] 25

-- of values 4, -2, 2, -2: the third merger meets a residual equal to what it carries, and the link stays
abbrev pub kept_last : Tree
kept_last = example_tree (Some 3 ∷ Some 0 ∷ Some 1 ∷ None ∷ []) (pos 0 ∷ pos 4 ∷ pos 2 ∷ [])

-- the law: so the third trace ends
pub record KeptTrace : Type 0 where
  pub third : Merges kept_fork split_twice 2 (2 ∷ 1 ∷ 0 ∷ 3 ∷ []) (pos 2 ∷ pos 2 ∷ pos 2 ∷ pos 2 ∷ []) kept_last
  pub last : HasReadings kept_fork kept_last (pos 0 ∷ pos 0 ∷ pos 0 ∷ pos 2 ∷ []) (0 ∷ 1 ∷ 2 ∷ 3 ∷ []) [] 10

-- the law: the first run takes arcs 0, 2 and 1, and stays where it ends; six mergers are worth 32 at most by the bound
pub record RunOfCutFork : Type 0 where
  pub first : first_merger cut_fork (opening cut_fork) ≡ Some 0
  pub then : first_merger cut_fork cut_once ≡ Some 2
  pub last : first_merger cut_fork cut_twice ≡ Some 1
  pub end : first_merger cut_fork cut_last ≡ None
  pub twice : first_run cut_fork 2 ≡ cut_twice
  pub ended : first_run cut_fork 3 ≡ cut_last
  pub stays : first_run cut_fork 4 ≡ cut_last
  pub positive : positive_worth cut_fork ≡ pos 6
  pub version : IsVersion cut_fork cut_twice (0 ∷ 2 ∷ [])

abbrev pub journal_entry : ℕ → ℕ → Verdict → Entry
journal_entry seat arc verdict = record { seat = seat; arc = arc; verdict = verdict }

-- three workers who ask each for an arc, twice: some arcs are no merger arcs any more, and one is a merger arc again
abbrev pub crowd : List Entry
crowd = journal_entry 1 0 Applied ∷ journal_entry 2 0 Stale ∷ journal_entry 3 2 Stale ∷ journal_entry 1 1 Applied ∷ journal_entry 2 2 Applied ∷ journal_entry 3 2 Stale ∷ []

-- the same under a budget of 1: of an arc that is no merger arc the verdict is Stale, though the budget is used up
abbrev pub spent_crowd : List Entry
spent_crowd = journal_entry 1 0 Applied ∷ journal_entry 2 0 Stale ∷ journal_entry 3 2 Stale ∷ journal_entry 1 1 Spent ∷ journal_entry 2 2 Stale ∷ journal_entry 3 2 Stale ∷ []

-- the law: so journals are judged, replayed and counted
pub record JournalsOfForks : Type 0 where
  pub settles : IsComplete split_fork None crowd
  pub replayed : replay split_fork crowd ≡ split_last
  pub counted : applied_count crowd ≡ 3
  pub listed : applied_arcs crowd ≡ 0 ∷ 1 ∷ 2 ∷ []
  pub seated : AreSeated split_fork 3 (journal_entry 3 2 Stale ∷ [])
  pub no_seat_behind : AreSeated split_fork 3 (journal_entry 4 2 Stale ∷ []) → ⊥
  pub no_arc_behind : AreSeated split_fork 3 (journal_entry 3 3 Stale ∷ []) → ⊥
  pub spends : IsSpentAt split_fork (Some 1) spent_crowd 1
  pub spent_replayed : replay split_fork spent_crowd ≡ split_once
  pub within : IsLawful split_fork (Some 3) crowd
  pub opens : IsOpenAt split_fork None (journal_entry 1 0 Applied ∷ journal_entry 2 2 Stale ∷ journal_entry 1 1 Applied ∷ []) 2
  pub not_open : IsOpenAt split_fork (Some 1) spent_crowd 1 → ⊥
  pub not_spent_at_its_end : IsSpentAt split_fork (Some 3) crowd 3 → ⊥
  pub differs : DiffersAt cut_fork None (journal_entry 1 0 Applied ∷ journal_entry 2 2 Stale ∷ journal_entry 1 1 Applied ∷ []) 2
  pub not_late : IsLawful split_fork (Some 2) crowd → ⊥
  pub not_spent : IsLawful split_fork (Some 1) (journal_entry 1 0 Applied ∷ journal_entry 2 2 Spent ∷ []) → ⊥

-- the law: the traces, and the run of the first
pub record TracesOfForks : Type 0 where
  pub cuts : CutTrace
  pub splits : SplitTrace
  pub keeps : KeptTrace
  pub runs : RunOfCutFork
