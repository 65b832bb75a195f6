-- What the replay of a journal gives.
use Rattle.std.specs.Prelude.{◌≡◌, ℕ, List, Option, Some, false}
use Rattle.pit_model.specs.declared.journal.Entry.{Entry}
use Rattle.pit_model.specs.FirstRun.{HasMerger, HasNoMerger}
use Rattle.pit_model.specs.Journal.{is_used_up}
use Rattle.pit_model.specs.Mine.{Instance}
use Rattle.pit_model.specs.Tree.{MineTree}
use Rattle.pit_model.specs.Replay.{DiffersAt, IsComplete, IsSpentAt, IsOpenAt}
use Rattle.pit_model.specs.declared.direction.Direction.TheVariants.{Least}
use Rattle.pit_model.specs.Pit.{ListsPit, no_blocks_fixed}
use Rattle.merging.specs.declared.replayed.Replayed.{Replayed}
use Rattle.merging.specs.declared.replayed.Replayed.TheVariants.{Pit, Differs, Exhausted, Open}

-- how the replay of a journal under a budget ends; at its end without a merger arc left, the blocks are the pit
abbrev pub EndsReplay : Instance → Option ℕ → List Entry → Replayed → Type 0
EndsReplay mine budget journal (Pit pit) = IsComplete mine budget journal × ListsPit Least mine no_blocks_fixed pit.items
EndsReplay mine budget journal (Differs k) = DiffersAt mine budget journal k
EndsReplay mine budget journal (Exhausted count) = IsSpentAt mine budget journal count
EndsReplay mine budget journal (Open count) = IsOpenAt mine budget journal count

-- what a tree says of the end of a replay, after so many mergers under a budget
abbrev pub EndsAt : MineTree → Option ℕ → ℕ → Replayed → Type 0
EndsAt tree budget made (Pit pit) = HasNoMerger tree.mine tree.tree × ListsPit Least tree.mine no_blocks_fixed pit.items
EndsAt tree budget made (Differs k) = ⊥
EndsAt tree budget made (Exhausted count) = HasMerger tree.mine tree.tree × (budget ≡ Some count) × (made ≡ count)
EndsAt tree budget made (Open count) = HasMerger tree.mine tree.tree × (is_used_up budget count ≡ false) × (made ≡ count)
