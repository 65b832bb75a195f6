-- What a solve by one thread gives.
use Rattle.std.specs.Prelude.{◌≡◌, ℕ, Option, Some, None, ◌<ℤ◌}
use Rattle.pit_model.specs.Mine.{Instance}
use Rattle.pit_model.specs.Tree.{MineTree}
use Rattle.pit_model.specs.Rank.{rank}
use Rattle.pit_model.specs.FirstRun.{HasMerger, HasNoMerger, first_run}
use Rattle.optimality.specs.Certificate.{IsCertificateOf}
use Rattle.merging.specs.declared.outcome.Outcome.{Outcome}
use Rattle.merging.specs.declared.outcome.Outcome.TheVariants.{Pit, Exhausted}

-- a tree of lower rank than another
abbrev pub IsLower : MineTree → MineTree → Type 0
IsLower new old = rank new.mine new.tree <ℤ rank old.mine old.tree

-- one thread: without a budget the pit; with one the pit, where the first run has no merger arc left after as many mergers,
-- and else that the budget is used up
abbrev pub IsSolvedAlone : Instance → Option ℕ → Outcome → Type 0
IsSolvedAlone mine None (Pit certificate) = IsCertificateOf mine certificate
IsSolvedAlone mine None (Exhausted count) = ⊥
IsSolvedAlone mine (Some budget) (Pit certificate) = IsCertificateOf mine certificate × HasNoMerger mine (first_run mine budget)
IsSolvedAlone mine (Some budget) (Exhausted count) = (count ≡ budget) × HasMerger mine (first_run mine budget)
