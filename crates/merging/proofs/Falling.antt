-- Where a merger lowers the rank of a tree, its size falls, so mergers end.
use Rattle.std.specs.Prelude.{ℤ, pos, negsuc, ◌≤ℤ◌, ◌<ℤ◌, unsigned_abs}
use Rattle.std.proofs.Common.{◌<◌, arith}
use Rattle.std.proofs.lemmas.Int.{ints}
use Rattle.pit_model.specs.Limits.{IsInstance}
use Rattle.pit_model.specs.Tree.{MineTree, IsNormalised}
use Rattle.pit_model.specs.Rank.{rank}
use Rattle.pit_model.proofs.Simple.{instance_is_simple}
use Rattle.pit_model.proofs.RankBound.{rank_is_bounded}
use Rattle.merging.specs.Solved.{IsLower}

-- the rank of a normalised tree is not negative, so where it falls its size falls
abs_falls : (x y : ℤ) → pos 0 ≤ℤ x → x <ℤ y → unsigned_abs x < unsigned_abs y
abs_falls (pos a) (pos b) least less = omega (arith, ints)
abs_falls (pos a) (negsuc b) least less = absurd (omega (arith, ints))
abs_falls (negsuc a) y least less = absurd (omega (arith, ints))

pub rank_falls : (new old : MineTree) → IsInstance new.mine → IsNormalised new.mine new.tree → IsLower new old → unsigned_abs (rank new.mine new.tree) < unsigned_abs (rank old.mine old.tree)
rank_falls new old is good lower =
    abs_falls (rank new.mine new.tree) (rank old.mine old.tree) (rank_is_bounded new.mine new.tree (instance_is_simple new.mine is) good).0 lower
