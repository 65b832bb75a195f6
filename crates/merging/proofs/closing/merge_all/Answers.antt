-- A merger over a merger arc lowers the rank.
use Rattle.std.proofs.Common.{◌∙◌}
use Rattle.merging.proofs.Falling.{rank_falls}
use Rattle.merging.proofs.closing.merge_all.Goals as goal

pub mergers-smaller : goal.mergers-smaller
mergers-smaller c = rank_falls c.try_merge.new.self c.mergers.tree c.law.ensures.instance c.law.ensures.normalised (c.try_merge.ensures.lower (c.try_merge.ensures.exact ∙ c.in-Some.ensures.merger))
