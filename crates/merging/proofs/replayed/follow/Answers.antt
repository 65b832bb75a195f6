use Rattle.std.proofs.Common.{refl, arith}
use Rattle.merging.proofs.Following.{follows_more, differs_here}
use Rattle.merging.proofs.replayed.follow.Goals as goal

pub decide_again-requires : goal.decide_again-requires
decide_again-requires c = let most = c.loop-i.invariant.most in let inside = c.loop-i-test.true in omega arith

pub returns-in-None-clause-differs : goal.returns-in-None-clause-differs
returns-in-None-clause-differs c =
    differs_here c.args.tree.now.mine c.args.budget c.args.entries.now c.loop-i.i c.loop-i.tree c.loop-i.made c.loop-i.invariant _ c.loop-i-test.true (c.in-None.ensures.differs refl)

pub loop-i-preserved : goal.loop-i-preserved
loop-i-preserved c =
    follows_more c.args.tree.now.mine c.args.budget c.args.entries.now c.loop-i.i c.loop-i.tree c.loop-i.made c.loop-i.invariant
    _ c.decide_again.new.tree c.in-Some.count c.loop-i-test.true (c.in-Some.ensures.lawful refl) c.in-Some.ensures.mine (c.in-Some.ensures.after refl) c.in-Some.ensures.counted
