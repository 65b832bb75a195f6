-- Nothing is decided yet, and nothing was answered.
use Rattle.std.proofs.Common.{rules, sym}
use Rattle.tree_lock.proofs.holder.Holder.new.Goals as goal

pub invariant_of-result : goal.invariant_of-result
invariant_of-result g c = rw c.new.ensures (
  record {
    wide = c.requires.fresh.wide;
    answers = λ i. sym (c.requires.fresh.unanswered i);
    unclaimed = c.requires.fresh.unclaimed;
    seated = search rules;
  },
  c.requires.budget,
)
