use Rattle.optimality.specs.Check.{BlocksAllow}
use Rattle.optimality.proofs.conditions.blocks_allow.Given as goal

abbrev pub invariant-loop-u : goal.invariant-loop-u
invariant-loop-u l = BlocksAllow l.fixed l.excesses l.inside l.reached l.u
