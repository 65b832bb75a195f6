-- Where all pairs lead to lower numbers the number is a height, and where all lead to higher ones it is n less the number. Otherwise
-- nothing is left over along the pairs as they lie.
use Rattle.std.proofs.Common.{◌≡◌, ℕ, ◌-◌, ◌<◌, get_or, length, subst, arith}
use Rattle.mine_graph.proofs.Made.{acyclic_as_they_lie}
use Rattle.mine_graph.proofs.no_cycle.check_acyclic.Goals as goal
use Rattle.mine_graph.proofs.no_cycle.check_acyclic.Goals.{then-need_lower-via-then-need_lower, then-need_lower-via-else-need_lower+then-need_higher}

pub returns-then-need_lower-clause-acyclic : goal.returns-then-need_lower-clause-acyclic
returns-then-need_lower-clause-acyclic c = elim c.then-need_lower.branch [
  | then-need_lower-via-then-need_lower w ↦ (λ u. u, c.need_lower.ensures.0 w.if-need_lower.true)
  | then-need_lower-via-else-need_lower+then-need_higher w ↦ (
    λ u. c.args.n - u,
    λ k l. let range = c.requires.range k l in let up = w.need_higher.ensures.0 w.if-need_higher.true k l in omega (arith, range.0, range.1, up),
  )
]

pub returns-in-None-clause-acyclic : goal.returns-in-None-clause-acyclic
returns-in-None-clause-acyclic c =
    acyclic_as_they_lie c.args.rows.now.pairs c.in_ok-left.left.items c.args.n c.requires.range c.in_ok-left.ensures.count c.in_ok-left.ensures.settled
    (subst (λ l. (u : ℕ) → u < length l → get_or l u 0 ≡ 0) c.deref.ensures.value c.in-None.ensures.none)
