-- One block more, of positive excess or not.
use Rattle.std.proofs.Common.{ℕ, Bool, get_or, arith, rules}
use Rattle.std.specs.Prelude.{pos, int_lt}
use Rattle.optimality.proofs.Visiting.{visited_more, visited_skip}
use Rattle.optimality.proofs.reach.visit_starts.Goals as goal
use Rattle.optimality.proofs.reach.visit_starts.Goals.{then-excesses-u-gt0, else-excesses-u-gt0}

pub loop-u-preserved : goal.loop-u-preserved
loop-u-preserved c =
    let test : ℕ → Bool = λ x. int_lt (pos 0) (get_or c.args.excesses.now x (pos 0)) in
    let was = c.loop-u.invariant in
    elim c.if-excesses-u-gt0.branch [
      | then-excesses-u-gt0 w ↦ rw w.search-is (visited_more c.args.inside.now test (λ x. x) 0 c.loop-u.u (omega arith) c.args.search.now c.loop-u.search was w.visit.new.search (search rules) (search rules))
      | else-excesses-u-gt0 w ↦ rw w.search-is (visited_skip c.args.inside.now test (λ x. x) 0 c.loop-u.u (omega arith) c.args.search.now c.loop-u.search was (search rules))
    ]
