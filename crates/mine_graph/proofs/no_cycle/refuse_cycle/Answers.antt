-- What a topological order of the transposed pairs leaves over.
use Rattle.std.proofs.Common.{◌≡◌, ℕ, ◌<◌, List, get_or, length, ap, sym, subst, arith, ◌∙◌}
use Rattle.pit_model.specs.Cycle.{IsLargestWithPredecessorInside}
use Rattle.pit_model.specs.Graph.{AreInRange, AreRising}
use Rattle.csr.specs.Left.{left_over}
use Rattle.csr.specs.Transposed.{transposed_pairs}
use Rattle.csr.proofs.Order.{transposed_pairs-count, transposed_pairs-range}
use Rattle.mine_graph.proofs.Made.{over_turned, acyclic_turned}
use Rattle.mine_graph.proofs.no_cycle.refuse_cycle.Goals as goal

pub in_degrees_left-requires-clause-few : goal.in_degrees_left-requires-clause-few
in_degrees_left-requires-clause-few c =
    let is : c.in_ok-transposed.transposed.pairs ≡ transposed_pairs c.args.rows.now.pairs c.args.n = c.in_ok-transposed.ensures.pairs in
    let count = ap (λ (q : List (ℕ × ℕ)). length q) is in
    omega (arith, transposed_pairs-count c.args.rows.now.pairs c.args.n c.requires.range, c.requires.few)

pub in_degrees_left-requires-clause-range : goal.in_degrees_left-requires-clause-range
in_degrees_left-requires-clause-range c =
    let is : c.in_ok-transposed.transposed.pairs ≡ transposed_pairs c.args.rows.now.pairs c.args.n = c.in_ok-transposed.ensures.pairs in
    subst (λ q. AreInRange q c.args.n) (sym is) (transposed_pairs-range c.args.rows.now.pairs c.args.n c.requires.range)

pub returns-in-None-clause-acyclic : goal.returns-in-None-clause-acyclic
returns-in-None-clause-acyclic c =
    let is : c.in_ok-transposed.transposed.pairs ≡ transposed_pairs c.args.rows.now.pairs c.args.n = c.in_ok-transposed.ensures.pairs in
    acyclic_turned c.args.rows.now.pairs c.in_ok-transposed.transposed.pairs c.in_ok-left.left.items c.args.n c.requires.range is c.in_ok-left.ensures.count c.in_ok-left.ensures.settled
    (subst (λ l. (u : ℕ) → u < length l → get_or l u 0 ≡ 0) c.deref.ensures.value c.in-None.ensures.none)

pub cycle_of-requires-clause-largest : goal.cycle_of-requires-clause-largest
cycle_of-requires-clause-largest c =
    let pairs = c.args.rows.now.pairs in
    let is : c.in_ok-transposed.transposed.pairs ≡ transposed_pairs pairs c.args.n = c.in_ok-transposed.ensures.pairs in
    let largest = over_turned pairs c.in_ok-transposed.transposed.pairs c.in_ok-left.left.items c.args.n c.requires.range is c.in_ok-left.ensures.count c.in_ok-left.ensures.settled in
    subst (λ q. IsLargestWithPredecessorInside q (length c.deref-in-Some.result.now) (left_over c.deref-in-Some.result.now)) (sym (c.view.ensures.pairs ∙ c.in_ok-plain-in-Some.ensures.pairs))
    (subst (λ l. IsLargestWithPredecessorInside pairs (length l) (left_over l)) (sym c.deref-in-Some.ensures.value) largest)

pub cycle_of-requires-clause-rising : goal.cycle_of-requires-clause-rising
cycle_of-requires-clause-rising c = subst AreRising (sym (c.view.ensures.pairs ∙ c.in_ok-plain-in-Some.ensures.pairs)) c.requires.rising
