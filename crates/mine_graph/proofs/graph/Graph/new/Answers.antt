-- Sorted pairs are the same pairs in an order that rows take.
use Rattle.std.proofs.Common.{ℕ, ◌<◌, ◌≤◌, List, length, subst, sym, ◌∙◌}
use Rattle.std.proofs.lemmas.Result.{IfOk-weaker, IfErr-weaker}
use Rattle.pit_model.specs.Graph.{first_of, AreApart, AreInRange, AreSamePairs}
use Rattle.mine_graph.proofs.Made.{acyclic-back, fault-back}
use Rattle.mine_graph.proofs.Sorted.{same_joined, sorted_apart, sorted_firsts, sorted_range, sorted_same}
use Rattle.mine_graph.proofs.graph.Graph.new.Goals as goal

pub from_pairs-requires-clause-order : goal.from_pairs-requires-clause-order
from_pairs-requires-clause-order c =
    subst (λ (qs : List (ℕ × ℕ)). (k l : ℕ) → k ≤ l → l < length qs → first_of qs k ≤ first_of qs l) (sym c.deref.ensures.value)
    (sorted_firsts c.sort_unstable.new.self.items c.sort_unstable.ensures.sorted)

pub from_pairs-requires-clause-below : goal.from_pairs-requires-clause-below
from_pairs-requires-clause-below c =
    subst (λ (qs : List (ℕ × ℕ)). (k : ℕ) → k < length qs → first_of qs k < c.args.n) (sym c.deref.ensures.value)
    (λ k l. (sorted_range c.args.pairs.items c.sort_unstable.new.self.items c.sort_unstable.ensures.permutation c.args.n c.requires.in_range k l).0)

pub of_rows-requires-clause-in_range : goal.of_rows-requires-clause-in_range
of_rows-requires-clause-in_range c =
    subst (λ qs. AreInRange qs c.args.n) (sym (c.in_ok-rows.ensures.pairs ∙ c.deref.ensures.value))
    (sorted_range c.args.pairs.items c.sort_unstable.new.self.items c.sort_unstable.ensures.permutation c.args.n c.requires.in_range)

pub of_rows-requires-clause-apart : goal.of_rows-requires-clause-apart
of_rows-requires-clause-apart c =
    subst AreApart (sym (c.in_ok-rows.ensures.pairs ∙ c.deref.ensures.value))
    (sorted_apart c.args.pairs.items c.sort_unstable.new.self.items c.sort_unstable.ensures.permutation c.requires.apart)

pub returns-clause-same : goal.returns-clause-same
returns-clause-same c =
    let same = subst (AreSamePairs c.args.pairs.items) (sym (c.in_ok-rows.ensures.pairs ∙ c.deref.ensures.value)) (sorted_same c.args.pairs.items c.sort_unstable.new.self.items c.sort_unstable.ensures.permutation) in
    IfOk-weaker c.of_rows.result _ _ (λ g graph. same_joined c.args.pairs.items c.in_ok-rows.rows.pairs g.pairs same graph) c.of_rows.ensures.same

pub returns-clause-acyclic : goal.returns-clause-acyclic
returns-clause-acyclic c =
    let same = subst (AreSamePairs c.args.pairs.items) (sym (c.in_ok-rows.ensures.pairs ∙ c.deref.ensures.value)) (sorted_same c.args.pairs.items c.sort_unstable.new.self.items c.sort_unstable.ensures.permutation) in
    IfOk-weaker c.of_rows.result _ _ (λ g. acyclic-back c.args.pairs.items c.in_ok-rows.rows.pairs same) c.of_rows.ensures.acyclic

pub returns-clause-refused : goal.returns-clause-refused
returns-clause-refused c =
    let same = subst (AreSamePairs c.args.pairs.items) (sym (c.in_ok-rows.ensures.pairs ∙ c.deref.ensures.value)) (sorted_same c.args.pairs.items c.sort_unstable.new.self.items c.sort_unstable.ensures.permutation) in
    IfErr-weaker c.of_rows.result _ _ (λ e. fault-back c.args.pairs.items c.in_ok-rows.rows.pairs c.args.n e same) c.of_rows.ensures.refused
