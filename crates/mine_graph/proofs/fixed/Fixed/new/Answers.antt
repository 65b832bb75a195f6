-- The two searches give the closures, and no barred block is marked as dug.
use Rattle.std.proofs.Common.{subst, sym, ap, ◌∙◌}
use Rattle.std.specs.Prelude.{IsTrue}
use Rattle.pit_model.specs.Fixed.{IsClosure, is_among, transposed}
use Rattle.mine_graph.specs.FixedBlocks.{mark_of}
use Rattle.mine_graph.proofs.fixed.Fixed.new.Goals as goal

pub returns-clause-of_graph : goal.returns-clause-of_graph
returns-clause-of_graph c =
    let pairs = c.args.graph.now.pairs in
    let dug = c.in_ok-dug.dug.items in
    record {
      fixable = c.requires;
      settled = record {
        dug_is = subst (λ qs. IsClosure qs (is_among c.args.forced.items) (mark_of dug)) c.predecessors.ensures.pairs (subst (λ xs. IsClosure c.predecessors.result.now.pairs (is_among xs) (mark_of dug)) c.deref.ensures.value c.in_ok-dug.ensures);
        left_is = subst (λ xs. IsClosure (transposed pairs) (is_among xs) (mark_of c.in_ok-left.left.items)) c.deref-4.ensures.value c.in_ok-left.ensures;
      };
      clash_free = λ u h. ap (λ m. mark_of m u) (sym c.deref-3.ensures.value) ∙ c.in_default.ensures.none u (subst (λ xs. IsTrue (is_among xs u)) (sym c.deref-2.ensures.value) h);
    }
