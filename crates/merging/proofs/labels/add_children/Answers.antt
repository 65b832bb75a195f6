-- Children and siblings are blocks of the forest.
use Rattle.std.proofs.Common.{◌≡◌, ◌<◌, ℕ, Some, arith, sym, ◌∙◌}
use Rattle.forest.specs.Forest.{size}
use Rattle.merging.proofs.Ordering.{below_set}
use Rattle.merging.proofs.labels.add_children.Goals as goal
use Rattle.merging.proofs.labels.add_children.Goals.{then-has_label, else-has_label}

pub loop-child-init : goal.loop-child-init
loop-child-init c = record {
  room = c.requires.room;
  few = c.requires.found;
  branch = c.requires.branch;
  next = λ u is. (c.law.ensures.forest.children.first_child c.args.block u c.requires.block (sym c.first_child-next.ensures ∙ is)).0;
}

pub loop-child-preserved : goal.loop-child-preserved
loop-child-preserved c =
    let child = c.in-Some.child in
    let inside : child < size c.args.forest.now = c.loop-child.invariant.next child c.in-Some.is in
    let next : (u : ℕ) → c.next_sibling-next.result ≡ Some u → u < size c.args.forest.now =
    λ u is. (c.law.ensures.forest.children.next_child child u inside (sym c.next_sibling-next.ensures ∙ is)).0 in
    elim c.if-has_label.branch [
      | then-has_label w ↦ record {
        room = c.if-has_label.auto.branch' ∙ c.loop-child.invariant.room;
        few = omega (arith, w.found-is, c.if-found-branch.true, c.loop-child.invariant.room);
        branch = rw (w.branch'-is) (below_set c.loop-child.branch (size c.args.forest.now) c.loop-child.found child c.loop-child.invariant.branch inside);
        next = next;
      }
      | else-has_label w ↦ record {
        room = c.if-has_label.auto.branch' ∙ c.loop-child.invariant.room;
        few = omega (arith, w.found-is, c.loop-child.invariant.few);
        branch = rw (w.branch'-is) c.loop-child.invariant.branch;
        next = next;
      }
    ]
