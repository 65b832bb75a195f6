-- Each way through the loop is one step of `needs_from`, whichever blocks were seen before.
use Rattle.std.proofs.Common.{◌+◌, ◌++◌, ◌∷◌, [], ap, ◌∙◌, set, ℕ, List, length-set, subst, sym, arith, ◌≤◌}
use Rattle.std.proofs.lemmas.List.Elements.{All-set}
use Rattle.std.proofs.lemmas.Result.{err_from_is_err_and}
use Rattle.minelib_reader.specs.Text.{fields_of}
use Rattle.minelib_reader.specs.Prec.{needs_from}
use Rattle.minelib_reader.specs.Marks.{AreMarked}
use Rattle.minelib_reader.proofs.AnswerLemmas.{fails_map}
use Rattle.minelib_reader.proofs.PrecLemmas.{SoFar, begins, goes_on, stops, ends}
use Rattle.minelib_reader.proofs.prec.push_marked.Goals as goal

pub loop-whole-init : goal.loop-whole-init
loop-whole-init c = record {
  so_far = λ first marked. begins c.args.block.n c.args.block.id c.args.block.line first c.args.marks.now.items (fields_of c.args.text.now) c.args.needs.now.pairs marked;
  row = c.requires.row;
  sizes = c.requires.sizes;
  marks = c.requires.old_marks;
}

pub returns-in_err-p-clause-err : goal.returns-in_err-p-clause-err
returns-in_err-p-clause-err c =
    let p = err_from_is_err_and c.from_residual.result c.from_residual.ensures.1 in
    let e = c.in_err-p.field-0.0 in
    let n = c.args.block.n in
    let id = c.args.block.id in
    let line = c.args.block.line in
    rw (p.1, p.2) (λ first are.
    let total = needs_from n id line first (fields_of c.args.text.now) in
    let s = subst (λ (fs : List (List ℕ)). SoFar n id line first c.loop-whole.marks.items fs total c.args.needs.now.pairs c.loop-whole.needs.pairs) c.in-Some.ensures.whole.1 (c.loop-whole.invariant.so_far first are) in
    let marked : AreMarked n id c.deref.result.now (first ++ s.seen) = subst (λ (m : List ℕ). AreMarked n id m (first ++ s.seen)) (sym c.deref.ensures.value) s.marked in
    fails_map e.refusal e _ total (λ h. stops n id line first _ e _ _ total _ _ s h) (c.in_err-p.ensures.gives (first ++ s.seen) c.in-Some.ensures.whole.0 c.in-Some.ensures.whole.2 marked))

pub loop-whole-preserved : goal.loop-whole-preserved
loop-whole-preserved c =
    let n = c.args.block.n in
    let id = c.args.block.id in
    let line = c.args.block.line in
    let marks = c.loop-whole.marks.items in
    let field = c.in-Some.ensures.whole.0 in
    let behind = fields_of c.in-Some.behind.now in
    let old = c.args.needs.now.pairs in
    record {
      so_far = λ first are.
          let total = needs_from n id line first (fields_of c.args.text.now) in
          let s = subst (λ (fs : List (List ℕ)). SoFar n id line first marks fs total old c.loop-whole.needs.pairs) c.in-Some.ensures.whole.1 (c.loop-whole.invariant.so_far first are) in
          let marked : AreMarked n id c.deref.result.now (first ++ s.seen) = subst (λ (m : List ℕ). AreMarked n id m (first ++ s.seen)) (sym c.deref.ensures.value) s.marked in
          let one = goes_on n id line first marks field behind total old c.loop-whole.needs.pairs c.in_ok-p.p c.loop-whole.invariant.sizes c.in_ok-p.ensures.below s (c.in_ok-p.ensures.gives (first ++ s.seen) field c.in-Some.ensures.whole.2 marked) in
          subst (λ (ps : List (ℕ × ℕ)). SoFar n id line first (set marks c.in_ok-p.p (id + 1)) behind total old ps) (sym (c.in_ok-push.ensures.added ∙ ap (λ u. c.loop-whole.needs.pairs ++ (u, c.in_ok-p.p) ∷ []) c.loop-whole.invariant.row)) one;
      row = c.in_ok-push.ensures.row ∙ c.loop-whole.invariant.row;
      sizes = simp length-set c.loop-whole.invariant.sizes;
      marks = All-set (λ m. m ≤ id + 1) marks c.in_ok-p.p (id + 1) (omega arith) c.loop-whole.invariant.marks;
    }

pub returns-clause-ok : goal.returns-clause-ok
returns-clause-ok c = λ first are.
    let n = c.args.block.n in
    let id = c.args.block.id in
    let line = c.args.block.line in
    let total = needs_from n id line first (fields_of c.args.text.now) in
    let s = subst (λ (fs : List (List ℕ)). SoFar n id line first c.loop-whole.marks.items fs total c.args.needs.now.pairs c.loop-whole.needs.pairs) c.in_default.ensures.whole (c.loop-whole.invariant.so_far first are) in
    (s.seen, ends n id line first c.loop-whole.marks.items total c.args.needs.now.pairs c.loop-whole.needs.pairs s, s.pushed)
