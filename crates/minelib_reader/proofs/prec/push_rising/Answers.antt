-- Each way round the loop adds one pair.
use Rattle.std.proofs.Common.{◌+◌, ◌++◌, ◌∷◌, [], ap, ℕ, List, subst, sym, ◌∙◌, arith}
use Rattle.minelib_reader.specs.Text.{fields_of}
use Rattle.minelib_reader.proofs.PrecLemmas.{Rises, rises_none, rises_on}
use Rattle.minelib_reader.proofs.prec.push_rising.Goals as goal

pub loop-p-init : goal.loop-p-init
loop-p-init c = record { rises = rises_none c.args.block.n c.args.block.id (fields_of c.args.text.now) c.args.needs.now.pairs; row = c.requires.row }

pub loop-p-preserved : goal.loop-p-preserved
loop-p-preserved c =
    let p = c.in-Some.p in
    let n = c.args.block.n in
    let id = c.args.block.id in
    let all = fields_of c.args.text.now in
    let old = c.args.needs.now.pairs in
    let found = c.in-Some.ensures.whole in
    let s = subst (λ (fs : List (List ℕ)). Rises n id all fs c.loop-p.least old c.loop-p.needs.pairs) found.1 c.loop-p.invariant.rises in
    let one = rises_on n id found.0 (fields_of c.in-Some.behind.now) all c.loop-p.least old c.loop-p.needs.pairs p (sym found.2) (omega (arith, c.if-p-from.false, c.from.ensures)) (λ same. c.if-p-from-2.false (same ∙ sym c.from-else-p-from.ensures)) (omega (arith, c.if-p-least.false)) s in
    record {
      rises = subst (λ (ps : List (ℕ × ℕ)). Rises n id all (fields_of c.in-Some.behind.now) (p + 1) old ps) (sym (c.in_ok-push.ensures.added ∙ ap (λ u. c.loop-p.needs.pairs ++ (u, p) ∷ []) c.loop-p.invariant.row)) one;
      row = c.in_ok-push.ensures.row ∙ c.loop-p.invariant.row;
    }

pub returns-clause-ok : goal.returns-clause-ok
returns-clause-ok c = c.loop-p.invariant.rises.adds
