-- The first with a mark is the least, since the blocks rise.
use Rattle.std.proofs.Common.{◌≡◌, ℕ, ◌<◌, ◌≤◌, refl, sym, ap, ◌∙◌, arith, ⊎_elim, get_or}
use Rattle.std.proofs.lemmas.Bool.{and_from, and_parts, cases_eq, cases_lt, false≢true}
use Rattle.std.proofs.lemmas.List.Kept.{AllPairs-from_increasing}
use Rattle.pit_model.specs.Fixed.{is_among}
use Rattle.mine_graph.specs.FixedBlocks.{mark_of}
use Rattle.mine_graph.proofs.Among.{among_at, among_here}
use Rattle.mine_graph.proofs.fixed.first_marked.Goals as goal

pub returns-then-is_marked-clause-some : goal.returns-then-is_marked-clause-some
returns-then-is_marked-clause-some c =
    let blocks = c.args.blocks.now in
    let marks = c.args.marks.now in
    let i : ℕ = c.loop-i.i in
    let u : ℕ = get_or blocks i 0 in
    record {
      member = and_from (is_among blocks u) (mark_of marks u) (among_here blocks u (i, omega arith, c.loop-i-test.true, refl)) (sym c.is_marked.ensures ∙ c.if-is_marked.true);
      least = λ v h.
          let both = and_parts (is_among blocks v) (mark_of marks v) h in
          let at = among_at blocks v both.0 in
          let is = at.3 in
          ⊎_elim
          (λ (before : at.0 < i). absurd (false≢true (sym (c.loop-i.invariant at.0 before) ∙ ap (mark_of marks) is ∙ both.1)))
          (λ (behind : i ≤ at.0). ⊎_elim
          (λ (e : at.0 ≡ i). let same = ap (λ k. get_or blocks k 0) e in omega arith)
          (λ (ne : at.0 ≡ i → ⊥). let less = AllPairs-from_increasing blocks c.requires i at.0 0 (omega arith) at.2 in omega arith)
          (cases_eq at.0 i))
          (cases_lt at.0 i);
    }

pub returns-clause-none : goal.returns-clause-none
returns-clause-none c u h =
    let at = among_at c.args.blocks.now u h in
    ap (mark_of c.args.marks.now) (sym at.3) ∙ c.loop-i.invariant at.0 (omega (arith, at.2))
