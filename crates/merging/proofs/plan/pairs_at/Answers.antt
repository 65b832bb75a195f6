-- One pair more, whose row is no earlier than the open one, since the pairs are in order.
use Rattle.std.proofs.Common.{◌≡◌, ◌++◌, ◌∷◌, [], ◌+◌, ℕ, List, length, get_or, ap, arith, sym, ◌∙◌, ⊎_elim}
use Rattle.std.proofs.lemmas.Bool.{cases_eq}
use Rattle.std.proofs.lemmas.List.{get_or_append_left, get_or_at, length_push}
use Rattle.pit_model.specs.Graph.{first_of}
use Rattle.csr.proofs.Rising.{firsts_rise}
use Rattle.csr.proofs.Spelled.{pair_same}
use Rattle.merging.proofs.plan.pairs_at.Goals as goal

pub loop-i-preserved : goal.loop-i-preserved
loop-i-preserved c =
    let pairs = c.args.graph.now.pairs in
    let arcs = c.args.arcs.now in
    let i = c.loop-i.i in
    let arc : ℕ = get_or arcs i 0 in
    let so_far = c.loop-i.needs.pairs in
    let block : ℕ = c.arc-block.result.0 in
    let needed : ℕ = c.arc-block.result.1 in
    let is : first_of pairs arc ≡ block = sym (ap (λ (q : ℕ × ℕ). q.0) c.arc-block.ensures) in
    let row : c.push.new.self.blocks ≡ block = c.in_ok-push.ensures.row ∙ c.in_ok-open_row.ensures.row in
    let added : c.push.new.self.pairs ≡ so_far ++ (block, needed) ∷ [] =
    c.in_ok-push.ensures.added ∙ ap (λ ps. ps ++ (c.open_row.new.self.blocks, needed) ∷ []) c.open_row.ensures.pairs
    ∙ ap (λ u. so_far ++ (u, needed) ∷ []) c.in_ok-open_row.ensures.row in
    let count = c.loop-i.invariant.count in
    let below = c.requires.below i c.loop-i-test.true in
    record {
      count = ap (λ (ps : List (ℕ × ℕ)). length ps) added ∙ length_push so_far (block, needed) ∙ ap (λ n. n + 1) count;
      each = λ j l. ap (λ ps. get_or ps j (0, 0)) added ∙ ⊎_elim
          (λ (e : j ≡ i). get_or_at so_far (block, needed) [] (0, 0) j (omega arith) ∙ pair_same (block, needed) (get_or pairs arc (0, 0)) (sym is) (ap (λ (q : ℕ × ℕ). q.1) c.arc-block.ensures)
          ∙ ap (λ x. get_or pairs (get_or arcs x 0) (0, 0)) (sym e))
          (λ (ne : j ≡ i → ⊥). get_or_append_left so_far ((block, needed) ∷ []) (0, 0) j (omega arith) ∙ c.loop-i.invariant.each j (omega arith))
          (cases_eq j i);
      row = (let own = (c.law.ensures.graph.in_range arc below).0 in omega arith);
      ahead = λ j from to.
          let rise = firsts_rise pairs c.law.ensures.graph.rising arc (get_or arcs j 0) (omega (arith, c.requires.rising i j (omega arith) to)) (c.requires.below j to) in
          omega arith;
    }

pub finish-requires-clause-below : goal.finish-requires-clause-below
finish-requires-clause-below c k l =
    let count = c.loop-i.invariant.count in
    let is = ap (λ (q : ℕ × ℕ). q.0) (c.loop-i.invariant.each k (omega arith)) in
    let below = c.requires.below k (omega arith) in
    let own = (c.law.ensures.graph.in_range (get_or c.args.arcs.now k 0) below).0 in
    omega (arith, c.n.ensures)
