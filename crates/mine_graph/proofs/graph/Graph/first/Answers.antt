-- The block of a pair lies between those of the samples around it.
use Rattle.std.proofs.Common.{◌≡◌, ℕ, ◌+◌, ◌/◌, ◌<◌, ◌≤◌, List, length, get_or, ap, arith, refl, ◌∙◌, ⊎_elim}
use Rattle.std.proofs.lemmas.Bool.{cases_lt}
use Rattle.std.proofs.lemmas.List.{get_or_default}
use Rattle.pit_model.specs.Graph.{Graph, first_of}
use Rattle.csr.proofs.Begun.{csr_rise}
use Rattle.mine_graph.proofs.Marking.{mark_below, mark_least, mark_most}
use Rattle.mine_graph.proofs.graph.Graph.first.Goals as goal

pub row_between-requires-clause-rise : goal.row_between-requires-clause-rise
row_between-requires-clause-rise c v w h l =
    let size = c.offsets.ensures.rows.count in
    csr_rise c.offsets.result.now c.self.inside.predecessors.blocks (length c.self.inside.predecessors.pairs) c.offsets.ensures.rows v w h (omega arith)

pub returns : goal.returns
returns c =
    let row_samples = c.self.inside.row_samples.items in
    let pairs = c.self.inside.predecessors.pairs in
    let k = c.args.k in
    let view : pairs ≡ c.args.self.now.pairs = ap (λ (g : Graph). g.pairs) c.self.view_is in
    let count = ap (λ (q : List (ℕ × ℕ)). length q) view in
    let inside : k < length pairs = omega (arith, c.requires) in
    let marked = c.self.invariant.sampled in
    let rising = c.self.invariant.graph.rising in
    let own = (c.self.invariant.graph.in_range k inside).0 in
    let there = (c.offsets.ensures.own (first_of pairs k) k (omega (arith, c.self.invariant.rows)) inside).0 refl in
    let below = mark_below pairs row_samples marked rising k inside in
    let least : c.index-least.result.now ≤ first_of pairs k =
    (let is = c.index-least.ensures ∙ get_or_default row_samples (k / 64) c.index-least.result.now 0 below in let low = mark_least pairs row_samples marked rising k inside in omega arith) in
    let same = c.deref.ensures.value in
    let long = ap (λ (q : List ℕ). length q) same in
    let most : first_of pairs k ≤ c.next_row_sample-most.result = ⊎_elim
    (λ (more : k / 64 + 1 < length row_samples).
    let is = c.next_row_sample-most.ensures.before (omega arith) ∙ ap (λ (q : List ℕ). get_or q (k / 64 + 1) 0) same in
    let high = mark_most pairs row_samples marked rising k inside more in
    let z : first_of pairs k ≤ c.next_row_sample-most.result = omega arith in z)
    (λ (last : length row_samples ≤ k / 64 + 1).
    let is = c.next_row_sample-most.ensures.behind (omega arith) in
    let z : first_of pairs k ≤ c.next_row_sample-most.result = omega arith in z)
    (cases_lt (k / 64 + 1) (length row_samples)) in
    c.row_between.ensures (first_of pairs k) least most there.0 there.1
    ∙ ap (λ q. first_of q k) view
