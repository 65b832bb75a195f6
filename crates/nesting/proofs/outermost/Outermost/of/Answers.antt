-- What was found on the whole is the outermost shell, and the part outside the other blocks is the part on it.
use Rattle.std.proofs.Common.{◌≡◌, ◌∙◌, ◌<◌, List, Bool, ℕ, not, map, false, get_or, length, sym, ap, subst, rules}
use Rattle.std.specs.List.{All}
use Rattle.std.proofs.lemmas.List.{length-map}
use Rattle.pit_model.specs.Graph.{Graph, IsGraph}
use Rattle.pit_model.specs.Mine.{members}
use Rattle.pit_model.specs.Part.{IsPart}
use Rattle.pit_model.proofs.Members.{members_below}
use Rattle.pit_search.proofs.Searching.{listed_below}
use Rattle.nesting.specs.Grown.{marked}
use Rattle.nesting.specs.Outermost.{amounts_of}
use Rattle.nesting.proofs.Outer.{is_outermost}
use Rattle.nesting.proofs.outermost.Outermost.of.Goals as goal

pub mark_blocks-requires : goal.mark_blocks-requires
mark_blocks-requires c =
    let graph = c.args.plan.now.graph.now.value in
    let shown = c.requires.pit in
    let count : c.n.result ≡ graph.blocks = search rules in
    subst (λ n. All (λ u. u < n) c.args.pit.now) (sym count) (listed_below graph.blocks c.args.pit.now shown.set shown.listed)

pub without-requires : goal.without-requires
without-requires c =
    let graph = c.args.plan.now.graph.now.value in
    let count : c.n.result ≡ graph.blocks = search rules in
    ap (λ (xs : List Bool). length xs) (c.deref-5.ensures.value ∙ c.in_ok-outside.ensures) ∙ length-map c.deref-3.result.now not
    ∙ ap (λ (xs : List Bool). length xs) c.deref-3.ensures.value ∙ c.in_ok-marks.ensures.size ∙ count ∙ sym (ap (λ (h : Graph). h.blocks) c.deref-4.ensures)

pub at-requires-clause-blocks : goal.at-requires-clause-blocks
at-requires-clause-blocks c =
    let n = c.deref-4.result.now.blocks in
    let part = c.in_ok-part.ensures.part in
    let rows : n ≡ length c.args.plan.now.columns.now.revenues = ap (λ (h : Graph). h.blocks) c.deref-4.ensures ∙ sym c.requires.rows in
    subst (λ (xs : List ℕ). All (λ u. u < length c.args.plan.now.columns.now.revenues) xs) (sym (c.deref-6.ensures.value ∙ part.blocks_are))
    (subst (λ k. All (λ u. u < k) (members n (λ u. not (get_or c.deref-5.result.now u false)))) rows (members_below n (λ u. not (get_or c.deref-5.result.now u false))))

pub returns-clause-is : goal.returns-clause-is
returns-clause-is c =
    let direction = c.args.plan.now.direction in
    let shown = c.requires.pit in
    let columns = c.args.plan.now.columns.now in
    let graph = c.args.plan.now.graph.now.value in
    let found = c.args.pit.now in
    let marks = c.in_ok-marks.marks.items in
    let count : c.n.result ≡ graph.blocks = search rules in
    let marked_as = subst (λ n. (set : ℕ → Bool) → found ≡ members n set → (u : ℕ) → u < n → marked marks u ≡ set u) count c.in_ok-marks.ensures.marks in
    let is_graph : IsGraph graph.blocks graph.pairs = subst (λ (h : Graph). IsGraph h.blocks h.pairs) c.deref.ensures c.law-2.ensures.graph in
    let mapped : c.deref-5.result.now ≡ map not marks = c.deref-5.ensures.value ∙ c.in_ok-outside.ensures ∙ ap (λ (ms : List Bool). map not ms) c.deref-3.ensures.value in
    let part = subst (λ (h : Graph). IsPart h (λ u. not (get_or c.deref-5.result.now u false)) c.in_ok-part.part.blocks.items c.in_ok-part.part.graph) c.deref-4.ensures c.in_ok-part.ensures.part in
    is_outermost direction columns c.in_ok-inner.inner graph c.in_ok-part.part.graph c.in_ok-graph.graph.value c.args.factor marks c.deref-5.result.now found c.in_ok-part.part.blocks.items
    is_graph.in_range shown marked_as mapped (c.in_ok-marks.ensures.size ∙ count) part c.in_ok-graph.ensures.ok
    (c.in_ok-inner.ensures.revenues ∙ ap (λ (xs : List ℕ). amounts_of columns.revenues xs) c.deref-6.ensures.value)
    (c.in_ok-inner.ensures.costs ∙ ap (λ (xs : List ℕ). amounts_of columns.costs xs) c.deref-6.ensures.value)
