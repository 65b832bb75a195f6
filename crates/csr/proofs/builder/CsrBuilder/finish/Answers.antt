-- No arc is in the row of block `blocks`, which is open at last.
use Rattle.std.proofs.Common.{◌≡◌, ◌<◌, length, ap, subst, sym, ◌∙◌, arith}
use Rattle.pit_model.specs.Graph.{Graph, first_of}
use Rattle.csr.specs.Rows.{pairs_of}
use Rattle.csr.specs.Shared.{shared_targets, AreShared}
use Rattle.csr.specs.Built.{built_targets}
use Rattle.csr.proofs.Built.{all_used, used_shared, used_targets}
use Rattle.csr.proofs.builder.CsrBuilder.finish.Goals as goal

pub from_closed-requires : goal.from_closed-requires
from_closed-requires c =
    let offsets = c.rows.inside.offsets.items in
    let patterns = c.rows.inside.patterns.items in
    let numbers = c.rows.inside.numbers.items in
    let used = c.rows.inside.used in
    let recent = c.rows.inside.recent.items in
    let same : pairs_of offsets (built_targets offsets patterns numbers used) ≡ c.args.self.pairs = ap (λ (g : Graph). g.pairs) c.rows.view_is ∙ c.open_row.ensures.pairs in
    let blocks : length patterns ≡ c.args.blocks = ap (λ (g : Graph). g.blocks) c.rows.view_is ∙ c.in_ok-open_row.ensures.row in
    let all = all_used offsets patterns numbers used recent c.rows.invariant
    (λ k l. let own = c.requires.below k (subst (λ q. k < length q) same l) in let at = ap (λ q. first_of q k) same in omega arith) in
    subst (AreShared offsets patterns) (sym c.shrink_to_fit.ensures.items) (used_shared offsets patterns numbers used recent c.rows.invariant all)

pub returns-clause-pairs : goal.returns-clause-pairs
returns-clause-pairs c =
    let offsets = c.rows.inside.offsets.items in
    let patterns = c.rows.inside.patterns.items in
    let numbers = c.rows.inside.numbers.items in
    let used = c.rows.inside.used in
    let recent = c.rows.inside.recent.items in
    let same : pairs_of offsets (built_targets offsets patterns numbers used) ≡ c.args.self.pairs = ap (λ (g : Graph). g.pairs) c.rows.view_is ∙ c.open_row.ensures.pairs in
    let blocks : length patterns ≡ c.args.blocks = ap (λ (g : Graph). g.blocks) c.rows.view_is ∙ c.in_ok-open_row.ensures.row in
    let all = all_used offsets patterns numbers used recent c.rows.invariant
    (λ k l. let own = c.requires.below k (subst (λ q. k < length q) same l) in let at = ap (λ q. first_of q k) same in omega arith) in
    c.from_closed.ensures.pairs
    ∙ ap (λ q. pairs_of offsets (shared_targets offsets patterns q)) c.shrink_to_fit.ensures.items
    ∙ sym (ap (pairs_of offsets) (used_targets offsets patterns numbers used recent c.rows.invariant all))
    ∙ same
