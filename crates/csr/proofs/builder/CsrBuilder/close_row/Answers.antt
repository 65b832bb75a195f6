-- A closed row keeps its arcs.
use Rattle.std.proofs.Common.{◌≡◌, [], ◌∷◌, ◌++◌, ap, subst, arith, drop, length, take, ◌∙◌}
use Rattle.std.proofs.lemmas.List.{take_at}
use Rattle.pit_model.specs.Graph.{Graph}
use Rattle.csr.specs.Built.{built_targets}
use Rattle.csr.specs.Shared.{LeadTo}
use Rattle.csr.proofs.Built.{closed_built, closed_pairs, length-built}
use Rattle.csr.proofs.Spelled.{length-pairs_of}
use Rattle.csr.proofs.builder.CsrBuilder.close_row.Goals as goal

pub share_last-self-inside-requires-clause-few : goal.share_last-self-inside-requires-clause-few
share_last-self-inside-requires-clause-few c =
    let offsets = c.self.inside.offsets.items in
    let patterns = c.self.inside.patterns.items in
    let numbers = c.self.inside.numbers.items in
    let used = c.self.inside.used in
    let recent = c.self.inside.recent.items in
    let view = ap (λ (g : Graph). length g.pairs) c.self.view_is in
    let long = length-pairs_of offsets (built_targets offsets patterns numbers used) in
    omega (arith, length-built offsets patterns numbers used recent c.self.invariant, c.self.invariant.few, c.requires.few)

pub overflow_cast-self-inside : goal.overflow_cast-self-inside
overflow_cast-self-inside c =
    let offsets = c.self.inside.offsets.items in
    let patterns = c.self.inside.patterns.items in
    let numbers = c.self.inside.numbers.items in
    let used = c.self.inside.used in
    let recent = c.self.inside.recent.items in
    let view = ap (λ (g : Graph). length g.pairs) c.self.view_is in
    let long = length-pairs_of offsets (built_targets offsets patterns numbers used) in
    omega (arith, length-built offsets patterns numbers used recent c.self.invariant, c.self.invariant.few, c.requires.few, c.share_last-self-inside.ensures.place)

pub invariant_of-self-2 : goal.invariant_of-self-2
invariant_of-self-2 c =
    let offsets = c.self.inside.offsets.items in
    let patterns = c.self.inside.patterns.items in
    let numbers = c.self.inside.numbers.items in
    let used = c.self.inside.used in
    let recent = c.self.inside.recent.items in
    let targets = built_targets offsets patterns numbers used in
    let shared = c.share_last-self-inside in
    let more = shared.new.numbers.items in
    let place = shared.result in
    let view = ap (λ (g : Graph). length g.pairs) c.self.view_is in
    let long = length-pairs_of offsets targets in
    let blocks = ap (λ (g : Graph). g.blocks) c.self.view_is in
    let end : c.len-end.result ≡ length targets = omega arith in
    let block : c.len-block.result ≡ length patterns = omega arith in
    let starts : c.push_reserved.new.self.items ≡ offsets ++ length targets ∷ [] = c.push_reserved.ensures.items ∙ ap (λ q. q ++ c.len-end.result ∷ []) c.in_ok-reserve.ensures.items ∙ ap (λ k. offsets ++ k ∷ []) end in
    let places : c.push_reserved-2.new.self.items ≡ patterns ++ place ∷ [] = c.push_reserved-2.ensures.items ∙ ap (λ q. q ++ place ∷ []) c.in_ok-reserve-2.ensures.items in
    let all : c.len-self-inside.result ≡ length more = omega arith in
    let leads = subst (λ u. LeadTo more place u numbers used (length numbers)) block shared.ensures.leads in
    let slots : take c.self.inside.recent.len (shared.new.recent ++ drop (length shared.new.recent) recent) ≡ shared.new.recent = take_at shared.new.recent (drop (length shared.new.recent) recent) c.self.inside.recent.len (omega (arith, c.self.inside.recent.ok.0)) in
    rw (starts, places, all, slots)
    (closed_built offsets patterns numbers used recent c.self.invariant more place leads shared.ensures.inside shared.ensures.kept shared.ensures.upto shared.ensures.before shared.new.recent (omega (arith, c.self.invariant.slots)))

pub returns-clause-pairs : goal.returns-clause-pairs
returns-clause-pairs c =
    let offsets = c.self.inside.offsets.items in
    let patterns = c.self.inside.patterns.items in
    let numbers = c.self.inside.numbers.items in
    let used = c.self.inside.used in
    let recent = c.self.inside.recent.items in
    let targets = built_targets offsets patterns numbers used in
    let shared = c.share_last-self-inside in
    let more = shared.new.numbers.items in
    let place = shared.result in
    let view = ap (λ (g : Graph). length g.pairs) c.self.view_is in
    let long = length-pairs_of offsets targets in
    let blocks = ap (λ (g : Graph). g.blocks) c.self.view_is in
    let end : c.len-end.result ≡ length targets = omega arith in
    let block : c.len-block.result ≡ length patterns = omega arith in
    let starts : c.push_reserved.new.self.items ≡ offsets ++ length targets ∷ [] = c.push_reserved.ensures.items ∙ ap (λ q. q ++ c.len-end.result ∷ []) c.in_ok-reserve.ensures.items ∙ ap (λ k. offsets ++ k ∷ []) end in
    let places : c.push_reserved-2.new.self.items ≡ patterns ++ place ∷ [] = c.push_reserved-2.ensures.items ∙ ap (λ q. q ++ place ∷ []) c.in_ok-reserve-2.ensures.items in
    let all : c.len-self-inside.result ≡ length more = omega arith in
    let leads = subst (λ u. LeadTo more place u numbers used (length numbers)) block shared.ensures.leads in
    rw (starts, places, all)
    (closed_pairs offsets patterns numbers used recent c.self.invariant more place leads shared.ensures.inside shared.ensures.kept shared.ensures.upto shared.ensures.before ∙ ap (λ (g : Graph). g.pairs) c.self.view_is)
