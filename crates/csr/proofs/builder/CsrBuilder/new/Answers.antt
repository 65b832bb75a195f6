-- Without targets there is no arc.
use Rattle.std.proofs.Common.{◌≡◌, [], ◌∷◌, ◌++◌, ap, arith, ◌∙◌}
use Rattle.csr.proofs.Built.{none_built, none_pairs}
use Rattle.csr.proofs.builder.CsrBuilder.new.Goals as goal

pub invariant_of-result : goal.invariant_of-result
invariant_of-result c =
    let start : c.push.new.self.items ≡ 0 ∷ [] = c.in_ok-push.ensures.items ∙ ap (λ q. q ++ 0 ∷ []) c.new-offsets.ensures.items in
    rw (start, c.new.ensures.items, c.new-2.ensures.items) (none_built c.in_ok-recent.recent.items (omega (arith, c.in_ok-recent.ensures.len, c.in_ok-recent.recent.ok.0)))

pub returns-clause-pairs : goal.returns-clause-pairs
returns-clause-pairs c =
    let start : c.push.new.self.items ≡ 0 ∷ [] = c.in_ok-push.ensures.items ∙ ap (λ q. q ++ 0 ∷ []) c.new-offsets.ensures.items in
    rw (start, c.new.ensures.items, c.new-2.ensures.items) none_pairs
