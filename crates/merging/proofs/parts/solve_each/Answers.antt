-- Each part may be solved; and what the threads gave is one list, or one part's refusal.
use Rattle.std.proofs.Common.{◌∙◌, subst}
use Rattle.std.specs.List.{AllZip}
use Rattle.merging.proofs.Gathered.{Gave, gathered}
use Rattle.merging.proofs.parts.solve_each.Goals as goal

pub collect-requires-clause-ready : goal.collect-requires-clause-ready
collect-requires-clause-ready g c κs = rw (c.map.ensures.base, c.map.ensures.f, c.with_min_len.ensures.base, c.into_par_iter.ensures) (λ outlives k d l. (c.requires k d l, λ y p. tt))

pub returns : goal.returns
returns g c =
    let h = c.in_ok-solved.ensures in
    let chain = rw (c.map.ensures.base, c.map.ensures.f, c.with_min_len.ensures.base) at h.1 in
    gathered c.args.instance.now c.args.parts.items h.0 c.in_ok-solved.solved
    (subst (λ ps. AllZip (Gave c.args.instance.now) ps h.0) (chain.1 ∙ c.into_par_iter.ensures) chain.2) h.2
