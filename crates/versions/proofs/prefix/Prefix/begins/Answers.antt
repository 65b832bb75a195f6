use Rattle.std.proofs.Common.{◌≤◌, ap, subst, arith, length, List}
use mathlib.Core.List.{IsPrefix}
use Rattle.versions.specs.declared.link.ArcLink.{ArcLink}
use Rattle.versions.proofs.Lists.{begins, arcs_begin}
use Rattle.versions.proofs.prefix.Prefix.begins.Goals as goal

pub returns : goal.returns
returns g c fits =
    let both = c.learn.new.self.log in
    let mine : IsPrefix c.self.inside.seen.log both = subst (λ (l : List ArcLink). IsPrefix l both) (ap (λ s. s.log) c.again-both.ensures) c.learn.ensures.2 in
    let less : length c.self.inside.seen.log ≤ length c.other.inside.seen.log = omega (arith, c.self.invariant.1, c.other.invariant.1, c.if-self-other.false) in
    rw (← c.self.view_is, ← c.other.view_is) (arcs_begin c.self.inside.seen.log c.other.inside.seen.log (begins c.self.inside.seen.log c.other.inside.seen.log both mine c.learn.ensures.3 less))
