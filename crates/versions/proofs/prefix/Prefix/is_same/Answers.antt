use Rattle.std.proofs.Common.{◌≡◌, ap, sym, subst, arith, length, List}
use mathlib.Core.List.{IsPrefix}
use Rattle.versions.specs.declared.link.ArcLink.{ArcLink}
use Rattle.versions.specs.ArcList.{arcs_of}
use Rattle.versions.proofs.Same.{as_long, same_where}
use Rattle.versions.proofs.prefix.Prefix.is_same.Goals as goal

pub returns-clause-exact : goal.returns-clause-exact
returns-clause-exact g c =
    let both = c.learn.new.self.log in
    let xs = c.self.inside.seen.log in
    let ys = c.other.inside.seen.log in
    let mine : IsPrefix xs both = subst (λ (l : List ArcLink). IsPrefix l both) (ap (λ s. s.log) c.again-both.ensures) c.learn.ensures.2 in
    let long : length xs ≡ length ys = omega (arith, c.self.invariant.1, c.other.invariant.1, c.if-self-other.false) in
    rw (← c.self.view_is, ← c.other.view_is) (sym (same_where (arcs_of xs) (arcs_of ys) (ap arcs_of (as_long xs ys both mine c.learn.ensures.3 long))))

pub returns-clause-same : goal.returns-clause-same
returns-clause-same g c is =
    let both = c.learn.new.self.log in
    let xs = c.self.inside.seen.log in
    let ys = c.other.inside.seen.log in
    let mine : IsPrefix xs both = subst (λ (l : List ArcLink). IsPrefix l both) (ap (λ s. s.log) c.again-both.ensures) c.learn.ensures.2 in
    let long : length xs ≡ length ys = omega (arith, c.self.invariant.1, c.other.invariant.1, c.if-self-other.false) in
    rw (← c.self.view_is, ← c.other.view_is) (sym (ap arcs_of (as_long xs ys both mine c.learn.ensures.3 long)))
