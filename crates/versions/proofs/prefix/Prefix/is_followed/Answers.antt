use Rattle.std.proofs.Common.{◌≡◌, ◌+◌, ◌++◌, ◌∷◌, [], ap, sym, ◌∙◌, subst, arith, length, List, refl}
use mathlib.Core.List.{IsPrefix}
use Rattle.versions.specs.declared.link.ArcLink.{ArcLink}
use Rattle.versions.specs.ArcList.{arcs_of, last_of}
use Rattle.versions.specs.Published.{last_arc}
use Rattle.versions.proofs.Lists.{begins, grown}
use Rattle.versions.proofs.Same.{same_where, not_same_last, last_arc-snoc, last_of_arcs}
use Rattle.versions.proofs.prefix.Prefix.is_followed.Goals as goal

pub returns-then-other-arc-clause-exact : goal.returns-then-other-arc-clause-exact
returns-then-other-arc-clause-exact g c =
    let xs = c.self.inside.seen.log in
    let ys = c.other.inside.seen.log in
    let longer : length ys ≡ c.self.inside.count + 2 = omega (arith, c.other.invariant.1, c.if-other-eq0.false, c.if-other-self.false) in
    let last : last_arc (arcs_of ys) ≡ c.other.inside.last = last_of_arcs ys c.self.inside.count longer ∙ c.other.invariant.2 in
    rw (← c.self.view_is, ← c.other.view_is)
    (sym (not_same_last (arcs_of xs ++ c.args.arc ∷ []) (arcs_of ys) (λ e. c.if-other-arc.true (sym last ∙ (sym e ∙ last_arc-snoc (arcs_of xs) c.args.arc)))))

pub returns-clause-same : goal.returns-clause-same
returns-clause-same g c is =
    let both = c.learn.new.self.log in
    let xs = c.self.inside.seen.log in
    let ys = c.other.inside.seen.log in
    let mine : IsPrefix xs both = subst (λ (l : List ArcLink). IsPrefix l both) (ap (λ s. s.log) c.again-both.ensures) c.learn.ensures.2 in
    let longer : length ys ≡ c.self.inside.count + 2 = omega (arith, c.other.invariant.1, c.if-other-eq0.false, c.if-other-self.false) in
    let last : (last_of ys).arc ≡ c.args.arc = c.other.invariant.2 ∙ c.if-other-arc.false in
    let pre : IsPrefix xs ys = begins xs ys both mine c.learn.ensures.3 (omega (arith, c.self.invariant.1, longer)) in
    rw (← c.self.view_is, ← c.other.view_is) (grown xs ys c.self.inside.count pre c.self.invariant.1 longer ∙ ap (λ a. arcs_of xs ++ a ∷ []) last)

pub returns-clause-exact : goal.returns-clause-exact
returns-clause-exact g c = sym (same_where _ _ (sym (returns-clause-same g c refl)))
