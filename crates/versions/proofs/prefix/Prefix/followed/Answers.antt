use Rattle.std.proofs.Common.{◌≡◌, ◌+◌, ◌*◌, ◌++◌, ◌∷◌, [], ap, ◌∙◌, subst, arith, List}
use mathlib.Core.List.{IsPrefix}
use Rattle.versions.specs.declared.link.ArcLink.{ArcLink}
use Rattle.versions.specs.ArcList.{word_of_links, arcs_of}
use Rattle.versions.proofs.Lists.{grown, decoded}
use Rattle.versions.proofs.prefix.Prefix.followed.Goals as goal

pub returns : goal.returns
returns g c =
    let log = c.load-found.new.seen.log in
    let mine = c.self.inside.seen.log in
    let word_is = c.load-found.ensures.6.1 in
    let begins : IsPrefix mine log = subst (λ (l : List ArcLink). IsPrefix l log) (ap (λ s. s.log) c.again-seen.ensures) c.load-found.ensures.5 in
    let word : word_of_links log ≡ (c.self.inside.count + 2) * 67108864 + c.args.arc = omega (arith, word_is.0, c.if-found-self.false, c.from-2.ensures) in
    let parts = decoded log c.self.inside.count c.args.arc word word_is.1 (omega (arith, c.if-from-ge-UNIT.false, c.from.ensures)) in
    rw (← c.self.view_is) (grown mine log c.self.inside.count begins c.self.invariant.1 parts.0 ∙ ap (λ a. arcs_of mine ++ a ∷ []) parts.1)
