use Rattle.std.proofs.Common.{◌≡◌, ◌<◌, false, ap, sym, subst, arith, length, List, ℕ}
use mathlib.Core.List.{IsPrefix}
use Rattle.logbook.specs.Pages.{cell}
use Rattle.versions.specs.declared.link.ArcLink.{ArcLink}
use Rattle.versions.proofs.Lists.{through, arcs_begin}
use Rattle.versions.proofs.StepLaws.{whole}
use Rattle.versions.proofs.list_writer.ListWriter.confirm.Goals as goal

pub returns-clause-begins : goal.returns-clause-begins
returns-clause-begins g c =
    let mine = c.self.inside.seen.log in
    let both = c.learn.new.self.log in
    let now = c.compare_exchange.new.seen.log in
    let told = c.compare_exchange.ensures.7.1 in
    let on : IsPrefix both now = c.compare_exchange.ensures.6 in
    let begins : IsPrefix mine both = subst (λ (l : List ArcLink). IsPrefix l both) (ap (λ s. s.log) c.again-seen.ensures) c.learn.ensures.2 in
    let some : 0 < length mine = omega (arith, c.self.invariant.1) in
    let all : mine ≡ now = whole told.0 mine now told.1 (through mine both now begins on) some (subst (λ (k : ℕ). (cell told.0 k).1 ≡ false) c.self.invariant.5 told.2) in
    let other : IsPrefix c.other.inside.seen.log mine = subst (IsPrefix c.other.inside.seen.log) (sym all) (through c.other.inside.seen.log both now c.learn.ensures.3 on) in
    rw (← c.self.view_is, ← c.other.view_is) (arcs_begin c.other.inside.seen.log mine other)
