use Rattle.std.proofs.Common.{◌≡◌, ◌+◌, ◌*◌, ◌++◌, ◌∷◌, [], ap, sym, ◌∙◌, arith, length, length-append}
use Rattle.logbook.specs.Pages.{Nib}
use Rattle.versions.specs.declared.link.ArcLink.{ArcLink}
use Rattle.versions.specs.ArcList.{link, last_of}
use Rattle.versions.proofs.Lists.{last_of-snoc}
use Rattle.versions.proofs.StepLaws.{writes}
use Rattle.versions.proofs.list_writer.ListWriter.write.Goals as goal

pub compare_exchange-self-inside-requires : goal.compare_exchange-self-inside-requires
compare_exchange-self-inside-requires g c =
    let word = c.deref.result.now.head_is in
    let offer = c.plain-offer.ensures in
    let mine = c.self.inside in
    let i = c.self.invariant in
    let book = sym (ap (λ w. w.book) word) in (
      ap (λ w. w.tracked) word,
      i.0 ∙ book,
      i.3 ∙ book,
      offer.0,
      rw (ap (λ w. w.key) word, offer.1, offer.3) (writes mine.seen.log mine.pen.nib c.args.arc c.widen.result.nib.key ((mine.count + 1) * 67108864 + c.from.result) ((mine.count + 2) * 67108864 + c.from-2.result)
          (omega (arith, i.1)) i.4 i.5 c.requires.small (omega (arith, i.1, i.2, c.from.ensures)) (omega (arith, i.1, c.from-2.ensures))),
    )

pub invariant_of-self : goal.invariant_of-self
invariant_of-self g c =
    let i = c.self.invariant in
    let links = c.self.inside.seen.log in
    let done = c.compare_exchange-self-inside in
    let new : ArcLink = link c.args.arc c.widen.result.nib.key in
    let now : done.new.seen.log ≡ links ++ new ∷ [] = done.ensures.7 ∙ ap (λ (l : ArcLink). links ++ l ∷ []) c.plain-offer.ensures.1 in
    let last : last_of done.new.seen.log ≡ new = ap last_of now ∙ last_of-snoc links new in (
      done.ensures.0 ∙ i.0,
      omega (arith, i.1, ap length now, length-append links (new ∷ [])),
      ap (λ (l : ArcLink). l.arc) last,
      c.widen.ensures.0,
      ap (λ (n : Nib). n.right) c.widen.ensures.1,
      sym (ap (λ (l : ArcLink). l.next) last),
    )
