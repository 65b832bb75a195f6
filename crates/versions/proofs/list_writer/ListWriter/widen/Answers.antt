use Rattle.std.proofs.Common.{ap, sym, ◌∙◌}
use Rattle.versions.proofs.StepLaws.{widens}
use Rattle.versions.proofs.list_writer.ListWriter.widen.Goals as goal

pub compare_exchange-requires : goal.compare_exchange-requires
compare_exchange-requires g c =
    let word = c.deref.result.now.head_is in
    let offer = c.plain-offer.ensures in
    let pen = c.no_pen-pen.ensures in
    let seen = c.again-seen.ensures in
    let book = c.self.invariant.0 ∙ sym (ap (λ w. w.book) word) in (
      ap (λ w. w.tracked) word,
      ap (λ s. s.book) seen ∙ book,
      pen.0 ∙ book,
      offer.0,
      rw (ap (λ w. w.key) word, pen.1, offer.3) (widens c.again-seen.result.log c.plain-offer.result.ask),
    )
