use Rattle.std.proofs.Common.{ap, sym, ◌∙◌}
use Rattle.versions.proofs.StepLaws.{begins}
use Rattle.versions.proofs.list_writer.UnnamedList.new.Goals as goal

pub compare_exchange-found-requires : goal.compare_exchange-found-requires
compare_exchange-found-requires c =
    let opened = c.open-seen.ensures in
    let word = c.tracked-word.ensures.0 in
    let offer = c.plain-offer.ensures in
    let pen = c.no_pen-pen.ensures in
    let book = sym opened.2 ∙ sym (ap (λ w. w.book) word) in (
      ap (λ w. w.tracked) word,
      book,
      pen.0 ∙ book,
      offer.0,
      rw (ap (λ w. w.key) word, ap (λ n. n.key) opened.4, opened.1, pen.1, offer.3) (begins c.plain-offer.result.ask),
    )
