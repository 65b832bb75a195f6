-- The texts of small answers, by computation.
use Rattle.std.proofs.Common.{◌≡◌, refl, ap, ◌∙◌, [], ◌∷◌}
use Rattle.std.specs.Prelude.{pos, codes, map}
use Rattle.std.specs.Fmt.{digits}
use Rattle.pit_model.specs.PitText.{pit_head, with_decimals}
use Rattle.pit_model.specs.JournalText.{entry_line, journal_head}
use Rattle.pit_model.specs.ShellText.{shells_head}
use Rattle.pit_model.specs.Uniqueness.{plain}
use Rattle.pit_model.specs.ExampleTexts.{TextsOfSmallAnswers}
use Rattle.pit_model.proofs.OneShells.{Plain, plain_block, plain_first, plain_has, plain_last, plain_line, plain_text, text_is}

-- the text of three plain shells
plain_reads :
    plain_text 4 ((500, 0 ∷ 1 ∷ [], pos 1000000000) ∷ (800, 0 ∷ 1 ∷ [], pos 4000000000) ∷ (900, 0 ∷ 1 ∷ 2 ∷ [], pos 6000000000) ∷ [])
    ≡ codes "SHELLS\nBLOCKS: 4\nFACTORS: 3\n500 2 1.000000000\n800 2 4.000000000\n900 3 6.000000000\n0 500\n1 500\n2 900\n"
unfolding digits with_decimals shells_head plain_text plain_line plain_has plain_first plain_block plain_last
plain_reads = refl

pub texts_of_small_answers : TextsOfSmallAnswers
unfolding digits pit_head with_decimals entry_line journal_head shells_head
texts_of_small_answers = record {
  pit = refl;
  empty_pit = refl;
  journal = refl;
  empty_journal = refl;
  shells = λ s t r s_is t_is r_is.
      let all : map plain (s ∷ t ∷ r ∷ []) ≡ (500, 0 ∷ 1 ∷ [], pos 1000000000) ∷ (800, 0 ∷ 1 ∷ [], pos 4000000000) ∷ (900, 0 ∷ 1 ∷ 2 ∷ [], pos 6000000000) ∷ [] =
      ap (λ (p : Plain). p ∷ plain t ∷ plain r ∷ []) s_is ∙ ap (λ (p : Plain). (500, 0 ∷ 1 ∷ [], pos 1000000000) ∷ p ∷ plain r ∷ []) t_is
      ∙ ap (λ (p : Plain). (500, 0 ∷ 1 ∷ [], pos 1000000000) ∷ (800, 0 ∷ 1 ∷ [], pos 4000000000) ∷ p ∷ []) r_is in
      text_is 4 (s ∷ t ∷ r ∷ []) ∙ ap (plain_text 4) all ∙ plain_reads;
  empty_shells = refl;
}
