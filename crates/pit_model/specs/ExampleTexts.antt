-- The texts of small answers, byte by byte.
use Rattle.std.specs.Prelude.{◌≡◌, pos, neg_ℤ, [], ◌∷◌, Some, None, codes}
use Rattle.pit_model.specs.declared.journal.Verdict.TheVariants.{Applied, Stale, Spent}
use Rattle.pit_model.specs.declared.shell.Shell.{Shell}
use Rattle.pit_model.specs.PitText.{pit_text}
use Rattle.pit_model.specs.JournalText.{journal_text}
use Rattle.pit_model.specs.ShellText.{shells_text}
use Rattle.pit_model.specs.Uniqueness.{plain}
use Rattle.pit_model.specs.ExampleTraces.{journal_entry}

-- the law: so they read
pub record TextsOfSmallAnswers : Type 0 where
  pub pit : pit_text 5 (1 ∷ 4 ∷ []) (neg_ℤ (pos 3000001)) ≡ codes "PIT\nBLOCKS: 5\nIN: 2\nWORTH: -3.000001\n1\n4\n"
  pub empty_pit : pit_text 1 [] (pos 0) ≡ codes "PIT\nBLOCKS: 1\nIN: 0\nWORTH: 0.000000\n"
  pub journal :
      journal_text 4 3 (Some 20) (journal_entry 1 0 Applied ∷ journal_entry 12 2 Stale ∷ journal_entry 0 1 Spent ∷ [])
      ≡ codes "PITJOURNAL 1\nBLOCKS: 4\nARCS: 3\nBUDGET: 20\nENTRIES: 3\n1 0 1\n12 2 2\n0 1 3\n"
  pub empty_journal : journal_text 4 3 None [] ≡ codes "PITJOURNAL 1\nBLOCKS: 4\nARCS: 3\nBUDGET: none\nENTRIES: 0\n"
  pub shells :
      (s t r : Shell) → plain s ≡ (500, 0 ∷ 1 ∷ [], pos 1000000000) → plain t ≡ (800, 0 ∷ 1 ∷ [], pos 4000000000) → plain r ≡ (900, 0 ∷ 1 ∷ 2 ∷ [], pos 6000000000)
      → shells_text 4 (s ∷ t ∷ r ∷ [])
      ≡ codes "SHELLS\nBLOCKS: 4\nFACTORS: 3\n500 2 1.000000000\n800 2 4.000000000\n900 3 6.000000000\n0 500\n1 500\n2 900\n"
  pub empty_shells : shells_text 2 [] ≡ codes "SHELLS\nBLOCKS: 2\nFACTORS: 0\n"
