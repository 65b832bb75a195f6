-- What the definitions of lists say of short ones: of a pit, of pairs as they come, of fixed blocks, of a journal's entries and of
-- two shells. Each says what is lawful and, beside it, what is not.
use Rattle.std.specs.Prelude.{◌≡◌, pos, [], ◌∷◌}
use Rattle.pit_model.specs.declared.direction.Direction.TheVariants.{Greatest}
use Rattle.pit_model.specs.declared.journal.Verdict.TheVariants.{Applied}
use Rattle.pit_model.specs.declared.shell.Shell.{Shell}
use Rattle.pit_model.specs.Graph.{AreApart}
use Rattle.pit_model.specs.Fixed.{AreFixable}
use Rattle.pit_model.specs.Pit.{ListsPit, no_blocks_fixed}
use Rattle.pit_model.specs.JournalText.{AreSeatedBelow}
use Rattle.pit_model.specs.Shells.{IsWithin}
use Rattle.pit_model.specs.Uniqueness.{plain}
use Rattle.pit_model.specs.ExampleMines.{two_blocks}
use Rattle.pit_model.specs.ExamplePits.{loss}
use Rattle.pit_model.specs.ExampleTraces.{journal_entry}

pub record ShortLists : Type 0 where
  pub pit : ListsPit Greatest (two_blocks (loss 5) (pos 5)) no_blocks_fixed (0 ∷ 1 ∷ [])
  pub pairs_of_one_block : AreApart ((0, 1) ∷ (0, 2) ∷ [])
  pub not_twice : AreApart ((0, 1) ∷ (0, 1) ∷ []) → ⊥
  pub fixable : AreFixable 4 (record { forced = 3 ∷ []; barred = 1 ∷ [] })
  pub not_both : AreFixable 4 (record { forced = 3 ∷ []; barred = 3 ∷ [] }) → ⊥
  pub seated : AreSeatedBelow 3 (journal_entry 64 2 Applied ∷ [])
  pub no_arc_past_the_last : AreSeatedBelow 3 (journal_entry 64 3 Applied ∷ []) → ⊥
  pub no_seat_past_the_last : AreSeatedBelow 3 (journal_entry 65 2 Applied ∷ []) → ⊥
  pub within : (inner outer : Shell) → plain inner ≡ (400, 0 ∷ [], pos 0) → plain outer ≡ (1000, 0 ∷ 1 ∷ [], pos 0) → IsWithin inner outer
  pub not_without : (inner outer : Shell) → plain inner ≡ (400, 0 ∷ [], pos 0) → plain outer ≡ (1000, 0 ∷ 1 ∷ [], pos 0) → IsWithin outer inner → ⊥
