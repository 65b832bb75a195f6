-- What a solve over files in memory writes, by the bytes of the files under their names.
use Rattle.std.specs.Prelude.{◌≡◌, ℕ, List, Option, None, Some, option_copied}
use Rattle.minelib_reader.specs.Upit.{Upit}
use Rattle.minelib_reader.specs.UpitGrammar.{SpellsUpit}
use Rattle.minelib_reader.specs.PrecGrammar.{SpellsPrec}
use Rattle.minelib_reader.specs.FixedGrammar.{SpellsFixed}
use Rattle.mine_graph.specs.FixedBlocks.{no_lists}
use Rattle.pit_model.specs.declared.direction.Direction.{Direction}
use Rattle.pit_model.specs.Fixed.{FixedLists}
use Rattle.pit_model.specs.Graph.{IsAcyclic}
use Rattle.commands.specs.Solve.{IsPitText, mine_of}
use Rattle.commands.specs.declared.options.MineNames.{MineNames}
use Rattle.memory_files.specs.declared.files.MemoryFile.{MemoryFile}
use Rattle.memory_files.specs.MemoryRelations.{text_under}

-- the file of that name spells these fixed blocks of n; without a name nothing is fixed
abbrev pub FixesBlocks : List MemoryFile → Option (List ℕ) → ℕ → FixedLists → Type 0
FixesBlocks files None n lists = lists ≡ no_lists
FixesBlocks files (Some name) n lists = (text : List ℕ) × (text_under files name ≡ Some text) × SpellsFixed n text lists

-- the files of these names spell a mine without a cycle, and this is the text of its pit
pub record SolvesFiles (direction : Direction) (files : List MemoryFile) (names : MineNames) (text : List ℕ) : Type 0 where
  pub model : List ℕ
  pub prec : List ℕ
  pub model_found : text_under files names.model.now ≡ Some model
  pub prec_found : text_under files names.prec.now ≡ Some prec
  pub upit : Upit
  pub pairs : List (ℕ × ℕ)
  pub lists : FixedLists
  pub model_spelled : SpellsUpit model upit
  pub prec_spelled : SpellsPrec upit.n prec pairs
  pub fixed_spelled : FixesBlocks files (option_copied names.fixed) upit.n lists
  pub acyclic : IsAcyclic pairs
  pub solved : IsPitText direction (mine_of upit pairs lists) text
