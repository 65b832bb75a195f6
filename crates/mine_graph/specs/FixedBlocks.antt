-- Fixed blocks in memory: the lists that were given, what must be dug and what must be left.
use Rattle.std.specs.Prelude.{◌≡◌, ℕ, false, Bool, List, [], get_or, Option, Some, None}
use Rattle.pit_model.specs.Graph.{Graph}
use Rattle.pit_model.specs.Fixed.{AreFixable, AreSettled, FixedLists, IsClash, IsClashFree, fixed_of}
use Rattle.faults.specs.declared.fault.Fault.{Fault}
use Rattle.faults.specs.declared.refusal.Refusal.{Refusal}
use Rattle.faults.specs.declared.refusal.Refusal.TheVariants.{NoMemory, FixedClash}
use Rattle.faults.specs.Refused.{clash, no_memory}
use Rattle.mine_graph.specs.declared.fixed.Settled.{Settled}

-- the lists of the blocks forced in and of those barred, and a mark for each block that must be dug, and for each that must be
-- left
pub record FixedBlocks : Type 0 where
  pub lists : FixedLists
  pub dug_marks : List Bool
  pub left_marks : List Bool

abbrev pub lists_of : List ℕ → List ℕ → FixedLists
lists_of forced barred = record { forced = forced; barred = barred }

-- no list names a block
abbrev pub no_lists : FixedLists
no_lists = lists_of [] []

-- the mark of a block; none outside the list
abbrev pub mark_of : List Bool → ℕ → Bool
mark_of marks u = get_or marks u false

-- the block must be dug; it must be left
abbrev pub forced_closure : FixedBlocks → ℕ → Bool
forced_closure fixed u = mark_of fixed.dug_marks u

abbrev pub barred_closure : FixedBlocks → ℕ → Bool
barred_closure fixed u = mark_of fixed.left_marks u

-- fixed blocks of a graph: none is both to be dug and barred
pub record IsFixedOf (graph : Graph) (fixed : FixedBlocks) : Type 0 where
  pub fixable : AreFixable graph.blocks fixed.lists
  pub settled : AreSettled graph.pairs (fixed_of fixed.lists) (forced_closure fixed) (barred_closure fixed)
  pub clash_free : IsClashFree (fixed_of fixed.lists) (forced_closure fixed)

-- why blocks can't be fixed: no memory; or the least barred block that must be dug
abbrev pub RefusesFixed : Graph → FixedLists → Refusal → Fault → Type 0
RefusesFixed graph lists NoMemory fault = fault ≡ no_memory
RefusesFixed graph lists (FixedClash block) fault = (fault ≡ clash block) × IsClash graph.pairs (fixed_of lists) block
RefusesFixed graph lists _ fault = ⊥

-- what a value in memory stands for; nothing is fixed where it holds no lists
abbrev pub seen_as : Option Settled → FixedBlocks
seen_as None = record { lists = no_lists; dug_marks = []; left_marks = [] }
seen_as (Some s) = record { lists = lists_of s.forced.items s.barred.items; dug_marks = s.dug.items; left_marks = s.left.items }
