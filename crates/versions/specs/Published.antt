-- What the two copies of the tree have in common, and what the one that is published is.
use Rattle.std.specs.Prelude.{◌≡◌, ℕ, ◌==◌, ◌&&◌, Bool, if◌then◌else◌, List, [], ◌∷◌, ◌++◌, length, Option, Some, None}
use Rattle.pit_model.specs.Mine.{Instance}
use Rattle.pit_model.specs.Tree.{Tree, MineTree, is_merger}
use Rattle.pit_model.specs.Merger.{merged}
use Rattle.pit_model.specs.Version.{version_tree, IsVersion}

abbrev pub tree_over : Instance → List ℕ → MineTree
tree_over mine arcs = record { mine = mine; tree = version_tree mine arcs }

-- a list, with one arc more if there is one
abbrev pub with_last : List ℕ → Option ℕ → List ℕ
with_last arcs None = arcs
with_last arcs (Some arc) = arcs ++ arc ∷ []

-- the last arc, and 0 where there is none
abbrev pub last_arc_after : ℕ → List ℕ → ℕ
last_arc_after arc [] = arc
last_arc_after arc (next ∷ others) = last_arc_after next others

abbrev pub last_arc : List ℕ → ℕ
last_arc arcs = last_arc_after 0 arcs

-- as many arcs, and the same last one; of two prefixes of one list, with an arc behind one of them, this says that they are equal
abbrev pub are_same : List ℕ → List ℕ → Bool
are_same some others = (length some == length others) && (last_arc some == last_arc others)

-- an instance with a tree over it, and the arcs that it is the version of
pub record Copied : Type 0 where
  pub mine : Instance
  pub tree : Tree
  pub arcs : List ℕ

abbrev pub copied : MineTree → List ℕ → Copied
copied over arcs = record { mine = over.mine; tree = over.tree; arcs = arcs }

-- an arc is taken in: merged over where it is a merger arc and comes behind the arcs so far, and else nothing
abbrev pub taken_in : Copied → List ℕ × ℕ → Copied
taken_in now addition =
    if are_same now.arcs addition.0 && is_merger now.mine now.tree addition.1
    then record { mine = now.mine; tree = merged now.mine now.tree addition.1; arcs = addition.0 ++ addition.1 ∷ [] }
    else now

-- the published copy is the version of the arcs, and nothing is left to be published
pub record IsPublished (mine : Instance) (copy : Copied) (arcs : List ℕ) (pending : List (List ℕ × ℕ)) : Type 0 where
  pub instance : copy.mine ≡ mine
  pub version : IsVersion mine copy.tree arcs
  pub known : copy.arcs ≡ arcs
  pub none_left : pending ≡ []
