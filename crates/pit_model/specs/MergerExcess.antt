-- What a merger makes of excesses and parents along its path (Hochbaum 2008).
use Rattle.std.specs.Prelude.{◌≡◌, ℕ, suc, ◌<◌, ◌≤◌, ◌+ℤ◌, ◌-ℤ◌, ◌≤ℤ◌, ◌<ℤ◌, IsTrue, List, length, Some, None}
use Rattle.pit_model.specs.Mine.{Instance, IsSimple}
use Rattle.pit_model.specs.Flow.{excess}
use Rattle.pit_model.specs.Tree.{Tree, parent, flow, is_merger, IsNormalised}
use Rattle.pit_model.specs.Merger.{carried, merged, merger_path}
use Rattle.pit_model.specs.Path.{at}

-- of a tree and the tree after a merger over a path with places 0 .. last. What is carried never grows on its way. Where all of it
-- goes on, the next block is the parent; where some is held back, the block is a root that keeps that. The last block
-- stays a root and gains what comes through. All else stays
pub record MovesExcess (mine : Instance) (tree after : Tree) (path : List ℕ) (last : ℕ) : Type 0 where
  pub size : length path ≡ suc last
  pub begins : carried mine tree path 0 ≡ excess mine (flow tree) (at path 0)
  pub falls : (i : ℕ) → i < last → carried mine tree path (suc i) ≤ℤ carried mine tree path i
  pub goes_on : (i : ℕ) → i < last → carried mine tree path (suc i) ≡ carried mine tree path i → parent after.parents (at path i) ≡ Some (at path (suc i))
  pub held_back : (i : ℕ) → i < last → carried mine tree path (suc i) <ℤ carried mine tree path i → parent after.parents (at path i) ≡ None
  pub keeps : (i : ℕ) → i < last → excess mine (flow after) (at path i) ≡ carried mine tree path i -ℤ carried mine tree path (suc i)
  pub stays_root : parent after.parents (at path last) ≡ None
  pub gains : excess mine (flow after) (at path last) ≡ excess mine (flow tree) (at path last) +ℤ carried mine tree path last
  pub other_excess : (u : ℕ) → ((i : ℕ) → i ≤ last → at path i ≡ u → ⊥) → excess mine (flow after) u ≡ excess mine (flow tree) u
  pub other_parent : (u : ℕ) → u < mine.blocks → ((i : ℕ) → i ≤ last → at path i ≡ u → ⊥) → parent after.parents u ≡ parent tree.parents u

-- the law: so does each merger
abbrev pub MergerMovesExcess : Type 0
MergerMovesExcess =
    (mine : Instance) (tree : Tree) (k : ℕ) → IsSimple mine → IsNormalised mine tree → IsTrue (is_merger mine tree k)
    → (last : ℕ) × MovesExcess mine tree (merged mine tree k) (merger_path mine tree k) last
