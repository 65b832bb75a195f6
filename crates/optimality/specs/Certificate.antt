-- What a certificate of a mine is, and that of a tree.
use Rattle.std.specs.Prelude.{◌≡◌, ℕ, false, IsTrue, Option, Some, None}
use Rattle.pit_model.specs.Mine.{Instance, arcs, members}
use Rattle.pit_model.specs.Tree.{MineTree, is_strong, is_merger}
use Rattle.pit_model.specs.Certificate.{IsCertificate}
use Rattle.pit_model.specs.Pit.{Fixed}
use Rattle.pit_model.specs.Fixed.{IsFixedCertificate}
use Rattle.optimality.specs.Check.{IsCandidate}
use Rattle.optimality.specs.declared.pit_with_flow.Certificate.{Certificate}

-- a certificate of a mine: it meets the conditions, and may be written and checked
pub record IsCertificateOf (mine : Instance) (c : Certificate) : Type 0 where
  pub certifies : IsCertificate mine c.pit.items c.flow.items
  pub candidate : IsCandidate mine.blocks (arcs mine) c.pit.items c.flow.items

-- a certificate of a mine with fixed blocks
pub record IsFixedCertificateOf (mine : Instance) (fixed : Fixed) (c : Certificate) : Type 0 where
  pub certifies : IsFixedCertificate mine fixed c.pit.items c.flow.items
  pub candidate : IsCandidate mine.blocks (arcs mine) c.pit.items c.flow.items

-- the strong blocks and the flow, which are a certificate of the tree's mine
pub record IsOfTree (t : MineTree) (c : Certificate) : Type 0 where
  pub no_merger : (k : ℕ) → is_merger t.mine t.tree k ≡ false
  pub strong : c.pit.items ≡ members t.mine.blocks (is_strong t.mine t.tree)
  pub flow : c.flow.items ≡ t.tree.flows
  pub of_mine : IsCertificateOf t.mine c

-- nothing where a merger arc is left, and else the certificate
abbrev pub AnswersTree : MineTree → Option Certificate → Type 0
AnswersTree t None = (k : ℕ) × IsTrue (is_merger t.mine t.tree k)
AnswersTree t (Some c) = IsOfTree t c
