-- What shows the pit: the strong blocks of a tree with no merger arc left, and a certificate.
use Rattle.std.proofs.Common.{Vec, Global, ◌≡◌, ℕ, refl, false, subst, List, Result, Ok, Err}
use Rattle.std.specs.Prelude.{IfOk}
use Rattle.faults.specs.declared.fault.Fault.{Fault}
use Rattle.pit_model.specs.Mine.{Instance, members}
use Rattle.pit_model.specs.Limits.{IsInstance}
use Rattle.pit_model.specs.Tree.{MineTree, is_strong, is_merger, IsNormalised}
use Rattle.pit_model.proofs.Simple.{instance_is_simple}
use Rattle.optimality.specs.declared.pit_with_flow.Certificate.{Certificate}
use Rattle.optimality.specs.Certificate.{IsCertificateOf}
use Rattle.pit_model.specs.declared.direction.Direction.TheVariants.{Least}
use Rattle.pit_model.specs.Pit.{ListsPit, no_blocks_fixed}
use Rattle.optimality.proofs.Checked.{shows}
use Rattle.optimality.proofs.OfTree.{is_certificate}

pub strong_blocks_show :
    (t : MineTree) (mine : Instance) (pit : List ℕ) → t.mine ≡ mine → IsInstance t.mine → IsNormalised t.mine t.tree
    → ((k : ℕ) → is_merger t.mine t.tree k ≡ false) → pit ≡ members t.mine.blocks (is_strong t.mine t.tree)
    → ListsPit Least mine no_blocks_fixed pit
strong_blocks_show t mine pit same is good none strong =
    subst (λ (m : Instance). ListsPit Least m no_blocks_fixed pit) same
    (shows t.mine pit t.tree.flows (instance_is_simple t.mine is).in_range (is_certificate t pit t.tree.flows is good none strong refl))

-- so does what a call gives of them, where it isn't refused
pub answered_blocks_show :
    (t : MineTree) (mine : Instance) (r : Result (Vec ℕ Global) Fault) → t.mine ≡ mine → IsInstance t.mine → IsNormalised t.mine t.tree
    → ((k : ℕ) → is_merger t.mine t.tree k ≡ false) → IfOk r (λ v. v.items ≡ members t.mine.blocks (is_strong t.mine t.tree))
    → IfOk r (λ v. ListsPit Least mine no_blocks_fixed v.items)
answered_blocks_show t mine (Ok v) same is good none strong = strong_blocks_show t mine v.items same is good none strong
answered_blocks_show t mine (Err e) same is good none strong = tt

pub certificate_shows : (mine : Instance) (c : Certificate) → IsInstance mine → IsCertificateOf mine c → ListsPit Least mine no_blocks_fixed c.pit.items
certificate_shows mine c is of_mine = shows mine c.pit.items c.flow.items (instance_is_simple mine is).in_range of_mine.certifies
