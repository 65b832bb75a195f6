-- Two sets with the same members have the same blocks, and the same blocks are reached in both.
use Rattle.std.proofs.Common.{◌≡◌, ℕ, zero, suc, ◌<◌, Bool, true, sym, ap, ◌∙◌, subst, get_or, length}
use Rattle.std.specs.Prelude.{ℤ}
use Rattle.pit_model.specs.Mine.{Instance, members}
use Rattle.pit_model.specs.Certificate.{IsReached}
use Rattle.pit_model.proofs.Members.{members_each}
use Rattle.optimality.proofs.Found.{members_found}

pub members_agree : (n : ℕ) (s t : ℕ → Bool) → members n s ≡ members n t → (u : ℕ) → u < n → s u ≡ true → t u ≡ true
members_agree n s t same u l h =
    let f = members_found n s u l h in
    let each = members_each n t f.0 (subst (λ us. f.0 < length us) same f.1) in
    let at : get_or (members n t) f.0 0 ≡ u = ap (λ us. get_or us f.0 0) (sym same) ∙ f.2 in
    ap t (sym at) ∙ each.1

-- what is reached in one of two sets with the same blocks is reached in the other
pub reached_same : (mine : Instance) (flow : ℕ → ℤ) (s t : ℕ → Bool) → ((u : ℕ) → u < mine.blocks → s u ≡ true → t u ≡ true)
    → (steps b : ℕ) → b < mine.blocks → IsReached mine s flow b steps → IsReached mine t flow b steps
reached_same mine flow s t forth zero b l r = (forth b l r.0, r.1)
reached_same mine flow s t forth (suc steps) b l r = (forth b l r.0, (r.1.0, r.1.1, reached_same mine flow s t forth steps r.1.0 r.1.1 r.1.2, r.1.3))
