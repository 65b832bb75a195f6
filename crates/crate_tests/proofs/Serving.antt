-- What the holder's seat holds after a claim, for callers that go on from it.
use Rattle.std.proofs.Common.{◌≡◌, ℕ, zero, suc, ◌-◌, ◌<◌, ◌≤◌, List, [], ◌∷◌, length, get_or, set, Some, refl, ap, ◌∙◌, subst, sym, arith, length-set}
use Rattle.proposals.specs.declared.seat_state.Served.{Served}
use Rattle.proposals.specs.Ledger.{nothing_served, served, claimed_from, answered_to, claiming}

set_there : (ss : List Served) (i : ℕ) (x : Served) → i < length ss → get_or (set ss i x) i nothing_served ≡ x
set_there [] i x lt = absurd (omega arith)
set_there (y ∷ ys) zero x lt = refl
set_there (y ∷ ys) (suc i) x lt = set_there ys i x (omega arith)

pub claimed_here : (ss : List Served) (i a : ℕ) → i < length ss → claimed_from (claiming ss i a) i ≡ Some a
claimed_here ss i a lt = ap (λ (x : Served). x.claimed) (set_there ss i (served (answered_to ss i) (Some a)) lt)

-- the claim is known of the list that the claim made
pub claimed_in : (ss ts : List Served) (w a : ℕ) → 0 < w → w ≤ length ss → ts ≡ claiming ss (w - 1) a → claimed_from ts (w - 1) ≡ Some a
claimed_in ss ts w a low high e = subst (λ (l : List Served). claimed_from l (w - 1) ≡ Some a) (sym e) (claimed_here ss (w - 1) a (omega (arith, low, high)))

pub as_long : (ss ts : List Served) (i : ℕ) (x : Served) → ts ≡ set ss i x → length ts ≡ length ss
as_long ss ts i x e = ap length e ∙ length-set ss i x
