-- Each pair begins two blocks behind the one before.
use Rattle.std.proofs.Common.{◌≡◌, ℕ, zero, suc, ◌*◌, ◌+◌, ◌<◌, refl, List, ◌∷◌, [], arith}
use Rattle.pit_model.specs.Graph.{first_of}
use Rattle.refused_memory.proofs.mine.mine.Goals as goal

abbrev pairs : List (ℕ × ℕ)
pairs = (1, 0) ∷ (3, 2) ∷ (5, 4) ∷ (7, 6) ∷ (9, 8) ∷ (11, 10) ∷ []

firsts : (k : ℕ) → k < 6 → first_of pairs k ≡ 2 * k + 1
firsts zero l = refl
firsts (suc zero) l = refl
firsts (suc (suc zero)) l = refl
firsts (suc (suc (suc zero))) l = refl
firsts (suc (suc (suc (suc zero)))) l = refl
firsts (suc (suc (suc (suc (suc zero))))) l = refl
firsts (suc (suc (suc (suc (suc (suc k)))))) l = absurd (omega arith)

pub from_pairs-requires-clause-order : goal.from_pairs-requires-clause-order
from_pairs-requires-clause-order c k l h m = let one = firsts k (omega arith) in let two = firsts l m in omega arith

pub from_pairs-requires-clause-below : goal.from_pairs-requires-clause-below
from_pairs-requires-clause-below c k l = let one = firsts k l in omega arith
