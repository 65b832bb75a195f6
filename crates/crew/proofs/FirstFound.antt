-- What is found first in a range is the least number of the range for which a test holds.
use Rattle.std.proofs.Common.{◌≡◌, ℕ, zero, suc, ◌+◌, ◌<◌, ◌≤◌, Bool, true, false, refl, ap, sym, arith, ◌∙◌, subst, ⊎_elim}
use Rattle.std.specs.Prelude.{Option, Some, None, IsTrue, ◌&&◌, not, cond}
use Rattle.std.specs.List.{find, range_with_len}
use Rattle.std.proofs.lemmas.Bool.{cases_lt, le-ltb}
use Rattle.pit_model.specs.Mine.{Instance, arcs, source, target}
use Rattle.pit_model.specs.Tree.{Tree, is_merger, is_strong}
use Rattle.pit_model.specs.FirstRun.{IsFirstMerger}

-- the least number from a on that passes, of so many; or there is none
abbrev pub FoundFrom : (ℕ → Bool) → ℕ → ℕ → Option ℕ → Type 0
FoundFrom p a n None = (l : ℕ) → a ≤ l → l < a + n → p l ≡ false
FoundFrom p a n (Some k) = IsTrue (p k) × ((l : ℕ) → a ≤ l → l < k → p l ≡ false)

-- the first number does not pass, and what comes behind it is as said
found_later : (p : ℕ → Bool) (a n : ℕ) (r : Option ℕ) → p a ≡ false → FoundFrom p (a + 1) n r → FoundFrom p a (suc n) r
found_later p a n None off rest = λ l low high. ⊎_elim
    (λ (h : a < l). rest l (omega arith) (omega arith))
    (λ (h : l ≤ a). let e : l ≡ a = omega arith in ap p e ∙ off)
    (cases_lt a l)
found_later p a n (Some k) off rest = (
  rest.0,
  λ l low high. ⊎_elim
      (λ (h : a < l). rest.1 l (omega arith) high)
      (λ (h : l ≤ a). let e : l ≡ a = omega arith in ap p e ∙ off)
      (cases_lt a l),
)

pub found_from : (p : ℕ → Bool) (a n : ℕ) → FoundFrom p a n (find p (range_with_len a n))
found_from p a zero = λ l low high. absurd (omega arith)
found_from p a (suc n) = go (p a) refl (found_from p (a + 1) n)
  where
    go : (b : Bool) → p a ≡ b → FoundFrom p (a + 1) n (find p (range_with_len (a + 1) n)) → FoundFrom p a (suc n) (find p (range_with_len a (suc n)))
    go true e rest = subst (FoundFrom p a (suc n)) (ap (λ b. cond b (Some a) (find p (range_with_len (a + 1) n))) (sym e)) (e, λ l low high. absurd (omega arith))
    go false e rest = subst (FoundFrom p a (suc n)) (ap (λ b. cond b (Some a) (find p (range_with_len (a + 1) n))) (sym e)) (found_later p a n (find p (range_with_len (a + 1) n)) e rest)

-- what is found first among all arcs is the first merger arc
pub first_of_all : (mine : Instance) (tree : Tree) (r : Option ℕ) → FoundFrom (is_merger mine tree) 0 (arcs mine) r → IsFirstMerger mine tree r
first_of_all mine tree None found = λ k. ⊎_elim
    (λ (inside : k < arcs mine). found k (omega arith) (omega arith))
    (λ (past : arcs mine ≤ k). ap (λ b. b && is_strong mine tree (source mine k) && not (is_strong mine tree (target mine k))) (le-ltb k (arcs mine) past))
    (cases_lt k (arcs mine))
first_of_all mine tree (Some k) found = (found.0, λ l less. found.1 l (omega arith) less)
