-- Conditions on all blocks and pairs of a small mine, as one test that computes.
use Rattle.std.proofs.Common.{◌≡◌, ℕ, zero, suc, ◌<◌, ◌&&◌, ◌||◌, not, Bool, true, false, refl, ap, ◌∙◌, arith, ⊎_elim}
use Rattle.std.specs.Prelude.{ℤ, pos, ◌≤ℤ◌, int_lt, nat_lt, IsTrue}
use Rattle.std.proofs.lemmas.Int.{ints}
use Rattle.std.proofs.lemmas.Bool.{cases_eq, false≢true}
use Rattle.pit_model.specs.Mine.{Instance, arcs, source, target, PairsInRange}
use Rattle.pit_model.specs.Flow.{excess}
use Rattle.pit_model.specs.Certificate.{Certifies, IsReached}

abbrev pub all_below : ℕ → (ℕ → Bool) → Bool
all_below zero test = true
all_below (suc n) test = all_below n test && test n

both : (a b : Bool) → (a && b) ≡ true → (a ≡ true) × (b ≡ true)
both true b h = (refl, h)
both false b h = absurd (false≢true h)

pub each_below : (n : ℕ) (test : ℕ → Bool) → all_below n test ≡ true → (k : ℕ) → k < n → test k ≡ true
each_below zero test all k l = absurd (omega arith)
each_below (suc n) test all k l =
    let parts = both (all_below n test) (test n) all in
    ⊎_elim (λ (e : k ≡ n). ap test e ∙ parts.1) (λ (ne : k ≡ n → ⊥). each_below n test parts.0 k (omega arith)) (cases_eq k n)

pub implied : (a b : Bool) → (not a || b) ≡ true → a ≡ true → b ≡ true
implied true b h e = h
implied false b h e = absurd (false≢true e)

left_out : (a b : Bool) → (a || b) ≡ true → (a ≡ true → ⊥) → b ≡ true
left_out true b h off = absurd (off refl)
left_out false b h off = h

abbrev is_not_negative : ℤ → Bool
is_not_negative x = not (int_lt x (pos 0))

abbrev is_not_positive : ℤ → Bool
is_not_positive x = not (int_lt (pos 0) x)

low : (x : ℤ) → is_not_negative x ≡ true → pos 0 ≤ℤ x
low x h = grind (arith, ints)

high : (x : ℤ) → is_not_positive x ≡ true → x ≤ℤ pos 0
high x h = grind (arith, ints)

none : (x : ℤ) → (is_not_negative x && is_not_positive x) ≡ true → x ≡ pos 0
none x h = let h = both (is_not_negative x) (is_not_positive x) h in let a = low x h.0 in let b = high x h.1 in omega (arith, ints)

less : (a b : ℕ) → nat_lt a b ≡ true → a < b
less a b h = grind (arith)

pub in_range : (mine : Instance) → all_below (arcs mine) (λ k. nat_lt (source mine k) mine.blocks && nat_lt (target mine k) mine.blocks) ≡ true → PairsInRange mine
in_range mine tested k l =
    let here = both (nat_lt (source mine k) mine.blocks) (nat_lt (target mine k) mine.blocks) (each_below (arcs mine) (λ i. nat_lt (source mine i) mine.blocks && nat_lt (target mine i) mine.blocks) tested k l) in
    (less (source mine k) mine.blocks here.0, less (target mine k) mine.blocks here.1)

-- the conditions of a certificate at one pair and at one block
abbrev pub closed_at : Instance → (ℕ → Bool) → ℕ → Bool
closed_at mine set k = not (set (source mine k)) || set (target mine k)

abbrev pub inside_at : Instance → (ℕ → Bool) → (ℕ → ℤ) → ℕ → Bool
inside_at mine set flow u = not (set u) || is_not_negative (excess mine flow u)

abbrev pub outside_at : Instance → (ℕ → Bool) → (ℕ → ℤ) → ℕ → Bool
outside_at mine set flow u = set u || is_not_positive (excess mine flow u)

abbrev pub none_enters_at : Instance → (ℕ → Bool) → (ℕ → ℤ) → ℕ → Bool
none_enters_at mine set flow k = not (set (target mine k)) || (set (source mine k) || (is_not_negative (flow k) && is_not_positive (flow k)))

abbrev pub gives_at : (ℕ → ℤ) → ℕ → Bool
gives_at flow k = is_not_negative (flow k)

module _ (mine : Instance) (set : ℕ → Bool) (flow : ℕ → ℤ) where
  pub certified :
      all_below (arcs mine) (closed_at mine set) ≡ true → all_below (arcs mine) (gives_at flow) ≡ true
      → all_below mine.blocks (inside_at mine set flow) ≡ true → all_below mine.blocks (outside_at mine set flow) ≡ true
      → all_below (arcs mine) (none_enters_at mine set flow) ≡ true
      → ((u : ℕ) → u < mine.blocks → IsTrue (set u) → (steps : ℕ) × IsReached mine set flow u steps) → Certifies mine set flow
  certified closed gives inside outside enters reached = record {
    closed = λ k l h. implied (set (source mine k)) (set (target mine k)) (each_below (arcs mine) (closed_at mine set) closed k l) h;
    not_negative = λ k l. low (flow k) (each_below (arcs mine) (gives_at flow) gives k l);
    inside = λ u l h. low (excess mine flow u) (implied (set u) (is_not_negative (excess mine flow u)) (each_below mine.blocks (inside_at mine set flow) inside u l) h);
    outside = λ u l h. high (excess mine flow u) (left_out (set u) (is_not_positive (excess mine flow u)) (each_below mine.blocks (outside_at mine set flow) outside u l) h);
    none_enters = λ k l h off. none (flow k) (left_out (set (source mine k)) (is_not_negative (flow k) && is_not_positive (flow k))
        (implied (set (target mine k)) (set (source mine k) || (is_not_negative (flow k) && is_not_positive (flow k))) (each_below (arcs mine) (none_enters_at mine set flow) enters k l) h) off);
    reached = reached;
  }
