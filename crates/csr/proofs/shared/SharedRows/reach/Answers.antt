-- A difference below 2^31 leads ahead, since a target is below 2^31; any other leads back.
use Rattle.std.proofs.Common.{◌≡◌, ℕ, ◌+◌, ◌-◌, ◌^◌, ◌<◌, ◌≤◌, List, get_or, length, ap, refl, subst, arith, ⊎_elim}
use Rattle.std.proofs.lemmas.Bool.{cases_lt}
use Rattle.pit_model.specs.Graph.{Graph, first_of, second_of, AreInRange}
use Rattle.csr.specs.Rows.{pairs_of}
use Rattle.csr.specs.Shared.{shared_targets, target_after, AreShared}
use Rattle.csr.specs.Transposed.{LeadAtMost}
use Rattle.csr.proofs.Patterns.{difference_inside, second_shared, shared_place}
use Rattle.csr.proofs.shared.SharedRows.reach.Goals as goal

leads : (u d n second ahead back : ℕ) → second ≡ target_after u d → u < n → second < n → n < 2 ^ 31 → d < 2 ^ 32 → (d < 2 ^ 31 → d ≤ ahead) → (2 ^ 31 ≤ d → 2 ^ 32 ≤ d + back)
    → (second ≤ u + ahead) × (u ≤ second + back)
leads u d n second ahead back is below low few fits forward backward = ⊎_elim
    (λ (less : d < 2 ^ 31). let most = forward less in (omega arith, omega arith))
    (λ (more : 2 ^ 31 ≤ d). let most = backward more in (omega arith, omega arith))
    (cases_lt d (2 ^ 31))

module _ (offsets patterns differences : List ℕ) (are : AreShared offsets patterns differences) (n ahead back : ℕ) (few : n < 2 ^ 31)
    (range : AreInRange (pairs_of offsets (shared_targets offsets patterns differences)) n)
    (fits : (k : ℕ) → k < length differences → get_or differences k 0 < 2 ^ 32)
    (forward : (k : ℕ) → k < length differences → get_or differences k 0 < 2 ^ 31 → get_or differences k 0 ≤ ahead)
    (backward : (k : ℕ) → k < length differences → 2 ^ 31 ≤ get_or differences k 0 → 2 ^ 32 ≤ get_or differences k 0 + back) where
  abbrev pairs : List (ℕ × ℕ)
  pairs = pairs_of offsets (shared_targets offsets patterns differences)

  lead : (k : ℕ) → k < length pairs → (second_of pairs k ≤ first_of pairs k + ahead) × (first_of pairs k ≤ second_of pairs k + back)
  lead k l =
      let u : ℕ = first_of pairs k in
      let there = shared_place offsets patterns differences are u k l refl in
      let j : ℕ = get_or patterns u 0 + (k - get_or offsets u 0) in
      let inside : j < length differences = difference_inside offsets patterns differences are u k there.0 there.1 there.2 in
      leads u (get_or differences j 0) n (second_of pairs k) ahead back (second_shared offsets patterns differences are u k there.0 there.1 there.2)
      (range k l).0 (range k l).1 few (fits j inside) (forward j inside) (backward j inside)

  lead_all : LeadAtMost pairs ahead back
  lead_all = record { forward = λ k l. (lead k l).0; backward = λ k l. (lead k l).1 }

pub returns-clause-reach : goal.returns-clause-reach
returns-clause-reach c =
    let offsets = c.self.inside.offsets.items in
    let patterns = c.self.inside.patterns.items in
    let differences = c.self.inside.differences.items in
    let e = ap (λ (g : Graph). g.pairs) c.self.view_is in
    let range : AreInRange (pairs_of offsets (shared_targets offsets patterns differences)) c.args.self.now.blocks = rw e c.requires.range in
    subst (λ q. LeadAtMost q c.reach_of.result.ahead c.reach_of.result.back) e
    (lead_all offsets patterns differences c.self.invariant c.args.self.now.blocks c.reach_of.result.ahead c.reach_of.result.back c.requires.few range
    (subst (λ (xs : List ℕ). (k : ℕ) → k < length xs → get_or xs k 0 < 2 ^ 32) c.deref.ensures.value c.reach_of.ensures.fits)
    (subst (λ (xs : List ℕ). (k : ℕ) → k < length xs → get_or xs k 0 < 2 ^ 31 → get_or xs k 0 ≤ c.reach_of.result.ahead) c.deref.ensures.value c.reach_of.ensures.ahead)
    (subst (λ (xs : List ℕ). (k : ℕ) → k < length xs → 2 ^ 31 ≤ get_or xs k 0 → 2 ^ 32 ≤ get_or xs k 0 + c.reach_of.result.back) c.deref.ensures.value c.reach_of.ensures.back))
