-- The weighted amounts of a block are small, and so are their sums.
use Rattle.std.proofs.Common.{◌≡◌, ℕ, suc, ◌+◌, ◌*◌, ◌^◌, ◌<◌, ◌≤◌, List, length, get_or, arith, sym, ap, ◌∙◌, to_z, of_z, below_more, ⊎_elim}
use Rattle.std.specs.Prelude.{ℤ, pos, ◌+ℤ◌, ◌*ℤ◌, ◌≤ℤ◌, ◌==◌, ◌⊎◌}
use Rattle.std.specs.Int.{w128}
use Rattle.std.proofs.lemmas.Int.{ints, to_z-of_z}
use Rattle.std.proofs.lemmas.Nat.{mul-add-lt}
use mir.Val.{SFits}
use Rattle.pit_model.specs.Sum.{total}
use Rattle.schedule_model.specs.Problem.{Problem, amount_in, term_at}
use Rattle.scheduling.specs.Limits.{IsWithinDistance, IsBoundedProblem, most_column, most_price}
use Rattle.scheduling.specs.Weights.{AreSmallWeights, part_of_gain, weighted}
use Rattle.scheduling.specs.Gains.{IsGreatest, most_gain}
use Rattle.scheduling.proofs.Small.{within_product, within_total, within_when}

-- a number that is added to a sum, as the machine holds both
pub held_sum : (n m k : ℕ) (f : ℕ → ℤ) (sum x : ℤ) → n < 2 ^ 126 → m < 2 ^ 126 → sum ≡ total k f → x ≡ f k → IsWithinDistance n (f k) → IsWithinDistance m (total k f)
    → SFits w128 (sum +ℤ to_z w128 (of_z w128 x)) × (to_z w128 (of_z w128 (sum +ℤ to_z w128 (of_z w128 x))) ≡ total (k + 1) f)
held_sum n m k f sum x small few is last one rest =
    let a = one.low in
    let b = one.high in
    let c = rest.low in
    let d = rest.high in
    let fits : SFits w128 x = omega (arith, ints) in
    let held : to_z w128 (of_z w128 x) ≡ x = to_z-of_z w128 x fits in
    let both : SFits w128 (sum +ℤ to_z w128 (of_z w128 x)) = omega (arith, ints) in
    let more : k + 1 ≡ suc k = omega arith in
    (both, to_z-of_z w128 (sum +ℤ to_z w128 (of_z w128 x)) both ∙ (let s : sum +ℤ to_z w128 (of_z w128 x) ≡ total (suc k) f = omega (arith, ints) in s) ∙ sym (ap (λ j. total j f) more))

pub amount_within : (problem : Problem) (b c : ℕ) → IsBoundedProblem problem → b < problem.blocks → c < problem.columns → IsWithinDistance most_column (amount_in problem b c)
amount_within problem b c limits hb hc =
    let at = mul-add-lt b problem.columns c problem.blocks hb hc in
    let count = limits.amount_count in
    limits.amounts (b * problem.columns + c) (omega arith)

module _ (problem : Problem) (weights : List ℤ) (limits : IsBoundedProblem problem) (small : AreSmallWeights problem weights) where
  pub part_within : (b d k : ℕ) → b < problem.blocks → k < length problem.terms → IsWithinDistance (10 ^ 31) (part_of_gain problem weights b d k)
  part_within b d k hb hk =
      let count = small.count in
      within_when (10 ^ 31) ((term_at problem k).destination == d) (amount_in problem b (term_at problem k).column *ℤ get_or weights k (pos 0))
      (within_product most_column most_price (amount_in problem b (term_at problem k).column) (get_or weights k (pos 0)) (amount_within problem b (term_at problem k).column limits hb (limits.terms k hk).column) (small.small k (omega arith)))

  pub sum_within : (b d count : ℕ) → b < problem.blocks → count ≤ length problem.terms → IsWithinDistance most_gain (total count (part_of_gain problem weights b d))
  sum_within b d count hb few =
      let all = within_total (10 ^ 31) count (part_of_gain problem weights b d) (λ k h. part_within b d k hb (omega arith)) in
      let terms = limits.few_terms in
      let low = all.low in
      let high = all.high in
      record { low = omega (arith, ints); high = omega (arith, ints) }

-- one destination more
pub greatest_more : (problem : Problem) (weights : List ℤ) (b count : ℕ) (best gain r : ℤ) → IsGreatest problem weights b count best → gain ≡ weighted problem weights b count → (r ≡ best) ⊎ (r ≡ gain) → best ≤ℤ r → gain ≤ℤ r → IsGreatest problem weights b (count + 1) r
greatest_more problem weights b count best gain r so_far is one first second = record {
  reached =
      ⊎_elim
      (λ e. (so_far.reached.0, omega (arith, so_far.reached.1), so_far.reached.2 ∙ sym e))
      (λ e. (count, omega arith, sym is ∙ sym e))
      one;
  most = below_more (λ d. weighted problem weights b d ≤ℤ r) count (λ d h. let m = so_far.most d h in omega (arith, ints)) (omega (arith, ints));
}
