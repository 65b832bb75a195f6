-- The amounts of some blocks are amounts as well.
use Rattle.std.proofs.Common.{◌≡◌, ℕ, ◌<◌, ◌≤◌, ◌^◌, sym, subst, arith, List, get_or, length}
use Rattle.std.specs.Prelude.{ℤ, pos, ◌≤ℤ◌}
use Rattle.std.specs.List.{All}
use Rattle.std.proofs.lemmas.List.{get_or-map, length-map}
use Rattle.std.proofs.lemmas.List.Elements.{All-get_or}
use Rattle.pit_model.specs.Deposit.{IsAmount}
use Rattle.nesting.specs.Prices.{ArePrices}
use Rattle.nesting.specs.Outermost.{amounts_of}

amounts_some : (n : ℕ) (amounts : List ℤ) (blocks : List ℕ) → IsAmount n amounts → All (λ u. u < n) blocks → IsAmount (length blocks) (amounts_of amounts blocks)
amounts_some n amounts blocks are inside =
    let at : (u : ℕ) → u < length blocks → get_or (amounts_of amounts blocks) u (pos 0) ≡ get_or amounts (get_or blocks u 0) (pos 0) = λ u l. get_or-map (λ v. get_or amounts v (pos 0)) blocks u 0 (pos 0) l in
    let below : (u : ℕ) → u < length blocks → get_or blocks u 0 < n = λ u l. All-get_or (λ v. v < n) blocks u 0 l inside in
    record {
      count = length-map blocks (λ v. get_or amounts v (pos 0));
      least = λ u l. subst (λ x. pos 0 ≤ℤ x) (sym (at u l)) (are.least (get_or blocks u 0) (below u l));
      most = λ u l. subst (λ x. x ≤ℤ pos (10 ^ 18)) (sym (at u l)) (are.most (get_or blocks u 0) (below u l));
    }

pub prices_some : (revenues costs rs cs : List ℤ) (blocks : List ℕ) → ArePrices revenues costs → length blocks ≤ 2 ^ 22 → All (λ u. u < length revenues) blocks → rs ≡ amounts_of revenues blocks → cs ≡ amounts_of costs blocks → ArePrices rs cs
prices_some revenues costs rs cs blocks are few inside rs_are cs_are =
    let size : length (amounts_of revenues blocks) ≡ length blocks = length-map blocks (λ v. get_or revenues v (pos 0)) in
    let fewer : length (amounts_of revenues blocks) ≤ 2 ^ 22 = omega arith in
    subst (λ (xs : List ℤ). ArePrices xs cs) (sym rs_are)
    (subst (λ (ys : List ℤ). ArePrices (amounts_of revenues blocks) ys) (sym cs_are)
    (record {
      few = fewer;
      revenue = subst (λ k. IsAmount k (amounts_of revenues blocks)) (sym size) (amounts_some (length revenues) revenues blocks are.revenue inside);
      cost = subst (λ k. IsAmount k (amounts_of costs blocks)) (sym size) (amounts_some (length revenues) costs blocks are.cost inside);
    }))
