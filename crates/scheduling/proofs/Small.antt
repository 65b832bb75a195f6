-- Numbers within a distance of 0: their products and sums.
use Rattle.std.proofs.Common.{ℕ, zero, suc, ◌*◌, ◌<◌, ◌≤◌, arith}
use Rattle.std.specs.Prelude.{ℤ, pos, negsuc, ◌*ℤ◌, Bool, true, false}
use Rattle.std.proofs.lemmas.Int.{ints}
use Rattle.std.proofs.lemmas.Nat.{mul-le}
use Rattle.pit_model.specs.Sum.{total, when}
use Rattle.scheduling.specs.Limits.{IsWithinDistance}

pub within_product : (m k : ℕ) (x y : ℤ) → IsWithinDistance m x → IsWithinDistance k y → IsWithinDistance (m * k) (x *ℤ y)
within_product m k (pos x) (pos y) a b =
    let p : x * y ≤ m * k = mul-le x y m k (omega (arith, ints, a.high)) (omega (arith, ints, b.high)) in
    record { low = omega (arith, ints); high = omega (arith, ints) }
within_product m k (pos x) (negsuc y) a b =
    let p : x * suc y ≤ m * k = mul-le x (suc y) m k (omega (arith, ints, a.high)) (omega (arith, ints, b.low)) in
    record { low = omega (arith, ints); high = omega (arith, ints) }
within_product m k (negsuc x) (pos y) a b =
    let p : suc x * y ≤ m * k = mul-le (suc x) y m k (omega (arith, ints, a.low)) (omega (arith, ints, b.high)) in
    record { low = omega (arith, ints); high = omega (arith, ints) }
within_product m k (negsuc x) (negsuc y) a b =
    let p : suc x * suc y ≤ m * k = mul-le (suc x) (suc y) m k (omega (arith, ints, a.low)) (omega (arith, ints, b.low)) in
    record { low = omega (arith, ints); high = omega (arith, ints) }

pub within_when : (m : ℕ) (b : Bool) (x : ℤ) → IsWithinDistance m x → IsWithinDistance m (when b x)
within_when m true x a = a
within_when m false x a = record { low = omega (arith, ints); high = omega (arith, ints) }

pub within_total : (m n : ℕ) (f : ℕ → ℤ) → ((i : ℕ) → i < n → IsWithinDistance m (f i)) → IsWithinDistance (n * m) (total n f)
within_total m zero f each = record { low = omega (arith, ints); high = omega (arith, ints) }
within_total m (suc n) f each =
    let rest = within_total m n f (λ i h. each i (omega arith)) in
    let last = each n (omega arith) in
    let a = rest.low in
    let b = rest.high in
    let c = last.low in
    let d = last.high in
    record { low = omega (arith, ints); high = omega (arith, ints) }

pub within_more : (m n : ℕ) (x : ℤ) → m ≤ n → IsWithinDistance m x → IsWithinDistance n x
within_more m n x more small =
    let low = small.low in
    let high = small.high in
    record { low = omega (arith, ints); high = omega (arith, ints) }

pub within_none : (m : ℕ) → IsWithinDistance m (pos 0)
within_none m = record { low = omega (arith, ints); high = omega (arith, ints) }
