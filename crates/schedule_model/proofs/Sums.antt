-- Laws of products and sums of whole numbers.
use Rattle.std.proofs.Common.{◌≡◌, ℕ, zero, suc, ◌+◌, ◌*◌, ◌<◌, ◌≤◌, refl, sym, ap, ◌∙◌, arith}
use Rattle.std.specs.Prelude.{ℤ, pos, negsuc, ◌+ℤ◌, ◌-ℤ◌, ◌*ℤ◌, ◌≤ℤ◌, ltb, int_lt, min, Bool, true, false}
use Rattle.std.proofs.lemmas.Int.{ints}
use Rattle.std.proofs.Math.Nat.{mul-le-mul_left}
use Rattle.std.proofs.lemmas.Bool.{ltb-false, ltb-true}
use borrow.Author.Differences.{up, down, product_is, sum_is_lem}
use Rattle.pit_model.specs.Sum.{total, when}

pub times_add : (c x y : ℤ) → c *ℤ (x +ℤ y) ≡ c *ℤ x +ℤ c *ℤ y
times_add c x y =
    let s = sum_is_lem x y in
    let p : up c * (up (x +ℤ y) + down x + down y) ≡ up c * (down (x +ℤ y) + up x + up y) = ap (λ v. up c * v) s in
    let q : down c * (up (x +ℤ y) + down x + down y) ≡ down c * (down (x +ℤ y) + up x + up y) = ap (λ v. down c * v) s in
    omega (arith, ints)

pub times_sub : (c x y : ℤ) → c *ℤ (x -ℤ y) ≡ c *ℤ x -ℤ c *ℤ y
times_sub c x y =
    let s = times_add c (x -ℤ y) y in
    let e : x -ℤ y +ℤ y ≡ x = omega (arith, ints) in
    let f : c *ℤ (x -ℤ y +ℤ y) ≡ c *ℤ x = ap (λ v. c *ℤ v) e in
    omega (arith, ints)

pub times_comm : (a b : ℤ) → a *ℤ b ≡ b *ℤ a
times_comm a b = omega (arith, ints)

pub add_times : (x y c : ℤ) → (x +ℤ y) *ℤ c ≡ x *ℤ c +ℤ y *ℤ c
add_times x y c = times_comm (x +ℤ y) c ∙ times_add c x y ∙ (let e = times_comm c x in let f = times_comm c y in omega (arith, ints))

pub times_assoc : (a b c : ℤ) → a *ℤ (b *ℤ c) ≡ (a *ℤ b) *ℤ c
times_assoc a b c =
    let p = product_is b c in
    let q = product_is a b in
    let p0 = ap (λ v. up a * v) p.0 in
    let p1 = ap (λ v. up a * v) p.1 in
    let p2 = ap (λ v. down a * v) p.0 in
    let p3 = ap (λ v. down a * v) p.1 in
    let q0 = ap (λ v. v * up c) q.0 in
    let q1 = ap (λ v. v * up c) q.1 in
    let q2 = ap (λ v. v * down c) q.0 in
    let q3 = ap (λ v. v * down c) q.1 in
    omega (arith, ints)

-- two factors change places in front of a third
pub times_swap : (a b c : ℤ) → a *ℤ (b *ℤ c) ≡ b *ℤ (a *ℤ c)
times_swap a b c = times_assoc a b c ∙ ap (λ v. v *ℤ c) (times_comm a b) ∙ sym (times_assoc b a c)

pub times_le : (c x y : ℤ) → pos 0 ≤ℤ c → x ≤ℤ y → (c *ℤ x) ≤ℤ (c *ℤ y)
times_le (pos c) x y least below =
    let more : c * (up x + down y) ≤ c * (up y + down x) = mul-le-mul_left c (omega (arith, ints)) in
    omega (arith, ints)
times_le (negsuc c) x y least below = absurd (omega (arith, ints))

pub total-times : (n : ℕ) (c : ℤ) (f : ℕ → ℤ) → total n (λ k. c *ℤ f k) ≡ c *ℤ total n f
total-times zero c f = omega (arith, ints)
total-times (suc n) c f = omega (arith, ints, total-times n c f, times_add c (total n f) (f n))

pub total-constant : (n : ℕ) (x : ℤ) → total n (λ k. x) ≡ pos n *ℤ x
total-constant zero x = omega (arith, ints)
total-constant (suc n) x =
    let e : pos (suc n) ≡ pos n +ℤ pos 1 = omega (arith, ints) in
    omega (arith, ints, total-constant n x, ap (λ v. v *ℤ x) e, add_times (pos n) (pos 1) x)

pub total-append : (a n : ℕ) (f : ℕ → ℤ) → total (a + n) f ≡ total a f +ℤ total n (λ b. f (a + b))
total-append a zero f =
    let e : a + zero ≡ a = omega arith in
    ap (λ m. total m f) e ∙ omega (arith, ints)
total-append a (suc n) f =
    let e : a + suc n ≡ suc (a + n) = omega arith in
    ap (λ m. total m f) e ∙ omega (arith, ints, total-append a n f)

-- a sum by rows of n
pub total-rows : (rows n : ℕ) (f : ℕ → ℤ) → total (rows * n) f ≡ total rows (λ t. total n (λ b. f (t * n + b)))
total-rows zero n f =
    let e : zero * n ≡ zero = omega arith in
    ap (λ m. total m f) e
total-rows (suc rows) n f =
    let e : suc rows * n ≡ rows * n + n = omega arith in
    ap (λ m. total m f) e ∙ total-append (rows * n) n f ∙ ap (λ v. v +ℤ total n (λ b. f (rows * n + b))) (total-rows rows n f)

-- a number is the count of the levels below it
levels_step : (m k : ℕ) (w : ℤ) (b : Bool) → ltb m k ≡ b → pos (min m k) *ℤ w +ℤ when b w ≡ pos (min (suc m) k) *ℤ w
levels_step m k w true e =
    let below : m < k = ltb-true m k e in
    let same : min (suc m) k ≡ min m k + 1 = omega arith in
    let split : pos (min m k + 1) ≡ pos (min m k) +ℤ pos 1 = omega (arith, ints) in
    omega (arith, ints, ap (λ v. pos v *ℤ w) same, ap (λ v. v *ℤ w) split, add_times (pos (min m k)) (pos 1) w)
levels_step m k w false e =
    let above : k ≤ m = ltb-false m k e in
    let same : min (suc m) k ≡ min m k = omega arith in
    omega (arith, ints, ap (λ v. pos v *ℤ w) same)

total-levels_of : (m k : ℕ) (w : ℤ) → total m (λ i. when (ltb i k) w) ≡ pos (min m k) *ℤ w
total-levels_of zero k w =
    let e : min zero k ≡ zero = omega arith in
    omega (arith, ints, ap (λ v. pos v *ℤ w) e)
total-levels_of (suc m) k w = ap (λ v. v +ℤ when (ltb m k) w) (total-levels_of m k w) ∙ levels_step m k w (ltb m k) refl

pub total-levels : (m : ℕ) (z w : ℤ) → pos 0 ≤ℤ z → z ≤ℤ pos m → total m (λ i. when (int_lt (pos i) z) w) ≡ z *ℤ w
total-levels m (pos k) w least most =
    let e : min m k ≡ k = omega (arith, ints) in
    total-levels_of m k w ∙ ap (λ v. pos v *ℤ w) e
total-levels m (negsuc k) w least most = absurd (omega (arith, ints))

-- summation by parts
pub telescope : (n : ℕ) (y b : ℕ → ℤ) → total n (λ t. y t *ℤ b t) ≡ total n (λ t. total (suc t) y *ℤ (b t -ℤ b (suc t))) +ℤ total n y *ℤ b n
telescope zero y b = omega (arith, ints)
telescope (suc n) y b =
    omega (arith, ints, telescope n y b, times_sub (total (suc n) y) (b n) (b (suc n)), add_times (total n y) (y n) (b n))
