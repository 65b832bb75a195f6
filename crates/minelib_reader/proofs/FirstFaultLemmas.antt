-- Which places of a text are clear of faults, and that a text has one first fault at most.
use Rattle.std.proofs.Common.{◌≡◌, ℕ, zero, suc, ◌<◌, Option, Some, None, Result, Ok, Err, refl, sym, ap, subst, ◌∙◌, arith, inl, inr}
use Rattle.std.specs.Result.{result_err}
use Rattle.std.proofs.lemmas.Bool.{cases_lt}
use Rattle.std.proofs.lemmas.Option.{none-some, same_Some}
use Rattle.faults.specs.declared.fault.Fault.{Fault}
use Rattle.faults.specs.FirstFault.{IsFirstFault}

pub no_fault : {A : Type 0} (reading : Result A Fault) (x : A) → reading ≡ Ok x → result_err reading ≡ None
no_fault reading x is = rw is refl

pub that_fault : {A : Type 0} (reading : Result A Fault) (fault : Fault) → reading ≡ Err fault → result_err reading ≡ Some fault
that_fault reading fault is = rw is refl

-- no place below k has a fault
abbrev pub AreClear : (ℕ → Option Fault) → ℕ → Type 0
AreClear fault_at k = (j : ℕ) → j < k → fault_at j ≡ None

pub clear_none : (f : ℕ → Option Fault) → AreClear f 0
clear_none f j lt = absurd (omega (arith, lt))

pub clear_more : (f : ℕ → Option Fault) (k : ℕ) → AreClear f k → f k ≡ None → AreClear f (suc k)
clear_more f k before here j lt = elim (cases_lt j k) [
  | inl below ↦ before j below
  | inr le ↦ let same : k ≡ j = omega (arith, lt, le) in subst (λ (x : ℕ). f x ≡ None) same here
]

-- a clear place before those of another text, as far as they are clear
pub none_before_next : (f g : ℕ → Option Fault) (k : ℕ) → f 0 ≡ None → ((j : ℕ) → f (suc j) ≡ g j) → ((j : ℕ) → j < k → g j ≡ None) → (j : ℕ) → j < suc k → f j ≡ None
none_before_next f g k first same clear zero lt = first
none_before_next f g k first same clear (suc j) lt = same j ∙ clear j (omega (arith, lt))

-- a place that has a fault is not clear
clash : (f : ℕ → Option Fault) (k : ℕ) (fault : Fault) → f k ≡ None → f k ≡ Some fault → ⊥
clash f k fault clear has = none-some fault (sym clear ∙ has)

pub one_first : (f : ℕ → Option Fault) (d e : Fault) → IsFirstFault f d → IsFirstFault f e → d ≡ e
one_first f d e p q = elim (cases_lt p.place q.place) [
  | inl lt ↦ absurd (clash f p.place d (q.none_before p.place lt) p.here)
  | inr le ↦ elim (cases_lt q.place p.place) [
    | inl lt ↦ absurd (clash f q.place e (p.none_before q.place lt) q.here)
    | inr ge ↦ let same : p.place ≡ q.place = omega (arith, le, ge) in same_Some d e (sym p.here ∙ ap f same ∙ q.here)
  ]
]

-- where reading fails by a first fault, and succeeds with none, it fails by each first fault
pub fails_by_first : {A : Type 0} (reading r : Result A Fault) (f : ℕ → Option Fault) (e : Fault) → reading ≡ r → ((x : A) → reading ≡ Ok x → (k : ℕ) → f k ≡ None)
    → ((d : Fault) → reading ≡ Err d → IsFirstFault f d) → IsFirstFault f e → reading ≡ Err e
fails_by_first reading (Ok x) f e is clear first p = absurd (clash f p.place e (clear x is p.place) p.here)
fails_by_first reading (Err d) f e is clear first p = is ∙ ap (λ (x : Fault). Err x) (one_first f d e (first d is) p)
