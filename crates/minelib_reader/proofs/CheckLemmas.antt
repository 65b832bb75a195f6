-- What is known of each check in a row, where the row passes and where it fails.
use Rattle.std.proofs.Common.{◌≡◌, ℕ, Bool, true, false, List, [], ◌∷◌, Option, Some, None, Result, Ok, Err, refl, ap, ◌⊎◌, inl, inr}
use Rattle.std.proofs.lemmas.Option.{same_Some}
use Rattle.std.specs.Option.{ok_or}
use Rattle.faults.specs.declared.fault.Fault.{Fault}
use Rattle.minelib_reader.specs.Checks.{◌>>=◌, ok_if}
use Rattle.minelib_reader.specs.Text.{two_of}

-- the row gave y: its first check gave a value, and with it those behind gave y
pub record Passes {A B : Type 0} (first : Result A Fault) (behind_it : A → Result B Fault) (y : B) : Type 0 where
  pub value : A
  pub here : first ≡ Ok value
  pub behind : behind_it value ≡ Ok y

pub passed : {A B : Type 0} (first : Result A Fault) (behind_it : A → Result B Fault) (y : B) → (first >>= behind_it) ≡ Ok y → Passes first behind_it y
passed (Ok x) behind_it y row = record { value = x; here = refl; behind = row }
passed (Err e) behind_it y row = absurd cc

-- the row failed behind its first check
pub record FailsBehind {A B : Type 0} (first : Result A Fault) (behind_it : A → Result B Fault) (fault : Fault) : Type 0 where
  pub value : A
  pub here : first ≡ Ok value
  pub behind : behind_it value ≡ Err fault

pub stopped : {A B : Type 0} (first : Result A Fault) (behind_it : A → Result B Fault) (fault : Fault) → (first >>= behind_it) ≡ Err fault → (first ≡ Err fault) ⊎ FailsBehind first behind_it fault
stopped (Ok x) behind_it fault row = inr (record { value = x; here = refl; behind = row })
stopped (Err e) behind_it fault row = inl (cc)

-- a check that gives this whatever it is asked, and one that fails so
abbrev pub passing : {A : Type 0} → A → Result A Fault
passing x = Ok x

abbrev pub failing : {A : Type 0} → Fault → Result A Fault
failing fault = Err fault

pub same_value : {A : Type 0} (x y : A) → passing x ≡ passing y → x ≡ y
same_value x y same = cc

-- ---- single checks that passed

pub value_there : {A : Type 0} (o : Option A) (fault : Fault) (x : A) → ok_or o fault ≡ Ok x → o ≡ Some x
value_there (Some y) fault x here = cc
value_there None fault x here = absurd cc

pub test_holds : (test : Bool) (fault : Fault) (u : Unit {0}) → ok_if test fault ≡ Ok u → test ≡ true
test_holds true fault u here = refl
test_holds false fault u here = absurd cc

pub both_fields : (fields : List (List ℕ)) (pair : List ℕ × List ℕ) → two_of fields ≡ Some pair → fields ≡ pair.0 ∷ pair.1 ∷ []
both_fields [] pair are = absurd cc
both_fields (a ∷ []) pair are = absurd cc
both_fields (a ∷ b ∷ []) pair are = ap (λ (x : List ℕ × List ℕ). x.0 ∷ x.1 ∷ []) (same_Some (a, b) pair are)
both_fields (a ∷ b ∷ c ∷ fields) pair are = absurd cc
