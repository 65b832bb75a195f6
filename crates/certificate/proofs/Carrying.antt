-- The arcs that carry something, by an arc more.
use Rattle.std.proofs.Common.{◌≡◌, ℕ, suc, ◌+◌, List, ◌∷◌, [], ◌++◌, true, false, arith, ap, ◌∙◌}
use Rattle.std.specs.Prelude.{ℤ, pos, int_lt}
use Rattle.pit_model.proofs.Members.{members-in, members-out}
use Rattle.optimality.specs.Check.{amount}
use Rattle.certificate.specs.CertificateText.{carrying}

pub carries : (flow : List ℤ) (k : ℕ) → int_lt (pos 0) (amount flow k) ≡ true → carrying flow (k + 1) ≡ carrying flow k ++ k ∷ []
carries flow k h =
    let e : k + 1 ≡ suc k = omega arith in
    ap (carrying flow) e ∙ members-in k (λ l. int_lt (pos 0) (amount flow l)) h

pub carries_not : (flow : List ℤ) (k : ℕ) → int_lt (pos 0) (amount flow k) ≡ false → carrying flow (k + 1) ≡ carrying flow k
carries_not flow k h =
    let e : k + 1 ≡ suc k = omega arith in
    ap (carrying flow) e ∙ members-out k (λ l. int_lt (pos 0) (amount flow l)) h
