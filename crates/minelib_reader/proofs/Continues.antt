-- What the reading that is left says of a whole reading, part of which a loop has done.
use Rattle.std.proofs.Common.{◌≡◌, Result, Ok, Err, refl, ap, ◌∙◌}
use Rattle.faults.specs.declared.fault.Fault.{Fault}
use Rattle.minelib_reader.specs.Checks.{◌>>=◌}

-- the whole fails where what is left fails; what is left gives becomes what the whole gives
pub record Continues {X Y : Type 0} (becomes : X → Y) (left : Result X Fault) (whole : Result Y Fault) : Type 0 where
  pub fails : (fault : Fault) → left ≡ Err fault → whole ≡ Err fault
  pub gives : (x : X) → left ≡ Ok x → whole ≡ Ok (becomes x)

-- the next check passed, so those behind it are left
pub behind_check : {A X Y : Type 0} (becomes : X → Y) (check : Result A Fault) (behind : A → Result X Fault) (whole : Result Y Fault) (a : A) → check ≡ Ok a
    → Continues becomes (check >>= behind) whole → Continues becomes (behind a) whole
behind_check becomes check behind whole a passes c =
    let same : (check >>= behind) ≡ behind a = rw passes refl in
    record { fails = λ fault h. c.fails fault (same ∙ h); gives = λ x h. c.gives x (same ∙ h) }

-- the next check failed, so the whole does
pub fails_here : {A X Y : Type 0} (becomes : X → Y) (check : Result A Fault) (behind : A → Result X Fault) (whole : Result Y Fault) (fault : Fault) → check ≡ Err fault
    → Continues becomes (check >>= behind) whole → whole ≡ Err fault
fails_here becomes check behind whole fault stops c = c.fails fault (rw stops refl)

-- what is left is changed by f at its end: this belongs to what it becomes
pub before_change : {X Y Z : Type 0} (becomes : Y → Z) (new : X → Y) (all : X → Z) (left : Result X Fault) (whole : Result Z Fault) → ((x : X) → becomes (new x) ≡ all x)
    → Continues becomes (left >>= λ x. Ok (new x)) whole → Continues all left whole
before_change {Z = Z} becomes new all left whole same c = record {
  fails = λ fault h. c.fails fault (rw h refl);
  gives = λ x h. c.gives (new x) (rw h refl) ∙ ap (λ (z : Z). Ok z) (same x);
}
