-- A value that grew within the limits leaves all values within them.
use Rattle.std.proofs.Common.{◌≡◌, ℕ, ◌<◌, ◌^◌, arith, ⊎_elim, List, get_or, set, length, get_or-set_same, get_or-set_other, length-set, refl}
use Rattle.std.specs.Prelude.{ℤ, pos, ◌≤ℤ◌}
use Rattle.std.proofs.lemmas.Int.{ints}
use Rattle.std.proofs.lemmas.Bool.{cases_eq}
use Rattle.mine_graph.specs.Invariant.{AreWithinLimits}

module _ (values : List ℤ) (at : ℕ) (x : ℤ) (kept : AreWithinLimits (length values) values) (below : at < length values) (more : get_or values at (pos 0) ≤ℤ x) (most : x ≤ℤ pos (10 ^ 23)) where
  pub raised_within : AreWithinLimits (length (set values at x)) (set values at x)
  raised_within = record {
    count = refl;
    low = λ u l.
        let n = length-set values at x in
        let old = kept.low u (omega arith) in
        ⊎_elim
        (λ (is : u ≡ at). let e = get_or-set_same values at x (pos 0) below in rw (is, e) (let least = kept.low at below in omega (arith, ints)))
        (λ ne. rw (get_or-set_other values at u x (pos 0) ne) old)
        (cases_eq u at);
    high = λ u l.
        let n = length-set values at x in
        let old = kept.high u (omega arith) in
        ⊎_elim
        (λ (is : u ≡ at). let e = get_or-set_same values at x (pos 0) below in rw (is, e) most)
        (λ ne. rw (get_or-set_other values at u x (pos 0) ne) old)
        (cases_eq u at);
  }
