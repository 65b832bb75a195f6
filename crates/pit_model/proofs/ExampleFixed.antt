-- Fixed blocks of a small mine, and shells of small deposits.
use Rattle.std.proofs.Common.{◌≡◌, ℕ, zero, suc, ◌<◌, ◌⊎◌, ◌&&◌, ◌||◌, not, Bool, true, refl, sym, subst, arith, inl, inr, ⊎_elim, List, [], ◌∷◌}
use Rattle.std.specs.Prelude.{ℤ, pos, ◌≤ℤ◌}
use Rattle.std.proofs.lemmas.Int.{ints}
use Rattle.std.proofs.lemmas.Bool.{cases_eq, false≢true}
use Rattle.pit_model.specs.Graph.{first_of, second_of}
use Rattle.pit_model.specs.Flow.{excess}
use Rattle.pit_model.specs.Certificate.{IsReached}
use Rattle.pit_model.specs.Fixed.{AreSettled, CertifiesOpen, IsClosedAlong, IsClosure, is_among, is_open, transposed}
use Rattle.pit_model.specs.Fixed.IsRestOf.{some_fixed}
use Rattle.pit_model.specs.ExampleMines.{field}
use Rattle.pit_model.specs.ExamplePits.{FixedPitsOfField, amounts, fix}
use Rattle.pit_model.proofs.Duality.{certificate_gives_pit}
use Rattle.pit_model.proofs.OpenCertificates.{open_certificate_gives_fixed_pit}
use Rattle.pit_model.proofs.Tested.{all_below, certified, each_below, implied, in_range}

-- which block of a list is meant
pub one_of : (x u : ℕ) → is_among (x ∷ []) u ≡ true → u ≡ x
one_of x u h = grind (arith)

pub three_of : (x y z u : ℕ) → is_among (x ∷ y ∷ z ∷ []) u ≡ true → (u ≡ x) ⊎ ((u ≡ y) ⊎ (u ≡ z))
three_of x y z u h =
    ⊎_elim (λ e. inl e) (λ nx. ⊎_elim (λ e. inr (inl e)) (λ ny. ⊎_elim (λ e. inr (inr e)) (λ nz. absurd (grind (arith))) (cases_eq u z)) (cases_eq u y)) (cases_eq u x)

-- block 3 with what it needs
abbrev dug : ℕ → Bool
dug = is_among (0 ∷ 1 ∷ 3 ∷ [])

-- block 0 with what needs it
abbrev left : ℕ → Bool
left = is_among (0 ∷ 2 ∷ 3 ∷ [])

abbrev nobody : ℕ → Bool
nobody = is_among []

along : (set : ℕ → Bool) → all_below 3 (λ k. not (set (first_of field.pairs k)) || set (second_of field.pairs k)) ≡ true → IsClosedAlong field.pairs set
along set tested k l h = implied (set (first_of field.pairs k)) (set (second_of field.pairs k)) (each_below 3 (λ i. not (set (first_of field.pairs i)) || set (second_of field.pairs i)) tested k l) h

back : (set : ℕ → Bool) → all_below 3 (λ k. not (set (first_of (transposed field.pairs) k)) || set (second_of (transposed field.pairs) k)) ≡ true → IsClosedAlong (transposed field.pairs) set
back set tested k l h = implied (set (first_of (transposed field.pairs) k)) (set (second_of (transposed field.pairs) k)) (each_below 3 (λ i. not (set (first_of (transposed field.pairs) i)) || set (second_of (transposed field.pairs) i)) tested k l) h

dug_is : IsClosure field.pairs (is_among (3 ∷ [])) dug
dug_is = record {
  holds = λ u h. subst (λ v. dug v ≡ true) (sym (one_of 3 u h)) refl;
  closed = along dug refl;
  least = λ other holds closed u h.
      let top = holds 3 refl in
      ⊎_elim (λ (e : u ≡ 0). subst (λ v. other v ≡ true) (sym e) (closed 1 (omega arith) top))
      (λ more. ⊎_elim (λ (e : u ≡ 1). subst (λ v. other v ≡ true) (sym e) (closed 2 (omega arith) top)) (λ (e : u ≡ 3). subst (λ v. other v ≡ true) (sym e) top) more)
      (three_of 0 1 3 u h);
}

left_is : IsClosure (transposed field.pairs) (is_among (0 ∷ [])) left
left_is = record {
  holds = λ u h. subst (λ v. left v ≡ true) (sym (one_of 0 u h)) refl;
  closed = back left refl;
  least = λ other holds closed u h.
      let low = holds 0 refl in
      ⊎_elim (λ (e : u ≡ 0). subst (λ v. other v ≡ true) (sym e) low)
      (λ more. ⊎_elim (λ (e : u ≡ 2). subst (λ v. other v ≡ true) (sym e) (closed 0 (omega arith) low)) (λ (e : u ≡ 3). subst (λ v. other v ≡ true) (sym e) (closed 1 (omega arith) low)) more)
      (three_of 0 2 3 u h);
}

nobody_is : (pairs : List (ℕ × ℕ)) → IsClosure pairs nobody nobody
nobody_is pairs = record {
  holds = λ u h. absurd (false≢true h);
  closed = λ k l h. absurd (false≢true h);
  least = λ other holds closed u h. absurd (false≢true h);
}

forced_settled : AreSettled field.pairs (fix (3 ∷ []) []) dug nobody
forced_settled = record { dug_is = dug_is; left_is = nobody_is (transposed field.pairs) }

barred_settled : AreSettled field.pairs (fix [] (0 ∷ [])) nobody left
barred_settled = record { dug_is = nobody_is field.pairs; left_is = left_is }

abbrev all_in : ℕ → Bool
all_in = is_among (0 ∷ 1 ∷ 2 ∷ 3 ∷ [])

abbrev still : ℕ → ℤ
still = amounts (pos 0 ∷ pos 0 ∷ pos 0 ∷ [])

no_flow : (k : ℕ) → k < 3 → still k ≡ pos 0
no_flow zero l = refl
no_flow (suc zero) l = refl
no_flow (suc (suc zero)) l = refl
no_flow (suc (suc (suc k))) l = absurd (omega arith)

low : (k : ℕ) → k < 3 → pos 0 ≤ℤ still k
low k l = let e = no_flow k l in omega (arith, ints)

dug_in : (u : ℕ) → dug u ≡ true → all_in u ≡ true
dug_in u h =
    ⊎_elim (λ (e : u ≡ 0). subst (λ v. all_in v ≡ true) (sym e) refl)
    (λ more. ⊎_elim (λ (e : u ≡ 1). subst (λ v. all_in v ≡ true) (sym e) refl) (λ (e : u ≡ 3). subst (λ v. all_in v ≡ true) (sym e) refl) more)
    (three_of 0 1 3 u h)

-- with block 3 forced in, block 2 alone is open
open_above : (u : ℕ) → u < 4 → is_open dug nobody u ≡ true → pos 0 ≤ℤ excess field still u
open_above zero l o = absurd (false≢true o)
open_above (suc zero) l o = absurd (false≢true o)
open_above (suc (suc zero)) l o = omega (arith, ints)
open_above (suc (suc (suc zero))) l o = absurd (false≢true o)
open_above (suc (suc (suc (suc u)))) l o = absurd (omega arith)

open_reached : (u : ℕ) → u < 4 → is_open dug nobody u ≡ true → (steps : ℕ) × IsReached field (λ v. all_in v && is_open dug nobody v) still u steps
open_reached zero l o = absurd (false≢true o)
open_reached (suc zero) l o = absurd (false≢true o)
open_reached (suc (suc zero)) l o = (0, (refl, omega (arith, ints)))
open_reached (suc (suc (suc zero))) l o = absurd (false≢true o)
open_reached (suc (suc (suc (suc u)))) l o = absurd (omega arith)

everything : (u : ℕ) → u < 4 → all_in u ≡ true
everything zero l = refl
everything (suc zero) l = refl
everything (suc (suc zero)) l = refl
everything (suc (suc (suc zero))) l = refl
everything (suc (suc (suc (suc u)))) l = absurd (omega arith)

forced_certified : CertifiesOpen field dug nobody all_in still
forced_certified = record {
  keeps = dug_in;
  misses = λ u h. absurd (false≢true h);
  closed = along all_in refl;
  not_negative = low;
  idle = λ k l shut. no_flow k l;
  inside = λ u l o h. open_above u l o;
  outside = λ u l o off. absurd (off (everything u l));
  none_enters = λ k l h off. no_flow k l;
  reached = λ u l o h. open_reached u l o;
}

-- with block 0 barred, block 1 alone is open
open_below : (u : ℕ) → u < 4 → is_open nobody left u ≡ true → excess field still u ≤ℤ pos 0
open_below zero l o = absurd (false≢true o)
open_below (suc zero) l o = omega (arith, ints)
open_below (suc (suc zero)) l o = absurd (false≢true o)
open_below (suc (suc (suc zero))) l o = absurd (false≢true o)
open_below (suc (suc (suc (suc u)))) l o = absurd (omega arith)

barred_certified : CertifiesOpen field nobody left nobody still
barred_certified = record {
  keeps = λ u h. absurd (false≢true h);
  misses = λ u h. refl;
  closed = λ k l h. absurd (false≢true h);
  not_negative = low;
  idle = λ k l shut. no_flow k l;
  inside = λ u l o h. absurd (false≢true h);
  outside = λ u l o off. open_below u l o;
  none_enters = λ k l h off. no_flow k l;
  reached = λ u l o h. absurd (false≢true h);
}

no_open_pair : (l : ℕ) → l < 3 → is_open dug nobody (first_of field.pairs l) ≡ true → is_open dug nobody (second_of field.pairs l) ≡ true → ⊥
no_open_pair zero l a b = false≢true b
no_open_pair (suc zero) l a b = false≢true b
no_open_pair (suc (suc zero)) l a b = false≢true b
no_open_pair (suc (suc (suc k))) l a b = omega arith

-- the pit of the field without fixed blocks, by a flow of 3 from block 2 to 0 and of 2 from block 3 to 1
free_reached : (u : ℕ) → u < 4 → is_among (0 ∷ 2 ∷ []) u ≡ true → (steps : ℕ) × IsReached field (is_among (0 ∷ 2 ∷ [])) (amounts (pos 3 ∷ pos 0 ∷ pos 2 ∷ [])) u steps
free_reached zero l h = (1, (refl, (2, omega arith, (refl, omega (arith, ints)), (0, omega arith, inl (refl, refl)))))
free_reached (suc zero) l h = absurd (false≢true h)
free_reached (suc (suc zero)) l h = (0, (refl, omega (arith, ints)))
free_reached (suc (suc (suc zero))) l h = absurd (false≢true h)
free_reached (suc (suc (suc (suc u)))) l h = absurd (omega arith)

pub fixed_pits_of_field : FixedPitsOfField
fixed_pits_of_field =
    let range = in_range field refl in
    record {
      forced_shows = record { dug = dug; left = nobody; settled = forced_settled; set = all_in; listed = refl; counted = refl; certifies = forced_certified };
      forced = open_certificate_gives_fixed_pit field (fix (3 ∷ []) []) dug nobody all_in still range forced_settled forced_certified;
      forced_worth = refl;
      rest = some_fixed 3 refl dug nobody (2 ∷ []) (record { blocks = 1; pairs = [] }) (record {
        settled = forced_settled;
        is_part = record { blocks_are = refl; count = refl; inside = λ k l. absurd (omega arith); all = λ l below a b. absurd (no_open_pair l below a b) };
        is_graph = record { in_range = λ k l. absurd (omega arith); rising = λ k l less inside. absurd (omega arith); acyclic = (λ u. 0, λ k l. absurd (omega arith)) };
      }) refl;
      barred = open_certificate_gives_fixed_pit field (fix [] (0 ∷ [])) nobody left nobody still range barred_settled barred_certified;
      clash = record { dug = dug; dug_is = dug_is; least = record { member = refl; least = λ v h. omega arith } };
      no_clash = λ clash.
          let member = clash.least.member in
          let low = clash.dug_is.least (is_among (0 ∷ 2 ∷ [])) (λ u h. subst (λ v. is_among (0 ∷ 2 ∷ []) v ≡ true) (sym (one_of 2 u h)) refl) (along (is_among (0 ∷ 2 ∷ [])) refl) 1 member in
          false≢true low;
      free = certificate_gives_pit field (is_among (0 ∷ 2 ∷ [])) (amounts (pos 3 ∷ pos 0 ∷ pos 2 ∷ [])) range
          (certified field (is_among (0 ∷ 2 ∷ [])) (amounts (pos 3 ∷ pos 0 ∷ pos 2 ∷ [])) refl refl refl refl refl free_reached);
    }
