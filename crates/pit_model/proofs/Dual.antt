-- A set is closed where its complement is closed along the transposed pairs, and worth what all blocks are worth and the
-- complement with negated values. So what lies within all others on the one side holds all others on the other.
use Rattle.std.proofs.Common.{◌≡◌, ℕ, zero, suc, ◌+◌, ◌-◌, ◌<◌, ◌≤◌, List, length, not, Bool, true, false, refl, sym, ap, ◌∙◌, arith, ⊎_elim}
use Rattle.std.specs.Prelude.{ℤ, pos, ◌-ℤ◌}
use Rattle.std.proofs.lemmas.Bool.{cases_Bool, cases_eq, true≢false}
use Rattle.std.proofs.lemmas.Int.{ints}
use Rattle.pit_model.specs.declared.direction.Direction.TheVariants.{Greatest}
use Rattle.pit_model.specs.Sum.{total, when}
use Rattle.pit_model.specs.Graph.{first_of, second_of}
use Rattle.pit_model.specs.Mine.{Instance, IsClosed, value, worth}
use Rattle.pit_model.specs.Fixed.{IsClosedAlong, mine_among, transposed}
use Rattle.pit_model.specs.Direction.{ComplementIsGreatest, IsDual, LeastWithinGreatest, DualGivesGreatest, TransposedHasNoCycle}
use Rattle.pit_model.proofs.Sums.{total-same, total-sub}
use Rattle.pit_model.proofs.SamePairs.{closed_in, turned as other_way}
use Rattle.pit_model.proofs.Pits.{closed_best, closed_extreme, free}
use Rattle.pit_model.proofs.Fixed.{closed_upward, complement_closed, rest_gives_pit, transposed_at, transposed_count}

pub least_within_greatest : LeastWithinGreatest
least_within_greatest mine fixed least greatest is is_other =
    let up = is.best greatest is_other.allowed in
    let down = is_other.best least is.allowed in
    let even : worth mine least ≡ worth mine greatest = omega (arith, ints) in
    is_other.extreme least is.allowed even

-- ---- transposed

not_not : (b : Bool) → not (not b) ≡ b
not_not true = refl
not_not false = refl

negated_when : (b : Bool) (x : ℤ) → when b (pos 0 -ℤ x) ≡ when (not b) x -ℤ x
negated_when true x = refl
negated_when false x = omega (arith, ints)

-- of two blocks of which the second's complement holds the first's
dual_truth : (a b : Bool) → (a ≡ true → not b ≡ true) → b ≡ true → not a ≡ true
dual_truth false b h e = refl
dual_truth true b h e = absurd (true≢false (sym (h refl) ∙ ap not e))

module _ (mine other : Instance) (is : IsDual mine other) where
  worth_of_dual : (set : ℕ → Bool) → worth other set ≡ worth mine (λ u. not (set u)) -ℤ total mine.blocks (value mine)
  worth_of_dual set =
      ap (λ n. total n (λ u. when (set u) (value other u))) is.reversed.same_blocks
      ∙ total-same mine.blocks (λ u. when (set u) (value other u)) (λ u. when (not (set u)) (value mine u) -ℤ value mine u)
      (λ u l. ap (when (set u)) (is.negated u l) ∙ negated_when (set u) (value mine u))
      ∙ total-sub mine.blocks (λ u. when (not (set u)) (value mine u)) (value mine)

  worth_back : (set : ℕ → Bool) → worth other (λ u. not (set u)) ≡ worth mine set -ℤ total mine.blocks (value mine)
  worth_back set =
      worth_of_dual (λ u. not (set u))
      ∙ ap (λ w. w -ℤ total mine.blocks (value mine))
      (total-same mine.blocks (λ u. when (not (not (set u))) (value mine u)) (λ u. when (set u) (value mine u)) (λ u l. ap (λ b. when b (value mine u)) (not_not (set u))))

  closed_transposed : (set : ℕ → Bool) → IsClosed mine set → IsClosed other (λ u. not (set u))
  closed_transposed set closed = closed_in mine.blocks other.values (transposed mine.pairs) other.pairs (λ u. not (set u)) is.reversed.pairs_are (complement_closed mine.pairs set closed)

  closed_back : (set : ℕ → Bool) → IsClosed other set → IsClosed mine (λ u. not (set u))
  closed_back set closed k l h =
      let along : IsClosedAlong (transposed mine.pairs) set =
      closed_in mine.blocks other.values other.pairs (transposed mine.pairs) set (other_way (transposed mine.pairs) other.pairs is.reversed.pairs_are) closed in
      ⊎_elim
      (λ (e : set (second_of mine.pairs k) ≡ true). absurd (true≢false (sym h ∙ ap not (closed_upward mine.pairs set along k l e))))
      (λ (e : set (second_of mine.pairs k) ≡ false). ap not e)
      (cases_Bool (set (second_of mine.pairs k)))

pub complement_is_greatest : ComplementIsGreatest
complement_is_greatest mine other found is pit =
    let at = worth_of_dual mine other is found in
    record {
      allowed = free mine (λ u. not (found u)) (closed_back mine other is found pit.allowed.closed);
      best = λ set ok.
          let low = closed_best pit (λ u. not (set u)) (closed_transposed mine other is set ok.closed) in
          let back = worth_back mine other is set in
          omega (arith, ints);
      extreme = λ set ok same u l h.
          let back = worth_back mine other is set in
          let even : worth other (λ v. not (set v)) ≡ worth other found = omega (arith, ints) in
          let size = is.reversed.same_blocks in
          let below : u < other.blocks = omega arith in
          dual_truth (found u) (set u) (closed_extreme pit (λ v. not (set v)) (closed_transposed mine other is set ok.closed) even u below) h;
    }

pub dual_gives_greatest : DualGivesGreatest
dual_gives_greatest mine fixed dug left blocks part other found after rest is pit join =
    rest_gives_pit Greatest mine fixed dug left blocks part (λ i. not (found i)) after rest
    (complement_is_greatest (mine_among mine blocks part) other found is pit) join

-- no first block of a pair lies higher than all their heights together; so heights counted down from there fall along the transposed pairs
top : (ℕ → ℕ) → List (ℕ × ℕ) → ℕ → ℕ
top height pairs zero = 0
top height pairs (suc m) = top height pairs m + height (first_of pairs m)

top_most : (height : ℕ → ℕ) (pairs : List (ℕ × ℕ)) (m k : ℕ) → k < m → height (first_of pairs k) ≤ top height pairs m
unfolding top
top_most height pairs zero k l = absurd (omega arith)
top_most height pairs (suc m) k l = ⊎_elim
    (λ (e : k ≡ m). let same : height (first_of pairs k) ≡ height (first_of pairs m) = ap (λ i. height (first_of pairs i)) e in omega arith)
    (λ (ne : k ≡ m → ⊥). let most = top_most height pairs m k (omega arith) in omega arith)
    (cases_eq k m)

pub transposed_has_no_cycle : TransposedHasNoCycle
transposed_has_no_cycle pairs acyclic =
    let height = acyclic.0 in
    let all = top height pairs (length pairs) in (
      λ u. all - height u,
      λ k l.
          let size = transposed_count pairs in
          let inside : k < length pairs = omega arith in
          let at = transposed_at pairs k inside in
          let first : height (first_of (transposed pairs) k) ≡ height (second_of pairs k) = ap (λ (q : ℕ × ℕ). height q.0) at in
          let second : height (second_of (transposed pairs) k) ≡ height (first_of pairs k) = ap (λ (q : ℕ × ℕ). height q.1) at in
          let falls = acyclic.1 k inside in
          let most = top_most height pairs (length pairs) k inside in
          omega arith,
    )
