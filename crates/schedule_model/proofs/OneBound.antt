-- Two time-expanded instances of a problem at the same prices have the same values and the same closed sets, and so the same worth of the pit.
use Rattle.std.proofs.Common.{◌≡◌, ℕ, suc, ◌+◌, ◌*◌, ◌/◌, ◌%◌, ◌<◌, ◌≤◌, List, get_or, sym, ap, ◌∙◌, subst, arith, ⊎_elim}
use Rattle.std.specs.Prelude.{ℤ, pos, ◌+ℤ◌, ◌-ℤ◌, ◌*ℤ◌, Bool, IsTrue}
use Rattle.std.proofs.lemmas.Int.{ints}
use Rattle.std.proofs.lemmas.Bool.{cases_eq}
use Rattle.std.proofs.lemmas.Nat.{div-add-mod'}
use Rattle.std.proofs.Math.Nat.{div-lt_iff_lt-mul, mod-lt}
use Rattle.pit_model.specs.Sum.{total, when}
use Rattle.pit_model.specs.declared.direction.Direction.TheVariants.{Least}
use Rattle.pit_model.specs.Pit.{IsPit, no_blocks_fixed}
use Rattle.pit_model.specs.Mine.{Instance, IsClosed, value, worth}
use Rattle.pit_model.proofs.Pits.{closed_best}
use Rattle.pit_model.proofs.Sums.{total-same}
use Rattle.schedule_model.specs.Problem.{Problem, capacity}
use Rattle.schedule_model.specs.Bound.{AreNodePairs, BoundIsOne, IsBest, IsRoundedUp, IsTimeExpanded, node, over_limits, price, unit}
use Rattle.schedule_model.proofs.Bounded.{some_blocks}

pub best_once : (problem : Problem) (prices : List ℤ) (b t : ℕ) (x y : ℤ) → IsBest problem prices b t x → IsBest problem prices b t y → x ≡ y
best_once problem prices b t x y p q =
    let up = q.greatest p.reached.0 p.reached.1 in
    let down = p.greatest q.reached.0 q.reached.1 in
    let e = p.reached.2 in
    let f = q.reached.2 in
    omega (arith, ints)

pub rounded_once : (x v w : ℤ) → IsRoundedUp x v → IsRoundedUp x w → v ≡ w
rounded_once x v w p q =
    let a = p.least in
    let b = p.most in
    let c = q.least in
    let d = q.most in
    omega (arith, ints)

-- sets that are closed in one instance are closed in the other
closed_alike : (problem : Problem) (one other : Instance) (set : ℕ → Bool) → AreNodePairs problem one.pairs → AreNodePairs problem other.pairs → IsClosed one set → IsClosed other set
closed_alike problem one other set p q closed k h inside =
    let found = p.all (get_or other.pairs k (0, 0)) (q.only k h) in
    let is : get_or one.pairs found.0 (0, 0) ≡ get_or other.pairs k (0, 0) = found.2 in
    subst (λ (pair : ℕ × ℕ). IsTrue (set pair.1)) is
    (closed found.0 found.1 (subst (λ (pair : ℕ × ℕ). IsTrue (set pair.0)) (sym is) inside))

module _ (problem : Problem) (prices : List ℤ) (first second : ℕ → ℕ → ℤ) (one other : Instance)
    (first_is : (b t : ℕ) → b < problem.blocks → t < problem.periods → IsBest problem prices b t (first b t)) (first_ends : (b : ℕ) → first b problem.periods ≡ pos 0)
    (second_is : (b t : ℕ) → b < problem.blocks → t < problem.periods → IsBest problem prices b t (second b t)) (second_ends : (b : ℕ) → second b problem.periods ≡ pos 0)
    (p : IsTimeExpanded problem first one) (q : IsTimeExpanded problem second other) where
  same_best : (b t : ℕ) → b < problem.blocks → t ≤ problem.periods → first b t ≡ second b t
  same_best b t hb ht =
      ⊎_elim
      (λ (e : t ≡ problem.periods). ap (first b) e ∙ first_ends b ∙ sym (second_ends b) ∙ ap (second b) (sym e))
      (λ ne. let before : t < problem.periods = omega arith in best_once problem prices b t (first b t) (second b t) (first_is b t hb before) (second_is b t hb before))
      (cases_eq t problem.periods)

  same_step : (b t : ℕ) → b < problem.blocks → t < problem.periods → first b t -ℤ first b (suc t) ≡ second b t -ℤ second b (suc t)
  same_step b t hb ht =
      let e = same_best b t hb (omega arith) in
      let f = same_best b (suc t) hb (omega arith) in
      omega (arith, ints)

  same_value_at : (b t : ℕ) → b < problem.blocks → t < problem.periods → value one (node problem b t) ≡ value other (node problem b t)
  same_value_at b t hb ht =
      rounded_once (second b t -ℤ second b (suc t)) (value one (node problem b t)) (value other (node problem b t))
      (subst (λ x. IsRoundedUp x (value one (node problem b t))) (same_step b t hb ht) (p.values b t hb ht))
      (q.values b t hb ht)

  same_value : (i : ℕ) → i < problem.periods * problem.blocks → value one i ≡ value other i
  same_value i h =
      let some = some_blocks problem.blocks problem.periods i h in
      let b = i % problem.blocks in
      let t = i / problem.blocks in
      let is : t * problem.blocks + b ≡ i = div-add-mod' i problem.blocks in
      subst (λ j. value one j ≡ value other j) is (same_value_at b t (mod-lt i some) ((div-lt_iff_lt-mul some).1 h))

  same_worth : (set : ℕ → Bool) → worth one set ≡ worth other set
  same_worth set =
      ap (λ n. total n (λ u. when (set u) (value one u))) p.count
      ∙ total-same (problem.periods * problem.blocks) (λ u. when (set u) (value one u)) (λ u. when (set u) (value other u)) (λ u h. ap (when (set u)) (same_value u h))
      ∙ ap (λ n. total n (λ u. when (set u) (value other u))) (sym q.count)

  pub same_pit_worth : (pit its : ℕ → Bool) → IsPit Least one no_blocks_fixed pit → IsPit Least other no_blocks_fixed its → worth one pit ≡ worth other its
  same_pit_worth pit its is it_is =
      let up = closed_best it_is pit (closed_alike problem one other pit p.pairs q.pairs is.allowed.closed) in
      let down = closed_best is its (closed_alike problem other one its q.pairs p.pairs it_is.allowed.closed) in
      let e = same_worth pit in
      let f = same_worth its in
      omega (arith, ints)

pub bound_is_one : BoundIsOne
bound_is_one problem prices bound other in_range p q =
    let same = same_pit_worth problem prices p.best q.best p.nodes q.nodes p.best_is p.none_after q.best_is q.none_after p.expanded q.expanded p.pit q.pit p.is_pit q.is_pit in
    p.is
    ∙ ap (λ w. pos unit *ℤ w +ℤ over_limits problem (λ r s. price problem prices r s *ℤ capacity problem r s)) same
    ∙ sym q.is
