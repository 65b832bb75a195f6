-- The pairs of nodes are the next periods and the needed blocks, each once, and without a cycle.
use Rattle.std.proofs.Common.{◌≡◌, ℕ, zero, suc, ◌+◌, ◌-◌, ◌*◌, ◌/◌, ◌%◌, ◌<◌, ◌≤◌, List, length, get_or, sym, ap, ◌∙◌, subst, arith, ⊎_elim, inl, inr}
use Rattle.std.specs.Prelude.{◌⊎◌}
use Rattle.std.proofs.lemmas.Bool.{cases_eq}
use Rattle.std.proofs.lemmas.Nat.{div-add-mod', div-mul-add, mod-mul-add}
use Rattle.std.proofs.Math.Nat.{div-lt_iff_lt-mul, mod-lt, mul-le-mul_right}
use Rattle.faults.specs.declared.fault.Fault.{Fault}
use Rattle.faults.specs.declared.refusal.Refusal.{Refusal}
use Rattle.faults.specs.declared.refusal.Refusal.TheVariants.{Cycle, NoMemory}
use Rattle.faults.specs.Refused.{no_memory}
use Rattle.mine_graph.specs.Faults.{RefusesPairs}
use Rattle.pit_model.specs.Cycle.{AcyclicIsWellFounded}
use Rattle.pit_model.specs.Graph.{AreApart, AreInRange, AreRising, AreSamePairs, IsAcyclic, first_of, second_of}
use Rattle.pit_model.specs.Size.{most_pairs}
use Rattle.schedule_model.specs.Problem.{Problem}
use Rattle.schedule_model.specs.Bound.{AreNodePairs, IsNeededBlock, IsNextPeriod}
use Rattle.schedule_model.proofs.Bounded.{node_below}
use Rattle.scheduling.specs.Limits.{IsBoundedProblem}
use Rattle.scheduling.specs.Pairs.{AddsShifted, AreAllPairs, AreNeededPairs, pair_at}
use Rattle.scheduling.proofs.Adding.{before_or_not}

pub rows_once : (n t s a b : ℕ) → a < n → b < n → t * n + a ≡ s * n + b → (t ≡ s) × (a ≡ b)
rows_once n t s a b ha hb e = (
  sym (div-mul-add t n a ha) ∙ ap (λ i. i / n) e ∙ div-mul-add s n b hb,
  sym (mod-mul-add t n a ha) ∙ ap (λ i. i % n) e ∙ mod-mul-add s n b hb,
)

both : (x y : ℕ) (pair : ℕ × ℕ) → pair.0 ≡ x → pair.1 ≡ y → (x, y) ≡ pair
both x y pair e f = ap (λ u. (u, y)) (sym e) ∙ ap (λ u. (pair.0, u)) (sym f)

some_columns : (m rows i : ℕ) → i < rows * m → 0 < m
some_columns zero rows i h = absurd (omega arith)
some_columns (suc m) rows i h = omega arith

-- of pairs in order no two are one
rising_once : (pairs : List (ℕ × ℕ)) (k l : ℕ) → AreRising pairs → k < l → l < length pairs → first_of pairs k ≡ first_of pairs l → second_of pairs k ≡ second_of pairs l → ⊥
rising_once pairs k l rising h hl e f =
    ⊎_elim
    (λ (b : first_of pairs k < first_of pairs l). omega arith)
    (λ (b : (first_of pairs k ≡ first_of pairs l) × (second_of pairs k < second_of pairs l)). let c = b.1 in omega arith)
    (rising k l h hl)

rising_same : (pairs : List (ℕ × ℕ)) (k l : ℕ) → AreRising pairs → k < length pairs → l < length pairs → first_of pairs k ≡ first_of pairs l → second_of pairs k ≡ second_of pairs l → k ≡ l
rising_same pairs k l rising hk hl e f =
    ⊎_elim
    (λ (b : k < l). absurd (rising_once pairs k l rising b hl e f))
    (λ (b : l ≤ k).
    ⊎_elim
    (λ (s : k ≡ l). s)
    (λ ne. let less : l < k = omega arith in absurd (rising_once pairs l k rising less hk (sym e) (sym f)))
    (cases_eq k l))
    (before_or_not k l)

-- needed pairs, one period more
pub needed_more : (problem : Problem) (t : ℕ) (base xs ys : List (ℕ × ℕ)) → base ≡ problem.pairs → AreNeededPairs problem t xs → AddsShifted base (t * problem.blocks) xs ys → AreNeededPairs problem (t + 1) ys
needed_more problem t base xs ys is so_far adds =
    let size : length base ≡ length problem.pairs = ap (λ (ps : List (ℕ × ℕ)). length ps) is in
    let before = so_far.count in
    let after = adds.count in
    record {
      count = omega arith;
      each = λ s k hs hk.
          ⊎_elim
          (λ (e : s ≡ t).
          subst (λ u. pair_at ys (u * length problem.pairs + k) ≡ (u * problem.blocks + first_of problem.pairs k, u * problem.blocks + second_of problem.pairs k)) (sym e)
          (ap (λ i. pair_at ys (i + k)) (sym before) ∙ adds.added k (omega arith)
          ∙ ap (λ (ps : List (ℕ × ℕ)). (t * problem.blocks + first_of ps k, t * problem.blocks + second_of ps k)) is))
          (λ ne.
          let early : s < t = omega arith in
          let below = node_below (length problem.pairs) t k s hk early in
          adds.kept (s * length problem.pairs + k) (omega arith) ∙ so_far.each s k early hk)
          (cases_eq s t);
    }

module _ (problem : Problem) (limits : IsBoundedProblem problem) (pairs : List (ℕ × ℕ)) (are : AreAllPairs problem pairs) where
  n : ℕ
  n = problem.blocks

  m : ℕ
  m = length problem.pairs

  abbrev IsNeededAt : ℕ → Type 0
  IsNeededAt i =
      (t : ℕ) × (k : ℕ) × (t < problem.periods) × (k < length problem.pairs) × (i ≡ t * length problem.pairs + k)
      × (pair_at pairs i ≡ (t * problem.blocks + first_of problem.pairs k, t * problem.blocks + second_of problem.pairs k))

  abbrev IsNextAt : ℕ → Type 0
  IsNextAt i =
      (j : ℕ) × (j < problem.periods * problem.blocks - problem.blocks) × (i ≡ problem.periods * length problem.pairs + j) × (pair_at pairs i ≡ (j, j + problem.blocks))

  needed_at : (t k : ℕ) → t < problem.periods → k < length problem.pairs
      → (t * length problem.pairs + k < length pairs) × (pair_at pairs (t * length problem.pairs + k) ≡ (t * problem.blocks + first_of problem.pairs k, t * problem.blocks + second_of problem.pairs k))
  needed_at t k ht hk =
      let below = node_below (length problem.pairs) problem.periods k t hk ht in
      let few = are.needed_are.count in
      let all = are.next_are.count_is in
      (omega arith, are.next_are.kept (t * length problem.pairs + k) (omega arith) ∙ are.needed_are.each t k ht hk)

  next_at : (j : ℕ) → j < problem.periods * problem.blocks - problem.blocks
      → (problem.periods * length problem.pairs + j < length pairs) × (pair_at pairs (problem.periods * length problem.pairs + j) ≡ (j, j + problem.blocks))
  next_at j h =
      let few = are.needed_are.count in
      let all = are.next_are.count_is in
      (omega arith, ap (λ i. pair_at pairs (i + j)) (sym few) ∙ are.next_are.added j h)

  kind : (i : ℕ) → i < length pairs → IsNeededAt i ⊎ IsNextAt i
  kind i h =
      let few = are.needed_are.count in
      let all = are.next_are.count_is in
      ⊎_elim
      (λ (l : i < problem.periods * length problem.pairs).
      let m_some : 0 < length problem.pairs = some_columns (length problem.pairs) problem.periods i l in
      let t = i / length problem.pairs in
      let k = i % length problem.pairs in
      let ht : t < problem.periods = (div-lt_iff_lt-mul m_some).1 l in
      let hk : k < length problem.pairs = mod-lt i m_some in
      let is : i ≡ t * length problem.pairs + k = sym (div-add-mod' i (length problem.pairs)) in
      inl (t, k, ht, hk, is, ap (pair_at pairs) is ∙ (needed_at t k ht hk).1))
      (λ (l : problem.periods * length problem.pairs ≤ i).
      let j = i - problem.periods * length problem.pairs in
      let hj : j < problem.periods * problem.blocks - problem.blocks = omega arith in
      let is : i ≡ problem.periods * length problem.pairs + j = omega arith in
      inr (j, hj, is, ap (pair_at pairs) is ∙ (next_at j hj).1))
      (before_or_not i (problem.periods * length problem.pairs))

  next_period : (i : ℕ) → IsNextAt i → IsNextPeriod problem (pair_at pairs i)
  next_period i p =
      let j = p.0 in
      let below = p.1 in
      let some = some_columns problem.blocks problem.periods j (omega arith) in
      let b = j % problem.blocks in
      let t = j / problem.blocks in
      let hb : b < problem.blocks = mod-lt j some in
      let is : t * problem.blocks + b ≡ j = div-add-mod' j problem.blocks in
      let later : j + problem.blocks < problem.periods * problem.blocks = omega arith in
      let over : (j + problem.blocks) / problem.blocks < problem.periods = (div-lt_iff_lt-mul some).1 later in
      let row : suc t * problem.blocks + b ≡ j + problem.blocks = omega arith in
      let at : (j + problem.blocks) / problem.blocks ≡ suc t = ap (λ u. u / problem.blocks) (sym row) ∙ div-mul-add (suc t) problem.blocks b hb in
      (b, t, hb, omega arith, ap (λ (x : ℕ × ℕ). x.0) p.3 ∙ sym is, ap (λ (x : ℕ × ℕ). x.1) p.3 ∙ sym row)

  needed_block : (i : ℕ) → IsNeededAt i → IsNeededBlock problem (pair_at pairs i)
  needed_block i p = (p.1, p.0, p.3, p.2, ap (λ (x : ℕ × ℕ). x.0) p.5, ap (λ (x : ℕ × ℕ). x.1) p.5)

  pub are_node_pairs : AreNodePairs problem pairs
  are_node_pairs = record {
    only = λ i h. ⊎_elim (λ p. inr (needed_block i p)) (λ p. inl (next_period i p)) (kind i h);
    all = λ pair e.
        ⊎_elim
        (λ p.
        let below = node_below problem.blocks problem.periods p.0 (suc p.1) p.2 p.3 in
        let row : suc p.1 * problem.blocks + p.0 ≡ p.1 * problem.blocks + p.0 + problem.blocks = omega arith in
        let at = next_at (p.1 * problem.blocks + p.0) (omega arith) in
        (problem.periods * length problem.pairs + (p.1 * problem.blocks + p.0), at.0, at.1 ∙ both (p.1 * problem.blocks + p.0) (p.1 * problem.blocks + p.0 + problem.blocks) pair p.4 (p.5 ∙ row)))
        (λ p.
        let at = needed_at p.1 p.0 p.3 p.2 in
        (p.1 * length problem.pairs + p.0, at.0, at.1 ∙ both (p.1 * problem.blocks + first_of problem.pairs p.0) (p.1 * problem.blocks + second_of problem.pairs p.0) pair p.4 p.5))
        e;
  }

  first_below : (k : ℕ) → k < length problem.pairs → (first_of problem.pairs k < problem.blocks) × (second_of problem.pairs k < problem.blocks)
  first_below k h = limits.graph.in_range k h

  two_needed : (i l : ℕ) → IsNeededAt i → IsNeededAt l → pair_at pairs i ≡ pair_at pairs l → i ≡ l
  two_needed i l p q e =
      let one = sym p.5 ∙ e ∙ q.5 in
      let f = rows_once problem.blocks p.0 q.0 (first_of problem.pairs p.1) (first_of problem.pairs q.1) (first_below p.1 p.3).0 (first_below q.1 q.3).0 (ap (λ (x : ℕ × ℕ). x.0) one) in
      let s = rows_once problem.blocks p.0 q.0 (second_of problem.pairs p.1) (second_of problem.pairs q.1) (first_below p.1 p.3).1 (first_below q.1 q.3).1 (ap (λ (x : ℕ × ℕ). x.1) one) in
      let k = rising_same problem.pairs p.1 q.1 limits.graph.rising p.3 q.3 f.1 s.1 in
      p.4 ∙ ap (λ t. t * length problem.pairs + p.1) f.0 ∙ ap (λ u. q.0 * length problem.pairs + u) k ∙ sym q.4

  needed_and_next : (i l : ℕ) → IsNeededAt i → IsNextAt l → pair_at pairs i ≡ pair_at pairs l → ⊥
  needed_and_next i l p q e =
      let one = sym p.5 ∙ e ∙ q.3 in
      let f : p.0 * problem.blocks + first_of problem.pairs p.1 ≡ q.0 = ap (λ (x : ℕ × ℕ). x.0) one in
      let s : p.0 * problem.blocks + second_of problem.pairs p.1 ≡ q.0 + problem.blocks = ap (λ (x : ℕ × ℕ). x.1) one in
      let below = (first_below p.1 p.3).1 in
      omega arith

  two_next : (i l : ℕ) → IsNextAt i → IsNextAt l → pair_at pairs i ≡ pair_at pairs l → i ≡ l
  two_next i l p q e =
      let one = sym p.3 ∙ e ∙ q.3 in
      p.2 ∙ ap (λ j. problem.periods * length problem.pairs + j) (ap (λ (x : ℕ × ℕ). x.0) one) ∙ sym q.2

  pub are_apart : AreApart pairs
  are_apart i l h hl e =
      let differ : i ≡ l → ⊥ = λ s. omega (arith, s) in
      ⊎_elim
      (λ p. ⊎_elim (λ q. differ (two_needed i l p q e)) (λ q. needed_and_next i l p q e) (kind l hl))
      (λ p. ⊎_elim (λ q. needed_and_next l i q p (sym e)) (λ q. differ (two_next i l p q e)) (kind l hl))
      (kind i (omega arith))

  pub are_few : length pairs ≤ most_pairs
  are_few =
      let few = are.needed_are.count in
      let all = are.next_are.count_is in
      let most = limits.few_pairs in
      let split : problem.periods * (length problem.pairs + problem.blocks) ≡ problem.periods * length problem.pairs + problem.periods * problem.blocks = omega arith in
      omega arith

-- pairs of nodes lie below the number of nodes
pub nodes_in_range : (problem : Problem) (pairs : List (ℕ × ℕ)) → AreInRange problem.pairs problem.blocks → AreNodePairs problem pairs → AreInRange pairs (problem.periods * problem.blocks)
nodes_in_range problem pairs in_range are k h =
    ⊎_elim
    (λ p.
    let a = node_below problem.blocks problem.periods p.0 p.1 p.2 (omega arith) in
    let b = node_below problem.blocks problem.periods p.0 (suc p.1) p.2 p.3 in
    (omega arith, omega arith))
    (λ p.
    let a = node_below problem.blocks problem.periods (first_of problem.pairs p.0) p.1 (in_range p.0 p.2).0 p.3 in
    let b = node_below problem.blocks problem.periods (second_of problem.pairs p.0) p.1 (in_range p.0 p.2).1 p.3 in
    (omega arith, omega arith))
    (are.only k h)

-- the same pairs in another order
pub reordered : (problem : Problem) (ps qs : List (ℕ × ℕ)) → AreNodePairs problem ps → AreSamePairs ps qs → AreNodePairs problem qs
reordered problem ps qs are same = record {
  only = λ k h. let b = same.back k h in subst (λ (pair : ℕ × ℕ). IsNextPeriod problem pair ⊎ IsNeededBlock problem pair) b.2 (are.only b.0 b.1);
  all = λ pair e. let a = are.all pair e in let f = same.forth a.0 a.1 in (f.0, f.1, f.2 ∙ a.2);
}

-- along each pair the later period, or the lesser height of the block, comes
module _ (problem : Problem) (in_range : AreInRange problem.pairs problem.blocks) (acyclic : IsAcyclic problem.pairs) where
  rise : ℕ → ℕ
  rise i = acyclic.0 (i % problem.blocks) * suc problem.periods + (problem.periods - i / problem.blocks)

  rise_at : (b t : ℕ) → b < problem.blocks → rise (t * problem.blocks + b) ≡ acyclic.0 b * suc problem.periods + (problem.periods - t)
  unfolding rise
  rise_at b t h =
      ap (λ u. acyclic.0 u * suc problem.periods + (problem.periods - (t * problem.blocks + b) / problem.blocks)) (mod-mul-add t problem.blocks b h)
      ∙ ap (λ u. acyclic.0 b * suc problem.periods + (problem.periods - u)) (div-mul-add t problem.blocks b h)

  falls : (pair : ℕ × ℕ) → IsNextPeriod problem pair ⊎ IsNeededBlock problem pair → rise pair.1 < rise pair.0
  falls pair e =
      ⊎_elim
      (λ p.
      let a = ap rise p.4 ∙ rise_at p.0 p.1 p.2 in
      let b = ap rise p.5 ∙ rise_at p.0 (suc p.1) p.2 in
      let h = p.3 in
      omega arith)
      (λ p.
      let a = ap rise p.4 ∙ rise_at (first_of problem.pairs p.0) p.1 (in_range p.0 p.2).0 in
      let b = ap rise p.5 ∙ rise_at (second_of problem.pairs p.0) p.1 (in_range p.0 p.2).1 in
      let less : suc (acyclic.0 (second_of problem.pairs p.0)) ≤ acyclic.0 (first_of problem.pairs p.0) = acyclic.1 p.0 p.2 in
      let more = mul-le-mul_right (suc problem.periods) less in
      omega arith)
      e

  pub nodes_acyclic : (pairs : List (ℕ × ℕ)) → AreNodePairs problem pairs → IsAcyclic pairs
  nodes_acyclic pairs are = (rise, λ k h. falls (pair_at pairs k) (are.only k h))

-- pairs without a cycle are refused only if memory runs out
pub only_memory : AcyclicIsWellFounded → (pairs : List (ℕ × ℕ)) (n : ℕ) (refusal : Refusal) (fault : Fault) → IsAcyclic pairs → RefusesPairs pairs n refusal fault → fault ≡ no_memory
only_memory law pairs n NoMemory fault acyclic is = is
only_memory law pairs n (Cycle list) fault acyclic is =
    let walked = is.0.walked in
    absurd (law pairs n is.0.set acyclic is.0.largest.needy (get_or is.0.walk 0 0) walked.first.member)
only_memory law pairs n refusal fault acyclic is = absurd is
