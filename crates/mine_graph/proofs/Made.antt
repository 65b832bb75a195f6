-- The lists of a new graph.
use Rattle.std.proofs.Common.{◌≡◌, ℕ, ◌+◌, ◌-◌, ◌<◌, ◌≤◌, Bool, sym, ap, ◌∙◌, arith, subst, List, get_or, length}
use Rattle.pit_model.specs.Graph.{AreInRange, AreSamePairs, IsAcyclic}
use Rattle.pit_model.specs.Cycle.{HasPredecessorInside, IsLargestWithPredecessorInside, IsLeastNeeded, IsCycleList}
use Rattle.faults.specs.declared.fault.Fault.{Fault}
use Rattle.faults.specs.declared.refusal.Refusal.{Refusal}
use Rattle.faults.specs.declared.refusal.Refusal.TheVariants.{NoMemory, Cycle}
use Rattle.mine_graph.specs.Faults.{RefusesPairs, IsGraphFault}
use Rattle.csr.specs.Transposed.{transposed_pairs}
use Rattle.csr.specs.Queue.{IsAllProcessed}
use Rattle.csr.specs.Left.{left_over}
use Rattle.csr.proofs.Order.{transposed_pairs-from, transposed_pairs-to}
use Rattle.mine_graph.proofs.Acyclic.{AreTurned, acyclic, over-largest, acyclic_along}

pub transposed_are_turned : (qs : List (ℕ × ℕ)) (n : ℕ) → AreInRange qs n → AreTurned qs (transposed_pairs qs n)
transposed_are_turned qs n range = record {
  forth = λ k h. let a = transposed_pairs-to qs n k h (range k h).1 in (a.0, a.1, ap (λ (x : ℕ × ℕ). x.0) a.2, ap (λ (x : ℕ × ℕ). x.1) a.2);
  back = λ l h. let b = transposed_pairs-from qs n l h in (b.0, b.1, sym (ap (λ (x : ℕ × ℕ). x.0) b.2), sym (ap (λ (x : ℕ × ℕ). x.1) b.2));
}

needy-back : (ps qs : List (ℕ × ℕ)) (n : ℕ) (set : ℕ → Bool) → AreSamePairs ps qs → HasPredecessorInside qs n set → HasPredecessorInside ps n set
needy-back ps qs n set same needy u h =
    let r = needy u h in
    let b = same.back r.1.0 r.1.1 in
    (r.0, (b.0, b.1, ap (λ (x : ℕ × ℕ). x.0) b.2 ∙ r.1.2, ap (λ (x : ℕ × ℕ). set x.1) b.2 ∙ r.1.3))

needy-forth : (ps qs : List (ℕ × ℕ)) (n : ℕ) (set : ℕ → Bool) → AreSamePairs ps qs → HasPredecessorInside ps n set → HasPredecessorInside qs n set
needy-forth ps qs n set same needy u h =
    let r = needy u h in
    let b = same.forth r.1.0 r.1.1 in
    (r.0, (b.0, b.1, ap (λ (x : ℕ × ℕ). x.0) b.2 ∙ r.1.2, ap (λ (x : ℕ × ℕ). set x.1) b.2 ∙ r.1.3))

pub largest-back : (ps qs : List (ℕ × ℕ)) (n : ℕ) (set : ℕ → Bool) → AreSamePairs ps qs → IsLargestWithPredecessorInside qs n set → IsLargestWithPredecessorInside ps n set
largest-back ps qs n set same l = record {
  needy = needy-back ps qs n set same l.needy;
  largest = λ other needy. l.largest other (needy-forth ps qs n other same needy);
}

module _ (pairs turned : List (ℕ × ℕ)) (left : List ℕ) (n : ℕ) (range : AreInRange pairs n) (is : turned ≡ transposed_pairs pairs n) (size : length left ≡ n)
    (end : IsAllProcessed turned left) where
  are_turned : AreTurned pairs turned
  are_turned = subst (AreTurned pairs) (sym is) (transposed_are_turned pairs n range)

  -- what counting needs down leaves over is the largest needy set
  pub over_turned : IsLargestWithPredecessorInside pairs (length left) (left_over left)
  over_turned = over-largest pairs turned left end.order end.tail are_turned (subst (AreInRange pairs) (sym size) range) end.settled

  pub acyclic_turned : ((u : ℕ) → u < length left → get_or left u 0 ≡ 0) → IsAcyclic pairs
  acyclic_turned none = acyclic pairs turned left end.order end.tail are_turned (subst (AreInRange pairs) (sym size) range) end.settled none

-- nothing is left over along the pairs as they lie
pub acyclic_as_they_lie : (pairs : List (ℕ × ℕ)) (left : List ℕ) (n : ℕ) → AreInRange pairs n → length left ≡ n → IsAllProcessed pairs left
    → ((u : ℕ) → u < length left → get_or left u 0 ≡ 0) → IsAcyclic pairs
acyclic_as_they_lie pairs left n range size end none = acyclic_along pairs left end.order end.tail (subst (AreInRange pairs) (sym size) range) end.settled none

-- the same pairs in another order have the same cycle
least-back : (ps qs : List (ℕ × ℕ)) (set : ℕ → Bool) (u p : ℕ) → AreSamePairs ps qs → IsLeastNeeded qs set u p → IsLeastNeeded ps set u p
least-back ps qs set u p same l = record {
  needed = (let r = l.needed in let b = same.back r.0 r.1 in (b.0, b.1, ap (λ (x : ℕ × ℕ). x.0) b.2 ∙ r.2, ap (λ (x : ℕ × ℕ). x.1) b.2 ∙ r.3));
  member = l.member;
  least = λ k h e m.
      let f = same.forth k h in
      let x = ap (λ (y : ℕ × ℕ). y.1) f.2 in
      subst (λ y. p ≤ y) x (l.least f.0 f.1 (ap (λ (y : ℕ × ℕ). y.0) f.2 ∙ e) (ap set x ∙ m));
}

pub cycle-back : (ps qs : List (ℕ × ℕ)) (n : ℕ) (cycle : List ℕ) → AreSamePairs ps qs → IsCycleList qs n cycle → IsCycleList ps n cycle
cycle-back ps qs n cycle same c = record {
  set = c.set;
  largest = largest-back ps qs n c.set same c.largest;
  walk = c.walk;
  walked = record {
    some = c.walked.some;
    first = c.walked.first;
    next = λ i h. least-back ps qs c.set (get_or c.walk i 0) (get_or c.walk (i + 1) 0) same (c.walked.next i h);
    apart = c.walked.apart;
  };
  visit = c.visit;
  visited = c.visited;
  repeats = least-back ps qs c.set (get_or c.walk (length c.walk - 1) 0) (get_or c.walk c.visit 0) same c.repeats;
  is = c.is;
}

pub acyclic-back : (ps qs : List (ℕ × ℕ)) → AreSamePairs ps qs → IsAcyclic qs → IsAcyclic ps
acyclic-back ps qs same acyclic = (
  acyclic.0,
  λ k l.
      let f = same.forth k l in
      let falls = acyclic.1 f.0 f.1 in
      let a = ap (λ (x : ℕ × ℕ). acyclic.0 x.0) f.2 in
      let b = ap (λ (x : ℕ × ℕ). acyclic.0 x.1) f.2 in
      omega arith,
)

refuses-back : (ps qs : List (ℕ × ℕ)) (n : ℕ) (refusal : Refusal) (fault : Fault) → AreSamePairs ps qs → RefusesPairs qs n refusal fault → RefusesPairs ps n refusal fault
refuses-back ps qs n NoMemory fault same h = h
refuses-back ps qs n (Cycle list) fault same h = (cycle-back ps qs n list.items same h.0, h.1, h.2)
refuses-back ps qs n _ fault same h = absurd h

-- pairs are refused as they are in another order
pub fault-back : (ps qs : List (ℕ × ℕ)) (n : ℕ) (fault : Fault) → AreSamePairs ps qs → IsGraphFault qs n fault → IsGraphFault ps n fault
fault-back ps qs n fault same h = refuses-back ps qs n fault.refusal fault same h
