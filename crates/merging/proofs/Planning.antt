-- Some pairs of a graph, rising by their numbers: each stands once, and they have no cycle.
use Rattle.std.proofs.Common.{◌≡◌, ℕ, ◌<◌, ◌∙◌, List, length, get_or, ap, sym, subst, arith, ⊎_elim}
use Rattle.std.specs.Prelude.{Bool, ◌≤◌}
use Rattle.pit_model.specs.Mine.{members}
use Rattle.pit_model.proofs.Members.{members_each, members_few, members_rise}
use Rattle.pit_model.specs.Graph.{AreApart, AreInRange, IsAcyclic, IsGraph}
use Rattle.pit_model.specs.Cycle.{AcyclicIsWellFounded}
use Rattle.faults.specs.declared.fault.Fault.{Fault}
use Rattle.faults.specs.declared.refusal.Refusal.{Refusal}
use Rattle.faults.specs.declared.refusal.Refusal.TheVariants.{NoMemory, Cycle}
use Rattle.faults.specs.Refused.{no_memory}
use Rattle.mine_graph.specs.Faults.{RefusesPairs}

-- the pairs are those of a graph that a rising list of numbers names
abbrev pub AreNamed : List (ℕ × ℕ) → List ℕ → List (ℕ × ℕ) → Type 0
AreNamed whole numbers pairs = (i : ℕ) → i < length numbers → get_or pairs i (0, 0) ≡ get_or whole (get_or numbers i 0) (0, 0)

module _ (n : ℕ) (whole : List (ℕ × ℕ)) (numbers : List ℕ) (pairs : List (ℕ × ℕ)) (graph : IsGraph n whole) (count : length pairs ≡ length numbers) (each : AreNamed whole numbers pairs)
    (below : (i : ℕ) → i < length numbers → get_or numbers i 0 < length whole) where
  pub named_in_range : AreInRange pairs n
  named_in_range k l =
      let here : k < length numbers = omega arith in
      let range = graph.in_range (get_or numbers k 0) (below k here) in
      let same = sym (each k here) in
      subst (λ (x : ℕ × ℕ). (x.0 < n) × (x.1 < n)) same range

  pub named_acyclic : IsAcyclic pairs
  named_acyclic =
      let height = graph.acyclic.0 in (
        height,
        λ k l.
            let here : k < length numbers = omega arith in
            let falls = graph.acyclic.1 (get_or numbers k 0) (below k here) in
            subst (λ (x : ℕ × ℕ). height x.1 < height x.0) (sym (each k here)) falls,
      )

  pub named_apart : ((i j : ℕ) → i < j → j < length numbers → get_or numbers i 0 < get_or numbers j 0) → AreApart pairs
  named_apart rising k l less inside same =
      let here : l < length numbers = omega arith in
      let there : k < length numbers = omega arith in
      let first = each k there in
      let second = each l here in
      let before = graph.rising (get_or numbers k 0) (get_or numbers l 0) (rising k l less here) (below l here) in
      let one : get_or whole (get_or numbers k 0) (0, 0) ≡ get_or whole (get_or numbers l 0) (0, 0) = sym first ∙ same ∙ second in
      let firsts = ap (λ (x : ℕ × ℕ). x.0) one in
      let seconds = ap (λ (x : ℕ × ℕ). x.1) one in
      ⊎_elim
      (λ less. absurd (omega (arith, less, firsts)))
      (λ equal. let low = equal.1 in absurd (omega (arith, low, seconds)))
      before

-- pairs without a cycle are refused for want of memory alone
pub only_memory : AcyclicIsWellFounded → (pairs : List (ℕ × ℕ)) (n : ℕ) (refusal : Refusal) (fault : Fault) → IsAcyclic pairs → RefusesPairs pairs n refusal fault → fault ≡ no_memory
only_memory law pairs n NoMemory fault acyclic is = is
only_memory law pairs n (Cycle list) fault acyclic is =
    let walked = is.0.walked in
    absurd (law pairs n is.0.set acyclic is.0.largest.needy (get_or is.0.walk 0 0) walked.first.member)
only_memory law pairs n refusal fault acyclic is = absurd is

-- a list of the numbers that pass a test is rising, of numbers below the bound
module _ (numbers : List ℕ) (n bound : ℕ) (test : ℕ → Bool) (are : numbers ≡ members n test) (same : bound ≡ n) where
  pub listed_below : (i : ℕ) → i < length numbers → get_or numbers i 0 < bound
  listed_below = subst (λ (xs : List ℕ). (i : ℕ) → i < length xs → get_or xs i 0 < bound) (sym are) (λ i l. let each = (members_each n test i l).0 in omega (arith, same))

  pub listed_rising : (i j : ℕ) → i < j → j < length numbers → get_or numbers i 0 < get_or numbers j 0
  listed_rising = subst (λ (xs : List ℕ). (i j : ℕ) → i < j → j < length xs → get_or xs i 0 < get_or xs j 0) (sym are) (members_rise n test)

  pub listed_few : length numbers ≤ bound
  listed_few = let size = ap (λ (xs : List ℕ). length xs) are in let few = members_few n test in omega (arith, same)
