-- Why shells are refused: as the search on a rest is; and for want of memory alone by a solver without a budget.
use Rattle.std.proofs.Common.{◌≡◌, ◌<◌, ℕ, List, inl, inr, length, ⊎_elim}
use Rattle.faults.specs.Refused.{no_memory}
use Rattle.faults.specs.declared.fault.Fault.{Fault}
use Rattle.pit_model.specs.declared.direction.Direction.{Direction}
use Rattle.pit_model.specs.Pit.{Fixed, no_blocks_fixed}
use Rattle.pit_model.specs.Deposit.{Deposit}
use Rattle.pit_model.specs.Mine.{Instance}
use Rattle.pit_model.specs.Shells.{IsRest}
use Rattle.pit_search.specs.Searched.{OfSearched, RefusesFind}
use Rattle.nesting.specs.Grown.{IsUnlimited, RefusesRests}

module _ (Refuses : Instance → Fault → Type 0) where
  pub find_refuses : (direction : Direction) (deposit : Deposit) (factors : List ℕ) (k : ℕ) (rest : Instance) (e : Fault) → k < length factors → IsRest direction deposit factors k rest
      → RefusesFind Refuses direction rest no_blocks_fixed e → RefusesRests Refuses direction deposit factors e
  find_refuses direction deposit factors k rest e l is refused = ⊎_elim
      (λ (memory : e ≡ no_memory). inl memory)
      (λ (h : OfSearched direction rest no_blocks_fixed (λ searched. Refuses searched e)). inr (k, l, (rest, is, h)))
      refused

  pub find_lacks_memory : (direction : Direction) (mine : Instance) (fixed : Fixed) (e : Fault) → IsUnlimited Refuses → RefusesFind Refuses direction mine fixed e → e ≡ no_memory
  find_lacks_memory direction mine fixed e free refused = ⊎_elim
      (λ (memory : e ≡ no_memory). memory)
      (λ (h : OfSearched direction mine fixed (λ searched. Refuses searched e)). free h.0 e h.2)
      refused

  pub rests_lack_memory : (direction : Direction) (deposit : Deposit) (factors : List ℕ) (e : Fault) → IsUnlimited Refuses → RefusesRests Refuses direction deposit factors e → e ≡ no_memory
  rests_lack_memory direction deposit factors e free refused = ⊎_elim
      (λ (memory : e ≡ no_memory). memory)
      (λ (h : (k : ℕ) × (k < length factors) × ((rest : Instance) × IsRest direction deposit factors k rest × OfSearched direction rest no_blocks_fixed (λ searched. Refuses searched e))).
      free h.2.2.0 e h.2.2.2)
      refused
