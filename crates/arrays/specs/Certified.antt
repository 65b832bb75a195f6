-- What shows the marked pit of a mine in arrays: a flow on each pair, by the place of the pair's need.
use Rattle.std.specs.Prelude.{◌≡◌, ◌⊎◌, ℕ, ◌+◌, ◌-◌, ◌<◌, ℤ, pos, ◌<ℤ◌, Bool, List, length, get_or}
use Rattle.faults.specs.Words.{number_of}
use Rattle.faults.specs.declared.refusal.Refusal.{Refusal}
use Rattle.faults.specs.declared.refusal.Refusal.TheVariants.{OverLimit, IdOutOfPlace, CountsDiffer, WrongHeader, NegativeColumn}
use Rattle.pit_model.specs.Certificate.{Certifies}
use Rattle.pit_model.specs.Limits.{Between}
use Rattle.pit_model.specs.declared.direction.Direction.TheVariants.{Least}
use Rattle.pit_model.specs.Pit.{IsPit, no_blocks_fixed}
use Rattle.pit_model.specs.Mine.{Instance, worth}
use Rattle.optimality.specs.Check.{most_amount}
use Rattle.csr.specs.Rows.{RowsRise}
use Rattle.arrays.specs.Halves.{AreHalves, RefusesHalves}
use Rattle.arrays.specs.Refused.{IsFirstPlace, RefusesRows}
use Rattle.arrays.specs.Solved.{AreMarks}
use Rattle.arrays.specs.Encoded.{EncodesMine}

-- the amounts are a flow on the pairs that shows that the marked blocks are the pit
pub record CertifyMarks (values : List ℤ) (starts needs marks : List ℕ) (amounts : List ℤ) : Type 0 where
  pub mine : Instance
  pub encoded : EncodesMine values starts needs mine
  pub set : ℕ → Bool
  pub marks_are : AreMarks mine.blocks set marks
  pub count : length amounts ≡ length needs
  pub certifies : Certifies mine set (λ k. get_or amounts k (pos 0))

-- they do, and this is what the pit is worth
pub record MarkCertified (values : List ℤ) (starts needs marks : List ℕ) (amounts : List ℤ) (amount : ℤ) : Type 0 where
  pub certified : CertifyMarks values starts needs marks amounts
  pub is_pit : IsPit Least certified.mine no_blocks_fixed certified.set
  pub worth_is : amount ≡ worth certified.mine certified.set

-- why no flow by place is made or looked at: there is not a mark for each block; the rows are refused, or do not rise
pub data RefusesCertified (blocks : ℕ) (starts needs marks : List ℕ) (refusal : Refusal) (place : ℕ) : Type 0 where
  by_marks : refusal ≡ CountsDiffer → place ≡ 0 → (length marks ≡ blocks → ⊥) → RefusesCertified blocks starts needs marks refusal place
  by_rows : RefusesRows blocks starts needs refusal place → RefusesCertified blocks starts needs marks refusal place
  by_order : refusal ≡ IdOutOfPlace → place ≡ 0 → (RowsRise starts needs → ⊥) → RefusesCertified blocks starts needs marks refusal place

-- the amounts on the pairs before one are not negative and at most 10^30
abbrev pub AreFlowsBefore : List ℤ → ℕ → Type 0
AreFlowsBefore amounts place = (k : ℕ) → k < place → Between (pos 0) (get_or amounts k (pos 0)) most_amount

-- the first amount on a pair that is negative, or above 10^30
abbrev pub RefusesFlow : List ℤ → Refusal → ℕ → Type 0
RefusesFlow amounts (NegativeColumn least) place = (least ≡ place) × (place < length amounts) × (get_or amounts place (pos 0) <ℤ pos 0) × AreFlowsBefore amounts place
RefusesFlow amounts OverLimit place = (place < length amounts) × (most_amount <ℤ get_or amounts place (pos 0)) × AreFlowsBefore amounts place
RefusesFlow amounts _ place = ⊥

-- why a flow is not looked at: or there is not an amount for each need; or the first mark that is neither 0 nor 1; or the first amount that is
-- not as it must be
pub data RefusesCertificateArrays (blocks : ℕ) (starts needs marks : List ℕ) (amounts : List ℤ) (refusal : Refusal) (place : ℕ) : Type 0 where
  by_arrays : RefusesCertified blocks starts needs marks refusal place → RefusesCertificateArrays blocks starts needs marks amounts refusal place
  by_count : refusal ≡ CountsDiffer → place ≡ 0 → (length amounts ≡ length needs → ⊥) → RefusesCertificateArrays blocks starts needs marks amounts refusal place
  by_mark : refusal ≡ WrongHeader → place < length marks → IsFirstPlace (λ k. 1 < get_or marks k 0) place → RefusesCertificateArrays blocks starts needs marks amounts refusal place
  by_flow : RefusesFlow amounts refusal place → RefusesCertificateArrays blocks starts needs marks amounts refusal place

-- the number of why no flow is made
abbrev pub IsRefusedCertified : ℕ → List ℕ → List ℕ → List ℕ → List ℤ → List ℕ → ℕ → ℕ → Type 0
IsRefusedCertified blocks starts needs marks high low number place =
    (refusal : Refusal) × (number ≡ number_of refusal) × (RefusesCertified blocks starts needs marks refusal place ⊎ RefusesHalves (length needs) high low refusal place)

-- and of why none is looked at
abbrev pub IsRefusedCheck : ℕ → List ℕ → List ℕ → List ℕ → List ℤ → List ℕ → ℕ → ℕ → Type 0
IsRefusedCheck blocks starts needs marks high low number place =
    (refusal : Refusal) × (number ≡ number_of refusal) × (((amounts : List ℤ) × AreHalves amounts high low × RefusesCertificateArrays blocks starts needs marks amounts refusal place) ⊎ RefusesHalves (length needs) high low refusal place)
