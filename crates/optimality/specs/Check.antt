-- What may be checked as a certificate, what a yes shows, and what the passes of the check test.
use Rattle.std.specs.Prelude.{◌≡◌, ℕ, ◌^◌, ◌<◌, ℤ, pos, ◌≤ℤ◌, Bool, false, not, ◌&&◌, ◌||◌, ◌↔◌, IsTrue, List, length, get_or}
use Rattle.std.specs.List.{All}
use Rattle.pit_model.specs.Graph.{first_of, second_of}
use Rattle.pit_model.specs.Mine.{Instance, value, members}
use Rattle.pit_model.specs.Flow.{excess}
use Rattle.pit_model.specs.Certificate.{IsReached}
use Rattle.pit_model.specs.Limits.{Between}
use Rattle.pit_model.specs.Fixed.{is_open}
use Rattle.mine_graph.specs.FixedBlocks.{FixedBlocks, forced_closure, barred_closure}

-- each number is greater than all that stand before it
abbrev pub AreAscending : List ℕ → Type 0
AreAscending xs = (i j : ℕ) → i < j → j < length xs → get_or xs i 0 < get_or xs j 0

-- the mark of a block, and the amount on an arc
abbrev pub has : List Bool → ℕ → Bool
has marks u = get_or marks u false

abbrev pub amount : List ℤ → ℕ → ℤ
amount flow k = get_or flow k (pos 0)

-- the greatest amount on an arc
abbrev pub most_amount : ℤ
most_amount = pos (10 ^ 30)

abbrev pub AreAmounts : List ℤ → Type 0
AreAmounts flow = (k : ℕ) → k < length flow → Between (pos 0) (amount flow k) most_amount

-- what may be checked for n blocks and m arcs: a rising list of blocks, and an amount for each arc
pub record IsCandidate (n m : ℕ) (pit : List ℕ) (flow : List ℤ) : Type 0 where
  pub below : All (λ u. u < n) pit
  pub rising : AreAscending pit
  pub counted : length flow ≡ m
  pub amounts : AreAmounts flow

abbrev pub AreValues : Instance → List ℤ → Type 0
AreValues mine numbers = (u : ℕ) → u < mine.blocks → get_or numbers u (pos 0) ≡ value mine u

abbrev pub AreExcesses : Instance → List ℤ → List ℤ → Type 0
AreExcesses mine flow numbers = (u : ℕ) → u < mine.blocks → get_or numbers u (pos 0) ≡ excess mine (amount flow) u

-- marked are exactly the blocks that are reached inside the set
abbrev pub AreReached : Instance → List ℤ → List Bool → List Bool → Type 0
AreReached mine flow inside marks =
    (u : ℕ) → u < mine.blocks → IsTrue (has marks u) ↔ ((steps : ℕ) × IsReached mine (has inside) (amount flow) u steps)

-- a block that is neither to be dug nor to be left
abbrev pub open_in : FixedBlocks → ℕ → Bool
open_in fixed u = is_open (forced_closure fixed) (barred_closure fixed) u

-- what is tested of one pair, by the marks of its ends and the amount on it: it doesn't lead out of the set, no flow comes in
-- over it, and none is on it where not both ends are open
pub record PairAllows (from to are_open : Bool) (x : ℤ) : Type 0 where
  pub closed : IsTrue from → IsTrue to
  pub none_enters : IsTrue to → from ≡ false → x ≡ pos 0
  pub idle : are_open ≡ false → x ≡ pos 0

abbrev pub PairsAllow : List (ℕ × ℕ) → (ℕ → Bool) → List ℤ → List Bool → ℕ → Type 0
PairsAllow pairs open_block flow inside m =
    (k : ℕ) → k < m → PairAllows (has inside (first_of pairs k)) (has inside (second_of pairs k)) (open_block (first_of pairs k) && open_block (second_of pairs k)) (amount flow k)

-- the same of the pairs of block u, among the first m pairs
abbrev pub RowAllows : List (ℕ × ℕ) → (ℕ → Bool) → List ℤ → List Bool → ℕ → ℕ → Type 0
RowAllows pairs open_block flow inside u m =
    (k : ℕ) → k < m → first_of pairs k ≡ u → PairAllows (has inside u) (has inside (second_of pairs k)) (open_block u && open_block (second_of pairs k)) (amount flow k)

-- what is tested of one block: inside where it must be dug, outside where it must be left; and where it is open, inside it is
-- reached and has no deficit, and outside it has nothing to send
pub record BlockAllows (dug left inside reached : Bool) (x : ℤ) : Type 0 where
  pub keeps : IsTrue dug → IsTrue inside
  pub misses : IsTrue left → inside ≡ false
  pub within : IsTrue (not (dug || left)) → IsTrue inside → IsTrue reached × (pos 0 ≤ℤ x)
  pub outside : IsTrue (not (dug || left)) → inside ≡ false → x ≤ℤ pos 0

abbrev pub BlocksAllow : FixedBlocks → List ℤ → List Bool → List Bool → ℕ → Type 0
BlocksAllow fixed excesses inside reached n =
    (u : ℕ) → u < n → BlockAllows (forced_closure fixed u) (barred_closure fixed u) (has inside u) (has reached u) (get_or excesses u (pos 0))
