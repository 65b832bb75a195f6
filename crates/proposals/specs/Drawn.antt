-- The numbers that the counter of chunks gave to its seats, and the rule that it keeps.
use Rattle.std.specs.Prelude.{◌≡◌, ℕ, ◌+◌, ◌-◌, ◌<◌, ◌≤◌, ◌⊎◌, Bool, cond, eqb, ltb, List, [], ◌∷◌, ◌++◌, replicate}
use mathlib.Core.Option.{some}
use lib.ListN.{get_elem?}
use Rattle.atomic_table.specs.Table.{State, Me, Step}
use Rattle.proposals.specs.declared.draw_ledger.DrawLedger.{DrawLedger}
use Rattle.proposals.specs.declared.draw_ledger.Batch.{Batch}

abbrev pub one_if : Bool → ℕ
one_if b = cond b 1 0

-- how often x stands in the list
abbrev pub times : ℕ → List ℕ → ℕ
times x [] = 0
times x (y ∷ ys) = one_if (eqb x y) + times x ys

-- how many numbers of the list aren't below the number of chunks
abbrev pub past : ℕ → List ℕ → ℕ
past chunks [] = 0
past chunks (y ∷ ys) = cond (ltb y chunks) 0 1 + past chunks ys

-- f of each seat, added up
abbrev pub sum_over : (DrawLedger → ℕ) → List DrawLedger → ℕ
sum_over f [] = 0
sum_over f (v ∷ vs) = f v + sum_over f vs

abbrev pub hand : ℕ → ℕ → List ℕ → DrawLedger
hand c n d = record { chunks = c; seats = n; drawn = d }

-- a seat that stands for none has drawn nothing, and each seat was past the chunks once at most
pub record Fits (k : Batch) (v : DrawLedger) : Type 0 where
  pub same : 0 < v.seats → v.chunks ≡ k.chunks
  pub once_past : past k.chunks v.drawn ≤ v.seats
  pub empty : v.seats ≡ 0 → v.drawn ≡ []

-- The rule: the numbers below the counter stand each once over all seats, and no other number stands there
pub record Given (k : Batch) (s : State (Unit {0}) DrawLedger) : Type 0 where
  pub counter : ℕ
  pub words : s.words ≡ counter ∷ []
  pub once : (x : ℕ) → sum_over (λ v. times x v.drawn) s.views ≡ one_if (ltb x counter)
  pub seats : sum_over (λ v. v.seats) s.views ≡ k.seats
  pub bound : counter ≤ k.chunks + sum_over (λ v. past k.chunks v.drawn) s.views
  pub each : (j : ℕ) (v : DrawLedger) → get_elem? s.views j ≡ some v → Fits k v
  pub small : k.chunks + k.seats < 18446744073709551616

abbrev pub batch : ℕ → ℕ → Batch
batch c n = record { chunks = c; seats = n }

abbrev pub whole : Batch → DrawLedger
whole k = hand k.chunks k.seats []

-- the seat has drawn one number more
abbrev pub drawing : DrawLedger → ℕ → DrawLedger
drawing v n = hand v.chunks v.seats (v.drawn ++ n ∷ [])

-- the seat has drawn a number that is not below the number of chunks
abbrev pub HasDrawnAll : DrawLedger → Type 0
HasDrawnAll v = 0 < past v.chunks v.drawn

-- the seat was done before, or its next number makes it done
abbrev pub GetsNone : DrawLedger → DrawLedger → Type 0
GetsNone v w = (HasDrawnAll v × (w ≡ v)) ⊎ ((n : ℕ) × (v.chunks ≤ n) × (w ≡ drawing v n))

-- the seat's next number is k, which is below the number of chunks
abbrev pub Gets : ℕ → DrawLedger → DrawLedger → Type 0
Gets k v w = (k < v.chunks) × (past v.chunks v.drawn ≡ 0) × (w ≡ drawing v k)

-- all that these seats have drawn
abbrev pub all_drawn : List DrawLedger → List ℕ
all_drawn [] = []
all_drawn (v ∷ vs) = v.drawn ++ all_drawn vs

-- the numbers below n stand in the list each once, and no other number does
abbrev pub IsEachBelowOnce : ℕ → List ℕ → Type 0
IsEachBelowOnce n l = (x : ℕ) → times x l ≡ cond (ltb x n) 1 0

-- so many seats that have drawn nothing
abbrev pub new_seats : ℕ → ℕ → List DrawLedger
new_seats chunks n = replicate n (hand chunks 1 [])

abbrev Sat : Type 0
Sat = Me (Unit {0}) DrawLedger

-- What each kind of step tells.
abbrev pub Drew : Step (Unit {0}) → Sat → ℕ → Sat → Type 0
Drew st m n m' = (n < 18446744073709551616) × (m' ≡ (drawing m.0 n, m.1))

abbrev pub empty_draws : DrawLedger
empty_draws = hand 0 0 []

abbrev pub sat : Step (Unit {0}) → Sat → ℕ → Sat → Type 0
sat st m n m' = m'.0 ≡ empty_draws

-- the first seat gives a seat away, before anything was drawn
abbrev pub cut : DrawLedger → DrawLedger
cut v = hand v.chunks (v.seats - 1) v.drawn

abbrev pub one_seat : DrawLedger → DrawLedger
one_seat v = hand v.chunks 1 []

-- two seats as one
abbrev pub gathered : DrawLedger → DrawLedger → DrawLedger
gathered v w = hand w.chunks (v.seats + w.seats) (v.drawn ++ w.drawn)
