-- Small mines, of which the examples say what the definitions make of them.
use Rattle.std.specs.Prelude.{ℤ, pos, neg_ℤ, [], ◌∷◌}
use Rattle.pit_model.specs.Mine.{Instance, instance_of}
use Rattle.pit_model.specs.Deposit.{Deposit}

-- two blocks, of which the second needs the first
abbrev pub two_blocks : ℤ → ℤ → Instance
two_blocks first second = instance_of 2 (first ∷ second ∷ []) ((1, 0) ∷ [])

-- four blocks, of which 0 needs 1 and 3, and 2 needs 1; blocks 1 and 3 cost 2 each
abbrev pub fork : ℤ → ℤ → Instance
fork first third = instance_of 4 (first ∷ neg_ℤ (pos 2) ∷ third ∷ neg_ℤ (pos 2) ∷ []) ((0, 1) ∷ (0, 3) ∷ (2, 1) ∷ [])

-- its third merger cuts a link, and the weak root stays weak
abbrev pub cut_fork : Instance
cut_fork = fork (pos 1) (pos 5)

-- its third merger cuts a link between two branches that are both strong then
abbrev pub split_fork : Instance
split_fork = fork (pos 4) (pos 5)

-- its third merger uses up a residual exactly, and keeps the link
abbrev pub kept_fork : Instance
kept_fork = fork (pos 4) (pos 2)

-- four blocks, of which 2 needs 0, and 3 needs 0 and 1
abbrev pub field : Instance
field = instance_of 4 (neg_ℤ (pos 3) ∷ neg_ℤ (pos 4) ∷ pos 10 ∷ pos 2 ∷ []) ((2, 0) ∷ (3, 0) ∷ (3, 1) ∷ [])

-- two and three blocks, of which the first is waste, and each other needs it; in millionths
abbrev pub pair_deposit : Deposit
pair_deposit = record {
  blocks = 2;
  revenues = pos 0 ∷ pos 10000000 ∷ [];
  costs = pos 3000000 ∷ pos 1000000 ∷ [];
  pairs = (1, 0) ∷ [];
}

abbrev pub three_deposit : Deposit
three_deposit = record {
  blocks = 3;
  revenues = pos 0 ∷ pos 10000000 ∷ pos 10000000 ∷ [];
  costs = pos 3000000 ∷ pos 1000000 ∷ pos 8000000 ∷ [];
  pairs = (1, 0) ∷ (2, 0) ∷ [];
}
