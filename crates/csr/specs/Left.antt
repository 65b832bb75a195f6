-- What counting down leaves over.
use Rattle.std.specs.Prelude.{ℕ, nat_lt, Bool, List, get_or}

-- the blocks of which something is left
abbrev pub left_over : List ℕ → ℕ → Bool
left_over left u = nat_lt 0 (get_or left u 0)
