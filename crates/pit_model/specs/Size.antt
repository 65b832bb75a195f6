-- The size of the largest mine that is taken.
use Rattle.std.specs.Prelude.{ℕ, ◌^◌}

abbrev pub most_blocks : ℕ
most_blocks = 2 ^ 22

abbrev pub most_pairs : ℕ
most_pairs = 2 ^ 26
