-- An instance after the value of a block grew.
use Rattle.std.specs.Prelude.{ℕ, ℤ, ◌+ℤ◌, set}
use Rattle.pit_model.specs.Mine.{Instance, value, instance_of}

-- the value of a block grew by an amount; all else is as it was
abbrev pub raised_at : Instance → ℕ → ℤ → Instance
raised_at mine block amount = instance_of mine.blocks (set mine.values block (value mine block +ℤ amount)) mine.pairs
