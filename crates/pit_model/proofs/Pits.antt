-- A pit where nothing is fixed: each closed set is allowed.
use Rattle.std.proofs.Common.{◌≡◌, ℕ, Bool, refl, sym, ◌∙◌}
use Rattle.std.specs.Prelude.{◌≤ℤ◌}
use Rattle.std.proofs.lemmas.Bool.{true≢false}
use Rattle.pit_model.specs.declared.direction.Direction.{Direction}
use Rattle.pit_model.specs.Mine.{Instance, IsClosed, worth}
use Rattle.pit_model.specs.Pit.{Fixed, IsAllowed, IsPit, LiesToward, no_blocks_fixed}
use Rattle.pit_model.specs.Fixed.{IsNothingFixed}

closed_is_allowed : (mine : Instance) (fixed : Fixed) → IsNothingFixed fixed → (set : ℕ → Bool) → IsClosed mine set → IsAllowed mine fixed set
closed_is_allowed mine fixed none set closed = record {
  closed = closed;
  holds_forced = λ u h. absurd (true≢false (sym h ∙ none.none_forced u));
  no_barred = λ u h. absurd (true≢false (sym h ∙ none.none_barred u));
}

pub nothing_fixed : IsNothingFixed no_blocks_fixed
nothing_fixed = record { none_forced = λ u. refl; none_barred = λ u. refl }

pub free : (mine : Instance) (set : ℕ → Bool) → IsClosed mine set → IsAllowed mine no_blocks_fixed set
free mine set closed = closed_is_allowed mine no_blocks_fixed nothing_fixed set closed

-- no closed set is worth more than the pit, and it lies toward each that is worth as much
pub closed_best : {direction : Direction} {mine : Instance} {set : ℕ → Bool} → IsPit direction mine no_blocks_fixed set → (other : ℕ → Bool) → IsClosed mine other → worth mine other ≤ℤ worth mine set
closed_best {mine = mine} pit other closed = pit.best other (free mine other closed)

pub closed_extreme : {direction : Direction} {mine : Instance} {set : ℕ → Bool} → IsPit direction mine no_blocks_fixed set → (other : ℕ → Bool) → IsClosed mine other
    → worth mine other ≡ worth mine set → LiesToward direction mine.blocks set other
closed_extreme {mine = mine} pit other closed = pit.extreme other (free mine other closed)

-- it keeps to fixed blocks of which there are none
pub keeps_to_none : (direction : Direction) (mine : Instance) (fixed : Fixed) (set : ℕ → Bool) → IsNothingFixed fixed → IsPit direction mine no_blocks_fixed set → IsPit direction mine fixed set
keeps_to_none direction mine fixed set none pit = record {
  allowed = closed_is_allowed mine fixed none set pit.allowed.closed;
  best = λ other ok. closed_best pit other ok.closed;
  extreme = λ other ok. closed_extreme pit other ok.closed;
}
