-- The values of the blocks so far.
use Rattle.std.proofs.Common.{◌≡◌, ◌<◌, ℕ, length, get_or}
use Rattle.std.specs.Prelude.{pos}
use Rattle.pit_model.specs.Mine.{value}
use Rattle.merging.proofs.parts.values_at.Given as goal

abbrev pub invariant-loop-i : goal.invariant-loop-i
invariant-loop-i l = record {
  count : length l.values.items ≡ l.i;
  each : (u : ℕ) → u < l.i → get_or l.values.items u (pos 0) ≡ value l.instance (get_or l.blocks u 0);
}
