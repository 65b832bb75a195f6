-- The blocks so far know their places.
use Rattle.std.proofs.Common.{◌≡◌, ◌<◌, ℕ, length, get_or}
use Rattle.mine_graph.specs.Renumbered.{IsPlaced}
use Rattle.mine_graph.proofs.part.place_blocks.Given as goal

abbrev pub invariant-loop-i : goal.invariant-loop-i
invariant-loop-i l = record {
  count : length l.places ≡ length l.initial.places;
  placed : IsPlaced l.blocks l.i l.places;
  rest : (u : ℕ) → ((i : ℕ) → i < l.i → get_or l.blocks i 0 ≡ u → ⊥) → get_or l.places u 0 ≡ get_or l.initial.places u 0;
}
