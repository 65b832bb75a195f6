-- The blocks before the next are marked.
use Rattle.std.proofs.Common.{◌≡◌, ◌≤◌, ◌+◌, length, take}
use Rattle.std.specs.List.{All}
use Rattle.minelib_reader.specs.Marks.{AreMarked}
use Rattle.minelib_reader.proofs.prec.mark_needs.Given as goal

abbrev pub invariant-loop-i : goal.invariant-loop-i
invariant-loop-i l = record {
  marked : AreMarked l.block.n l.block.id l.marks.items (take l.i l.needs);
  sizes : length l.marks.items ≡ l.block.n;
  marks : All (λ m. m ≤ l.block.id + 1) l.marks.items;
}
