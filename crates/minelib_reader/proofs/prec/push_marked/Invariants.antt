-- The pairs so far, the marks of the blocks seen so far, and what the rest of the line gives.
use Rattle.std.proofs.Common.{◌≡◌, ◌≤◌, ◌+◌, ℕ, List, length}
use Rattle.std.specs.List.{All}
use Rattle.minelib_reader.specs.Marks.{AreMarked}
use Rattle.minelib_reader.specs.Text.{fields_of}
use Rattle.minelib_reader.specs.Prec.{needs_from}
use Rattle.minelib_reader.proofs.PrecLemmas.{SoFar}
use Rattle.minelib_reader.proofs.prec.push_marked.Given as goal

abbrev pub invariant-loop-whole : goal.invariant-loop-whole
invariant-loop-whole l = record {
  so_far : (first : List ℕ) → AreMarked l.block.n l.block.id l.initial.marks.items first
      → SoFar l.block.n l.block.id l.block.line first l.marks.items (fields_of l.rest) (needs_from l.block.n l.block.id l.block.line first (fields_of l.fn.text)) l.initial.needs.pairs l.needs.pairs;
  row : l.needs.blocks ≡ l.block.id;
  sizes : length l.marks.items ≡ l.block.n;
  marks : All (λ m. m ≤ l.block.id + 1) l.marks.items;
}

abbrev pub decreases-loop-whole : goal.decreases-loop-whole
decreases-loop-whole l = length l.rest
