-- The attributes so far, and what the rest of the line gives.
use Rattle.std.proofs.Common.{◌^◌, length}
use Rattle.std.specs.List.{All}
use Rattle.minelib_reader.specs.Number.{IsBounded}
use Rattle.minelib_reader.specs.Text.{fields_of}
use Rattle.minelib_reader.specs.Blocks.{attributes_of}
use Rattle.minelib_reader.proofs.BlocksLineLemmas.{SoFar}
use Rattle.minelib_reader.proofs.blocks.read_attributes.Given as goal

abbrev pub invariant-loop-field : goal.invariant-loop-field
invariant-loop-field l = record {
  so_far : SoFar l.line (fields_of l.rest) (attributes_of l.line (fields_of l.fn.text)) l.initial.attributes.items l.attributes.items;
  small : All (IsBounded (10 ^ 18)) l.attributes.items;
}

abbrev pub decreases-loop-field : goal.decreases-loop-field
decreases-loop-field l = length l.rest
