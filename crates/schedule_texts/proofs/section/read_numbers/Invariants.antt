-- The numbers so far, and what the rest of the line gives.
use Rattle.std.proofs.Common.{length}
use Rattle.minelib_reader.specs.Text.{fields_of}
use Rattle.schedule_texts.specs.Section.{numeric_fields}
use Rattle.schedule_texts.proofs.NumberLemmas.{SoFar}
use Rattle.schedule_texts.proofs.section.read_numbers.Given as goal

abbrev pub invariant-loop-field : goal.invariant-loop-field
invariant-loop-field l = record {
  so_far : SoFar l.line l.left (fields_of l.rest) (numeric_fields l.line l.wholes (fields_of l.fn.text)) l.initial.numbers.items l.numbers.items;
}

abbrev pub decreases-loop-field : goal.decreases-loop-field
decreases-loop-field l = length l.rest
