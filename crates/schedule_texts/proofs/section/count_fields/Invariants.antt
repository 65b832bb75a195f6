-- The fields counted so far, with those of the rest, are all.
use Rattle.std.proofs.Common.{◌≡◌, ◌+◌, ◌≤◌, length}
use Rattle.minelib_reader.specs.Text.{fields_of}
use Rattle.schedule_texts.proofs.section.count_fields.Given as goal

abbrev pub invariant-loop-behind : goal.invariant-loop-behind
invariant-loop-behind l = record {
  fields : l.count + length (fields_of l.rest) ≡ length (fields_of l.fn.text);
  bytes : l.count + length l.rest ≤ length l.fn.text;
}

abbrev pub decreases-loop-behind : goal.decreases-loop-behind
decreases-loop-behind l = length l.rest
