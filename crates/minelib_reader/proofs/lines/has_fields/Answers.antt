-- A line that is longer than the blanks at its front has fields.
use Rattle.std.proofs.Common.{refl}
use Rattle.minelib_reader.proofs.TextLemmas.{fields_by}
use Rattle.minelib_reader.proofs.lines.has_fields.Goals as goal

pub returns : goal.returns
returns c = fields_by c.args.text.now c.blanks.result _ c.blanks.ensures.value refl
