-- A blank makes no field.
use Rattle.std.proofs.Common.{sym, ◌∙◌}
use Rattle.minelib_reader.proofs.TextLemmas.{behind_blank}
use Rattle.minelib_reader.proofs.lines.behind_blank.Goals as goal

pub returns-in-len1-up-clause-same : goal.returns-in-len1-up-clause-same
returns-in-len1-up-clause-same c = behind_blank c.args.text.now c.in-len1-up.len_at_least (sym c.is_blank_byte.ensures ∙ c.if-is_blank_byte.true)
