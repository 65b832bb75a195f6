-- The search answers the place of the first such byte.
use Rattle.minelib_reader.proofs.PlaceLemmas.{first_place}
use Rattle.minelib_reader.proofs.number.place_of.Goals as goal

pub returns-clause-value : goal.returns-clause-value
returns-clause-value c = first_place c.args.byte c.args.text.now c.memchr.result c.memchr.ensures
