-- What is read of the text, the grammar and the first fault say too.
use Rattle.minelib_reader.specs.Text.{rows_of}
use Rattle.minelib_reader.specs.Prec.{prec_of}
use Rattle.minelib_reader.specs.PrecFault.{IsFirstPrecFault}
use Rattle.minelib_reader.specs.PrecGrammar.{SpellsPrec}
use Rattle.minelib_reader.specs.PrecLimits.{ArePrecedences}
use Rattle.minelib_reader.proofs.AnswerLemmas.{answered, answered_value}
use Rattle.minelib_reader.proofs.PrecGrammarLemmas.{spelled}
use Rattle.minelib_reader.proofs.PrecFaultLemmas.{fails_first}
use Rattle.minelib_reader.proofs.PrecLimitLemmas.{lawful}
use Rattle.minelib_reader.proofs.prec.read_prec_rows.Goals as goal

pub returns-clause-answers : goal.returns-clause-answers
returns-clause-answers g c =
    answered (λ v. v.pairs) (prec_of c.args.n) (SpellsPrec c.args.n) (IsFirstPrecFault c.args.n) _ _ _ _ c.read_pieces.result
    (λ text pairs e. spelled c.args.n 0 0 (rows_of text) pairs e) (λ text fault e. fails_first c.args.n 0 0 (rows_of text) fault e) c.read_pieces.ensures.exact

pub returns-clause-lawful : goal.returns-clause-lawful
returns-clause-lawful g c =
    answered_value (λ v. v.pairs) (prec_of c.args.n) (ArePrecedences c.args.n) _ _ _ _ c.read_pieces.result
    (λ text pairs e. lawful c.args.n (rows_of text) pairs (spelled c.args.n 0 0 (rows_of text) pairs e)) c.read_pieces.ensures.exact
