-- What `parse_lines` answers is what is read of the text, and the laws say what that is.
use Rattle.std.proofs.Common.{subst}
use Rattle.minelib_reader.specs.Answer.{Gives}
use Rattle.minelib_reader.specs.Text.{rows_of}
use Rattle.minelib_reader.specs.Prec.{prec_of}
use Rattle.minelib_reader.specs.PrecFault.{IsFirstPrecFault}
use Rattle.minelib_reader.specs.PrecGrammar.{SpellsPrec}
use Rattle.minelib_reader.specs.PrecLimits.{ArePrecedences}
use Rattle.minelib_reader.proofs.AnswerLemmas.{value_told, fault_told}
use Rattle.minelib_reader.proofs.PrecGrammarLemmas.{reads, spelled}
use Rattle.minelib_reader.proofs.PrecFaultLemmas.{fails_first}
use Rattle.minelib_reader.proofs.PrecLimitLemmas.{lawful}
use Rattle.minelib_reader.proofs.prec.parse_prec_rows.Goals as goal

pub returns-clause-spelled : goal.returns-clause-spelled
returns-clause-spelled c =
    let text = c.args.text.now in
    value_told (λ v. v.pairs) c.parse_lines.result (prec_of c.args.n text) (SpellsPrec c.args.n text) (spelled c.args.n 0 0 (rows_of text)) c.parse_lines.ensures.pairs

pub returns-clause-read : goal.returns-clause-read
returns-clause-read c = λ pairs s. subst (λ f. Gives (λ v. v.pairs) c.parse_lines.result f) (reads c.args.n 0 0 (rows_of c.args.text.now) pairs s) c.parse_lines.ensures.pairs

pub returns-clause-first_fault : goal.returns-clause-first_fault
returns-clause-first_fault c =
    let text = c.args.text.now in
    fault_told (λ v. v.pairs) c.parse_lines.result (prec_of c.args.n text) (IsFirstPrecFault c.args.n text) (fails_first c.args.n 0 0 (rows_of text)) c.parse_lines.ensures.pairs

pub returns-clause-lawful : goal.returns-clause-lawful
returns-clause-lawful c =
    let text = c.args.text.now in
    value_told (λ v. v.pairs) c.parse_lines.result (prec_of c.args.n text) (ArePrecedences c.args.n) (λ pairs e. lawful c.args.n (rows_of text) pairs (spelled c.args.n 0 0 (rows_of text) pairs e)) c.parse_lines.ensures.pairs
