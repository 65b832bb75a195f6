-- What `parse_lines` answers is what is read of the text, and the laws say what that is.
use Rattle.std.proofs.Common.{subst}
use Rattle.pit_model.specs.Fixed.{AreFixable}
use Rattle.minelib_reader.specs.Answer.{Gives}
use Rattle.minelib_reader.specs.Text.{rows_of}
use Rattle.minelib_reader.specs.Fixed.{fixed_blocks_of, fixed_lists}
use Rattle.minelib_reader.specs.FixedFault.{IsFirstFixedFault}
use Rattle.minelib_reader.specs.FixedGrammar.{SpellsFixed}
use Rattle.minelib_reader.proofs.AnswerLemmas.{value_told, fault_told}
use Rattle.minelib_reader.proofs.FixedGrammarLemmas.{fixable, reads, spelled}
use Rattle.minelib_reader.proofs.FixedFaultLemmas.{fails_first}
use Rattle.minelib_reader.proofs.fixed.parse_fixed.Goals as goal

pub returns-clause-spelled : goal.returns-clause-spelled
returns-clause-spelled c =
    let text = c.args.text.now in
    value_told (λ v. fixed_lists v.0.items v.1.items) c.parse_lines.result (fixed_blocks_of c.args.n text) (SpellsFixed c.args.n text) (spelled c.args.n 0 (rows_of text)) c.parse_lines.ensures

pub returns-clause-read : goal.returns-clause-read
returns-clause-read c = λ lists s. subst (λ f. Gives (λ v. fixed_lists v.0.items v.1.items) c.parse_lines.result f) (reads c.args.n 0 (rows_of c.args.text.now) lists s) c.parse_lines.ensures

pub returns-clause-first_fault : goal.returns-clause-first_fault
returns-clause-first_fault c =
    let text = c.args.text.now in
    fault_told (λ v. fixed_lists v.0.items v.1.items) c.parse_lines.result (fixed_blocks_of c.args.n text) (IsFirstFixedFault c.args.n text) (fails_first c.args.n 0 (rows_of text)) c.parse_lines.ensures

pub returns-clause-fixable : goal.returns-clause-fixable
returns-clause-fixable c =
    let text = c.args.text.now in
    value_told (λ v. fixed_lists v.0.items v.1.items) c.parse_lines.result (fixed_blocks_of c.args.n text) (AreFixable c.args.n)
    (λ lists e. fixable c.args.n (rows_of text) lists (spelled c.args.n 0 (rows_of text) lists e)) c.parse_lines.ensures
