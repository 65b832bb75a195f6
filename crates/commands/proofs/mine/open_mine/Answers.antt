-- A file that could not be opened is a case of how the mine's files are lacked.
use Rattle.std.proofs.lemmas.Result.{err_from_is_err_and}
use Rattle.commands.specs.Opened.{no_prec, no_fixed}
use Rattle.commands.proofs.mine.open_mine.Goals as goal

pub returns-in_err-prec-clause-lacked : goal.returns-in_err-prec-clause-lacked
returns-in_err-prec-clause-lacked g c =
    let p = err_from_is_err_and c.from_residual-in_err-prec.result c.from_residual-in_err-prec.ensures.1 in
    rw (p.1, p.2) (no_prec c.open_model.new.self _ c.in_ok-model.ensures.opened c.in_err-prec.ensures.lacked.0 c.in_err-prec.ensures.lacked.1)

pub returns-in_err-fixed-clause-lacked : goal.returns-in_err-fixed-clause-lacked
returns-in_err-fixed-clause-lacked g c =
    let p = err_from_is_err_and c.from_residual-in_err-fixed.result c.from_residual-in_err-fixed.ensures.1 in
    rw (p.1, p.2) (no_fixed c.open_model.new.self c.open_prec.new.self _ _ c.in_ok-model.ensures.opened c.in_ok-prec.ensures.opened c.in_err-fixed.ensures.lacked)
