-- Each exit is a case of how the call ends.
use Rattle.std.proofs.Common.{refl}
use Rattle.std.proofs.lemmas.Result.{err_from_is_err_and}
use Rattle.commands.specs.Solve.{mine_files}
use Rattle.commands.specs.Over.{no_last, no_mine, ran}
use Rattle.commands.proofs.Calling.{runs_check}
use Rattle.commands.proofs.Reading.{are_from_front}
use Rattle.commands.proofs.check.check_files.Goals as goal

pub returns-in_err-mine : goal.returns-in_err-mine
returns-in_err-mine g c =
    let p = err_from_is_err_and c.from_residual.result c.from_residual.ensures.1 in
    rw (p.1, p.2) (no_mine c.in_err-mine.field-0.0 c.in_err-mine.ensures.lacked (record { unwritten = refl; reported = refl }))

pub returns-in_err-certificate : goal.returns-in_err-certificate
returns-in_err-certificate g c =
    let p = err_from_is_err_and c.from_residual-in_err-certificate.result c.from_residual-in_err-certificate.ensures.1 in
    rw (p.1, p.2) (no_last c.in_err-certificate.field-0.0 _ c.open_mine.new.files c.in_ok-mine.ensures.opened c.in_err-certificate.ensures.lacked.0 c.in_err-certificate.ensures.lacked.1
    (record { unwritten = refl; reported = refl }))

pub returns : goal.returns
returns g c =
    ran c.open_mine.new.files _ _ c.readers_of-mine.result (mine_files c.run_check.new.model c.run_check.new.prec c.run_check.new.fixed) c.new-certificate.result c.run_check.new.certificate
    c.in_ok-mine.ensures.opened c.in_ok-certificate.ensures.opened
    (are_from_front _ _ _ c.in_ok-mine.mine.fixed c.readers_of-mine.result c.in_ok-mine.ensures.named c.readers_of-mine.ensures.named
    c.readers_of-mine.ensures.model c.readers_of-mine.ensures.prec c.readers_of-mine.ensures.fixed)
    (record { unread = c.new-certificate.ensures.start; known = c.new-certificate.ensures.known })
    c.run_check.ensures.files_kept c.run_check.ensures.certificate_kept
    (runs_check _ _ _ _ c.run_check.result c.run_check.ensures.checked c.run_check.ensures.refused)
