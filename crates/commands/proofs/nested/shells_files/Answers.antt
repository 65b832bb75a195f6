-- Each exit is a case of how the call ends.
use Rattle.std.proofs.Common.{refl}
use Rattle.std.proofs.lemmas.Result.{err_from_is_err_and}
use Rattle.commands.specs.Nested.{grew, no_blocks, no_factors, no_prec}
use Rattle.commands.proofs.Calling.{runs_shells}
use Rattle.commands.proofs.nested.shells_files.Goals as goal

pub returns-in_err-factors : goal.returns-in_err-factors
returns-in_err-factors g c =
    let p = err_from_is_err_and c.from_residual.result c.from_residual.ensures.1 in
    rw (p.1, p.2) (no_factors c.in_err-factors.field-0.0 c.in_err-factors.ensures.refused refl (record { unwritten = refl; reported = refl }))

pub returns-in_err-blocks : goal.returns-in_err-blocks
returns-in_err-blocks g c =
    let p = err_from_is_err_and c.from_residual-in_err-blocks.result c.from_residual-in_err-blocks.ensures.1 in
    rw (p.1, p.2) (no_blocks c.in_err-blocks.field-0.0 c.in_ok-factors.factors c.in_ok-factors.ensures.spelled c.in_err-blocks.ensures.lacked.0 c.in_err-blocks.ensures.lacked.1
    (record { unwritten = refl; reported = refl }))

pub returns-in_err-prec : goal.returns-in_err-prec
returns-in_err-prec g c =
    let p = err_from_is_err_and c.from_residual-in_err-prec.result c.from_residual-in_err-prec.ensures.1 in
    rw (p.1, p.2) (no_prec c.in_err-prec.field-0.0 c.in_ok-factors.factors _ c.open_blocks.new.self c.in_ok-factors.ensures.spelled c.in_ok-blocks.ensures.opened
    c.in_err-prec.ensures.lacked.0 c.in_err-prec.ensures.lacked.1 (record { unwritten = refl; reported = refl }))

pub returns : goal.returns
returns g c =
    grew c.in_ok-factors.factors _ _ c.open_blocks.new.self c.with_counters-blocks.result c.run_shells.new.blocks c.with_counters-prec.result c.run_shells.new.prec
    c.in_ok-factors.ensures.spelled c.in_ok-blocks.ensures.opened c.in_ok-prec.ensures.opened
    (record { unread = c.with_counters-blocks.ensures.start; known = c.with_counters-blocks.ensures.known })
    (record { unread = c.with_counters-prec.ensures.start; known = c.with_counters-prec.ensures.known })
    c.run_shells.ensures.blocks_kept c.run_shells.ensures.prec_kept
    (runs_shells c.args.options.now _ _ c.run_shells.result c.run_shells.ensures.done c.run_shells.ensures.within c.run_shells.ensures.refused)
