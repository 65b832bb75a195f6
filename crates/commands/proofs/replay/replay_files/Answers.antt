-- Each exit is a case of how the call ends.
use Rattle.std.proofs.Common.{refl}
use Rattle.std.proofs.lemmas.Result.{err_from_is_err_and}
use Rattle.commands.specs.Solve.{mine_files}
use Rattle.commands.specs.Over.{no_last, no_mine, ran}
use Rattle.commands.proofs.Calling.{runs_replay}
use Rattle.commands.proofs.Reading.{are_from_front}
use Rattle.commands.proofs.replay.replay_files.Goals as goal

pub returns-in_err-mine : goal.returns-in_err-mine
returns-in_err-mine g c =
    let p = err_from_is_err_and c.from_residual.result c.from_residual.ensures.1 in
    rw (p.1, p.2) (no_mine c.in_err-mine.field-0.0 c.in_err-mine.ensures.lacked (record { unwritten = refl; reported = refl }))

pub returns-in_err-journal : goal.returns-in_err-journal
returns-in_err-journal g c =
    let p = err_from_is_err_and c.from_residual-in_err-journal.result c.from_residual-in_err-journal.ensures.1 in
    rw (p.1, p.2) (no_last c.in_err-journal.field-0.0 _ c.open_mine.new.files c.in_ok-mine.ensures.opened c.in_err-journal.ensures.lacked.0 c.in_err-journal.ensures.lacked.1
    (record { unwritten = refl; reported = refl }))

pub returns : goal.returns
returns g c =
    ran c.open_mine.new.files _ _ c.readers_of-mine.result (mine_files c.run_replay.new.model c.run_replay.new.prec c.run_replay.new.fixed) c.new-journal.result c.run_replay.new.journal
    c.in_ok-mine.ensures.opened c.in_ok-journal.ensures.opened
    (are_from_front _ _ _ c.in_ok-mine.mine.fixed c.readers_of-mine.result c.in_ok-mine.ensures.named c.readers_of-mine.ensures.named
    c.readers_of-mine.ensures.model c.readers_of-mine.ensures.prec c.readers_of-mine.ensures.fixed)
    (record { unread = c.new-journal.ensures.start; known = c.new-journal.ensures.known })
    c.run_replay.ensures.files_kept c.run_replay.ensures.journal_kept
    (runs_replay _ _ _ _ c.run_replay.result c.run_replay.ensures.reported c.run_replay.ensures.refused)
