-- A run that is cut short would have written its text to a new writer; a done run over the same texts writes that text.
use Rattle.std.proofs.Common.{refl, subst}
use Rattle.minelib_reader.specs.Device.{WroteFront, progress, unread}
use Rattle.commands.specs.Check.{IsChecked, status_of_answer}
use Rattle.commands.specs.CutShort.{CutsAnswer, CutsPit, CutsReplay, CutsShells}
use Rattle.commands.specs.Replay.{ReportsReplay}
use Rattle.commands.specs.ShellsRun.{IsShellsDone}
use Rattle.commands.specs.Solve.{Files, Reading, IsDone}
use Rattle.commands.specs.declared.status.Status.TheVariants.{Done}
use Rattle.report.specs.AnswerText.{answer_text}
use Rattle.commands.proofs.OneReplay.{replays_once}
use Rattle.commands.proofs.Uniqueness.{checks_once, nests_once, solves_once}

pub cuts_pit : (files other : Files) → CutsPit files other
cuts_pit files other direction before after other_before other_after status same cut done =
    let whole : IsDone direction files (unread 0) (progress cut.text 0 0) Done = record { done = refl; text = cut.text; solves = cut.solves; wrote = (refl, refl) } in
    let one = solves_once files other direction (unread 0) (progress cut.text 0 0) other_before other_after Done status same whole done in
    record { text = one.text; front = subst (WroteFront before after) one.taken cut.wrote; whole = one.taken_too }

pub cuts_shells : (blocks prec other_blocks other_prec : Reading) → CutsShells blocks prec other_blocks other_prec
cuts_shells blocks prec other_blocks other_prec direction revenue cost factors before after other_before other_after status same same_prec cut done =
    let whole : IsShellsDone direction blocks prec revenue cost factors (unread 0) (progress cut.text 0 0) Done =
    record { done = refl; text = cut.text; gives = cut.gives; wrote = (refl, refl) } in
    let one = nests_once blocks prec other_blocks other_prec direction revenue cost factors (unread 0) (progress cut.text 0 0) other_before other_after Done status same same_prec whole done in
    record { text = one.text; front = subst (WroteFront before after) one.taken cut.wrote; whole = one.taken_too }

pub cuts_answer : (files other : Files) (certificate other_certificate : Reading) → CutsAnswer files other certificate other_certificate
cuts_answer files other certificate other_certificate before after other_before other_after status same alike cut done =
    let text = answer_text cut.answer in
    let whole : IsChecked files certificate (unread 0) (progress text 0 0) (status_of_answer cut.answer) =
    record { answer = cut.answer; checks = cut.checks; reported = refl; wrote = (refl, refl) } in
    let one = (checks_once files other certificate other_certificate (unread 0) (progress text 0 0) other_before other_after (status_of_answer cut.answer) status same alike whole done).0 in
    record { text = one.text; front = subst (WroteFront before after) one.taken cut.wrote; whole = one.taken_too }

pub cuts_replay : (files other : Files) (journal other_journal : Reading) → CutsReplay files other journal other_journal
cuts_replay files other journal other_journal before after other_before other_after status same alike cut done =
    let whole : ReportsReplay files journal (unread 0) (progress cut.text 0 0) cut.status = record { text = cut.text; replays = cut.replays; wrote = (refl, refl) } in
    let one = (replays_once files other journal other_journal (unread 0) (progress cut.text 0 0) other_before other_after cut.status status same alike whole done).0 in
    record { text = one.text; front = subst (WroteFront before after) one.taken cut.wrote; whole = one.taken_too }
