-- What a run says of its result, by the two cases of it.
use Rattle.std.specs.Prelude.{ℕ, List, IfOk, IfErr, Result, Ok, Err}
use Rattle.faults.specs.declared.fault.Fault.{Fault}
use Rattle.minelib_reader.specs.Device.{Progress}
use Rattle.pit_model.specs.Replay.{IsComplete}
use Rattle.shells.specs.ByMode.{EachEndsWithin}
use Rattle.solver.specs.Modes.{EndsWithin}
use Rattle.commands.specs.Certified.{IsCertified}
use Rattle.commands.specs.Check.{IsChecked, RefusesCheck}
use Rattle.commands.specs.Chosen.{Chosen, OfWriterIfAny}
use Rattle.commands.specs.Journaled.{IsJournaled}
use Rattle.commands.specs.Replay.{ReportsReplay, RefusesReplay}
use Rattle.commands.specs.Run.{HoldsOfSearched, RefusesRun}
use Rattle.commands.specs.ShellsRun.{HoldsOfDeposit, IsShellsDone, RefusesShellsRun}
use Rattle.commands.specs.Solve.{Files, Reading, IsDone}
use Rattle.commands.specs.declared.status.Status.{Status}
use Rattle.commands.specs.declared.options.ShellsOptions.{ShellsOptions}
use Rattle.commands.specs.Nested.{RunsShells, ShellsCourse}
use Rattle.commands.specs.Over.{RunsCheck, RunsReplay}
use Rattle.commands.specs.Solved.{RunsSolve, SolveCourse}

pub runs_check : (files : Files) (c : Reading) (b a : Progress) (r : Result Status Fault) → IfOk r (IsChecked files c b a)
    → IfErr r (λ e. RefusesCheck e.refusal e files c b a) → RunsCheck files c b a r
runs_check files c b a (Ok status) done refused = done
runs_check files c b a (Err e) done refused = refused

pub runs_replay : (files : Files) (j : Reading) (b a : Progress) (r : Result Status Fault) → IfOk r (ReportsReplay files j b a)
    → IfErr r (λ e. RefusesReplay e.refusal e files j b a) → RunsReplay files j b a r
runs_replay files j b a (Ok status) reported refused = reported
runs_replay files j b a (Err e) reported refused = refused

pub runs_shells : (options : ShellsOptions) (factors : List ℕ) (run : ShellsCourse) (r : Result Status Fault)
    → IfOk r (IsShellsDone options.settings.pit run.blocks run.prec options.revenue options.cost factors run.before run.after)
    → IfOk r (λ _. HoldsOfDeposit run.blocks run.prec options.revenue options.cost (λ deposit. EachEndsWithin options.settings.mode options.settings.pit deposit factors))
    → IfErr r (λ e. RefusesShellsRun options.settings.mode options.settings.pit e.refusal e run.blocks run.prec options.revenue options.cost factors run.before run.after)
    → RunsShells options factors run r
runs_shells options factors run (Ok status) done within refused = (done, within)
runs_shells options factors run (Err e) done within refused = refused

pub runs_solve : (run : SolveCourse) (journal certificate : Chosen) (r : Result Status Fault)
    → IfOk r (IsDone run.settings.pit run.files run.before run.after)
    → IfOk r (λ _. OfWriterIfAny journal (IsJournaled IsComplete run.settings.mode run.files))
    → IfOk r (λ _. OfWriterIfAny certificate (IsCertified run.files))
    → IfOk r (λ _. HoldsOfSearched run.settings.pit run.files (EndsWithin run.settings.mode))
    → IfErr r (λ e. RefusesRun run.settings e.refusal e run.files journal certificate run.before run.after)
    → RunsSolve run journal certificate r
runs_solve run journal certificate (Ok status) done journaled certified within refused = (done, journaled, certified, within)
runs_solve run journal certificate (Err e) done journaled certified within refused = refused
