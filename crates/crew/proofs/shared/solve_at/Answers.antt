-- The seats that come with the board have asked for nothing.
use Rattle.std.proofs.Common.{[], ◌≡◌, subst, sym}
use Rattle.std.specs.List.{All}
use Rattle.proposals.specs.declared.seat_state.WorkerLedger.{WorkerLedger}
use Rattle.crew.proofs.Working.{none_asked}
use Rattle.crew.proofs.shared.solve_at.Goals as goal

pub with_workers-requires : goal.with_workers-requires
with_workers-requires g c = subst (All (λ (d : WorkerLedger). d.asked ≡ [])) (sym c.in_ok-board.ensures.workers) (none_asked c.args.begun.unnamed.words)
