-- The verdict ends the ask; the worker ends too where memory was refused.
use Rattle.std.proofs.Common.{◌∙◌, subst, sym}
use Rattle.crew.specs.Working.{EndsAsk}
use Rattle.crew.proofs.Working.{ends_at, ends_by}
use Rattle.crew.proofs.worker.Worker.serve.Goals.{then-is_ok, else-is_ok}
use Rattle.crew.proofs.worker.Worker.serve.Goals as goal

pub returns-in-Some-clause-ended : goal.returns-in-Some-clause-ended
returns-in-Some-clause-ended g c =
    let old = c.args.self.now.seats in
    let new = c.collect.new.self.seats in
    elim c.if-is_ok.branch [
      | then-is_ok w ↦ subst (EndsAsk old new) (sym w.result-is) (ends_by old new c.in-Some.goes_on c.in-Some.ensures)
      | else-is_ok w ↦ subst (EndsAsk old new) (sym (w.result-is ∙ w.if-is_ok.false)) (ends_at old new c.in-Some.goes_on c.in-Some.ensures)
    ]
