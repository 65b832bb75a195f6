-- A budget that no run uses up leaves the first run without a merger arc.
use Rattle.pit_model.proofs.Simple.{instance_is_simple}
use Rattle.merging.proofs.single.solve_within.Goals as goal

pub returns-in_ok-solve_certificate-clause-solved : goal.returns-in_ok-solve_certificate-clause-solved
returns-in_ok-solve_certificate-clause-solved c = (
  c.in_ok-solve_certificate.ensures.answer,
  c.budget_suffices.ensures.alone c.args.instance.now c.args.budget (instance_is_simple c.args.instance.now c.law.ensures) c.if-is_enough.ensures,
)
