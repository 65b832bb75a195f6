use Rattle.std.proofs.Common.{subst}
use Rattle.std.specs.Prelude.{IfSome}
use Rattle.optimality.specs.Certificate.{IsCertificateOf}
use Rattle.merging.proofs.Shown.{certificate_shows}
use Rattle.merging.proofs.parts.pit_by_parts.Goals as goal

pub returns-in-Some-clause-shown : goal.returns-in-Some-clause-shown
returns-in-Some-clause-shown g c =
    certificate_shows c.args.instance.now c.in-Some.joined c.law.ensures (subst (λ (r : _). IfSome r (IsCertificateOf c.args.instance.now)) c.in-Some.is c.in_ok-joined.ensures.answer)
