use Rattle.std.proofs.Common.{subst}
use Rattle.merging.proofs.Shown.{certificate_shows}
use Rattle.solver.specs.Searched.{IsShown}
use Rattle.solver.proofs.Searching.{shown_of}
use Rattle.solver.proofs.search.Search.solve_with_certificate.Goals as goal

pub returns-in-Pit-clause-shown : goal.returns-in-Pit-clause-shown
returns-in-Pit-clause-shown g c =
    let mine = c.args.instance.now in
    let solved = c.in_ok-outcome in
    let shown = subst (λ o. IsShown mine o) c.in-Pit.is (shown_of c.args.self.now.mode mine solved.outcome solved.field-0-1.items solved.ensures.ended) in
    certificate_shows mine c.in-Pit.certificate c.law.ensures shown
