-- The pair stands at one place alone, so its flow tells.
use Rattle.std.proofs.Common.{subst, sym, ◌∙◌}
use Rattle.std.specs.Prelude.{pos, ◌<ℤ◌}
use Rattle.std.proofs.lemmas.Bool.{false≢true}
use Rattle.optimality.specs.Check.{amount}
use Rattle.optimality.proofs.Sending.{one_place}
use Rattle.optimality.proofs.Spreading.{lt_from, lt_to}
use Rattle.optimality.proofs.reach.sends.Goals as goal

pub returns-in-Some : goal.returns-in-Some
returns-in-Some c =
    let pairs = c.args.graph.now.pairs in
    let flow = c.args.flow.now in
    let arc = c.in-Some.arc in
    let some = c.in-Some.ensures.some in (
      λ on. (arc, some.0, some.1, some.2, lt_from (pos 0) (amount flow arc) (sym c.has_flow.ensures ∙ on)),
      λ sends.
          let same = one_place pairs c.law.ensures.graph.rising sends.0 arc sends.1 some.0 (sends.2 ∙ sym some.1) (sends.3 ∙ sym some.2) in
          c.has_flow.ensures ∙ lt_to (pos 0) (amount flow arc) (subst (λ k. pos 0 <ℤ amount flow k) same sends.4),
    )

pub returns-in-None : goal.returns-in-None
returns-in-None c = (λ off. absurd (false≢true off), λ sends. absurd (c.in-None.ensures.none sends.0 sends.1 sends.2 sends.3))
