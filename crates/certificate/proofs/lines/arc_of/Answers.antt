-- A pair with an end above all blocks has no number; another has the one that the graph answers.
use Rattle.std.proofs.Common.{◌≡◌, ℕ, ◌<◌, arith, sym, ap, ◌∙◌, inl, inr, length, List, Option, Some, None}
use Rattle.std.specs.Prelude.{IfSome, IfNone}
use Rattle.pit_model.specs.Graph.{first_of, second_of, AreRising}
use Rattle.certificate.specs.CertificateLines.{arc_of}
use Rattle.certificate.proofs.ArcOf.{arc_found, arc_none, arc_outside}
use Rattle.certificate.proofs.lines.arc_of.Goals as goal
use Rattle.certificate.proofs.lines.arc_of.Goals.{then-u-n-via-then-u-n, then-u-n-via-else-u-n+then-p-n}

answered : (pairs : List (ℕ × ℕ)) (u p : ℕ) (o : Option ℕ) → AreRising pairs
    → IfSome o (λ k. (k < length pairs) × (first_of pairs k ≡ u) × (second_of pairs k ≡ p))
    → IfNone o ((k : ℕ) → k < length pairs → first_of pairs k ≡ u → second_of pairs k ≡ p → ⊥)
    → o ≡ arc_of pairs u p
answered pairs u p None rising some none = sym (arc_none 0 u p pairs none)
answered pairs u p (Some k) rising some none =
    sym (arc_found pairs k rising some.0) ∙ ap (λ v. arc_of pairs v (second_of pairs k)) some.1 ∙ ap (λ v. arc_of pairs u v) some.2

pub returns-then-u-n-clause-arc : goal.returns-then-u-n-clause-arc
returns-then-u-n-clause-arc c = sym (arc_outside c.args.graph.now.pairs c.args.graph.now.blocks c.args.u c.args.p c.law.ensures.graph.in_range
    (elim c.then-u-n.branch [
      | then-u-n-via-then-u-n w ↦ inl (omega arith)
      | then-u-n-via-else-u-n+then-p-n w ↦ inr (omega arith)
    ]))

pub returns-clause-arc : goal.returns-clause-arc
returns-clause-arc c = answered c.args.graph.now.pairs c.args.u c.args.p c.arc_of.result c.law.ensures.graph.rising c.arc_of.ensures.some c.arc_of.ensures.none
