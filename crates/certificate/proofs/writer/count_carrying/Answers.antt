-- An arc more, which carries something or doesn't.
use Rattle.std.proofs.Common.{arith, ap, sym, ◌∙◌, length}
use Rattle.std.specs.Prelude.{pos, int_lt}
use Rattle.std.proofs.lemmas.List.{length_push}
use Rattle.pit_model.proofs.Members.{members_few}
use Rattle.optimality.specs.Check.{amount}
use Rattle.certificate.specs.CertificateText.{carrying}
use Rattle.certificate.proofs.Carrying.{carries, carries_not}
use Rattle.certificate.proofs.writer.count_carrying.Goals as goal
use Rattle.certificate.proofs.writer.count_carrying.Goals.{then-carries, else-carries}

pub overflow_add-count : goal.overflow_add-count
overflow_add-count c = omega (arith, members_few c.loop-k.k (λ k. int_lt (pos 0) (amount c.args.flow.now k)))

pub loop-k-preserved : goal.loop-k-preserved
loop-k-preserved c =
    elim c.if-carries.branch [
      | then-carries w ↦
          let on = sym c.carries.ensures ∙ w.if-carries.true in
          let more = ap length (carries c.args.flow.now c.loop-k.k on) in
          let one = length_push (carrying c.args.flow.now c.loop-k.k) c.loop-k.k in
          omega arith
      | else-carries w ↦
          let off = sym c.carries.ensures ∙ w.if-carries.false in
          let same = ap length (carries_not c.args.flow.now c.loop-k.k off) in
          omega arith
    ]
