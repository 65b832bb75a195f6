-- The marked blocks and the flow are an answer for the whole.
use Rattle.std.proofs.Common.{◌≡◌, ◌∙◌, arith, ap, drop, length}
use Rattle.std.proofs.lemmas.List.{take_at}
use Rattle.pit_model.specs.Mine.{members}
use Rattle.optimality.specs.Check.{has}
use Rattle.merging.proofs.Joining.{answer_is}
use Rattle.merging.proofs.lift.join_parts.Goals as goal

pub returns-clause-answer : goal.returns-clause-answer
returns-clause-answer c =
    let marks = c.place_parts.new.marks in
    let marks_size : length c.place_parts.new.marks ≡ c.in_ok-marks.marks.len = omega (arith, c.in_ok-marks.ensures.len, c.deref_mut.ensures.len) in
    let back : c.deref.result.now ≡ c.place_parts.new.marks = c.deref.ensures.value ∙ take_at c.place_parts.new.marks (drop (length c.place_parts.new.marks) c.in_ok-marks.marks.items) c.in_ok-marks.marks.len marks_size in
    let flow_size : length c.place_parts.new.flow ≡ c.in_ok-flow.flow.len = omega (arith, c.in_ok-flow.ensures.len, c.deref_mut-2.ensures.len) in
    let answer = answer_is c.args.instance.now c.args.parts.now c.law.ensures c.requires c.place_parts.new.marks c.place_parts.new.flow c.place_parts.ensures
    c.in_ok-pit.pit.items _
    (c.in_ok-pit.ensures ∙ ap (λ m. members (length m) (has m)) back ∙ ap (λ n. members n (has c.place_parts.new.marks)) c.place_parts.ensures.marks_size)
    (take_at c.place_parts.new.flow (drop (length c.place_parts.new.flow) c.in_ok-flow.flow.items) c.in_ok-flow.flow.len flow_size) in
    record { certifies = answer.0; candidate = answer.1 }
