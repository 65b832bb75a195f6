-- What is marked at the end must be dug, or was found.
use Rattle.std.proofs.Common.{◌≡◌, ℕ, ◌∙◌, arith, ap, sym, subst, drop, List, length}
use Rattle.std.specs.Prelude.{Bool}
use Rattle.std.proofs.lemmas.List.{take_at}
use Rattle.pit_model.specs.Mine.{members}
use Rattle.optimality.specs.Check.{has}
use Rattle.merging.specs.Parts.{ArePitMarks}
use Rattle.merging.specs.Reduced.{ListsJoined}
use Rattle.merging.proofs.Resting.{is_open_block, lists_joined}
use Rattle.merging.proofs.reduced_mine.join_pit.Goals as goal

pub mark_pit-requires-clause-blocks : goal.mark_pit-requires-clause-blocks
mark_pit-requires-clause-blocks c u l =
    let below = (is_open_block c.args.n c.args.fixed.now c.args.blocks.now c.requires.blocks u l).0 in
    let marks = ap (λ (xs : List Bool). length xs) c.deref_mut.ensures.value in
    omega (arith, c.in_ok-marks.ensures.count)

pub returns-clause-joined : goal.returns-clause-joined
returns-clause-joined c set listed =
    let before = c.in_ok-marks.marks.items in
    let marks = c.mark_pit.new.marks in
    let was : ArePitMarks c.args.blocks.now c.args.found.now (length c.args.found.now) before marks =
    subst (λ (ms : List Bool). ArePitMarks c.args.blocks.now c.args.found.now (length c.args.found.now) ms marks) c.deref_mut.ensures.value c.mark_pit.ensures in
    let long : length marks ≡ c.in_ok-marks.marks.len = c.mark_pit.ensures.size ∙ c.deref_mut.ensures.len in
    let back : c.deref.result.now ≡ marks = c.deref.ensures.value ∙ take_at marks (drop (length marks) before) c.in_ok-marks.marks.len long in
    let list = lists_joined c.args.n c.args.fixed.now c.args.blocks.now c.requires.blocks c.requires.apart c.args.found.now before marks c.in_ok-marks.ensures.count c.in_ok-marks.ensures.marks was set listed in
    subst (λ (xs : List ℕ). ListsJoined c.args.n c.args.fixed.now c.args.blocks.now set xs)
    (sym (c.in_ok-marked_numbers.ensures ∙ ap (λ (m : List Bool). members (length m) (has m)) back)) list
