-- The pit of the mine in memory is that of the mine that the arrays spell, since it does not depend on the order of the pairs.
use Rattle.std.proofs.Common.{rules, ◌≡◌, ◌<◌, ◌∙◌, ℕ, List, length, sym, subst, ap}
use Rattle.std.specs.List.{All}
use Rattle.std.specs.Int.{w128}
use Rattle.std.proofs.lemmas.Int.{to_z-of_z}
use mir.Val.{SFits}
use Rattle.pit_model.specs.Mine.{instance_of, members}
use Rattle.pit_model.proofs.SamePairs.{pit_knows_no_order, turned}
use Rattle.arrays.specs.Fixing.{fixed_by, toward}
use Rattle.arrays.specs.Solved.{AreMarks}
use Rattle.arrays.proofs.Marking.{listed_below}
use Rattle.arrays.proofs.pit.mark_pit.Goals as goal

pub write_marks-requires : goal.write_marks-requires
write_marks-requires c =
    let mine = c.in_ok-mine.mine in
    let shown = c.in_ok-found.ensures.found.listed in
    let size : length c.args.marks.now ≡ mine.blocks = c.if-marks-values.false ∙ sym c.in_ok-mine.ensures.encoded.encoded.blocks in
    let below = subst (λ n. All (λ u. u < n) c.in_ok-found.found.blocks.items) (sym size) (listed_below mine.blocks c.in_ok-found.found.blocks.items shown.set shown.listed) in
    subst (λ (xs : List ℕ). All (λ u. u < length c.args.marks.now) xs) (sym c.deref.ensures.value) below

pub returns-clause-marked : goal.returns-clause-marked
returns-clause-marked c =
    let mine = c.in_ok-mine.mine in
    let fits : SFits w128 c.in_ok-found.found.worth = search rules in
    let found = c.in_ok-found.ensures.found in
    let shown = found.listed in
    let encoded = c.in_ok-mine.ensures.encoded in
    let size : length c.args.marks.now ≡ mine.blocks = c.if-marks-values.false ∙ sym encoded.encoded.blocks in
    let listed = c.deref.ensures.value ∙ shown.listed ∙ ap (λ n. members n shown.set) (sym size) in
    record {
      mine = instance_of mine.blocks mine.values encoded.pairs;
      encoded = encoded.encoded;
      set = shown.set;
      marks_are = subst (λ n. AreMarks n shown.set c.write_marks.new.marks) size (c.write_marks.ensures shown.set listed);
      is_pit = pit_knows_no_order (toward c.args.greatest) mine.blocks mine.values mine.pairs encoded.pairs (fixed_by c.args.arrays.now.numbers.now) shown.set
          (turned encoded.pairs mine.pairs encoded.same) shown.is_pit;
      worth_is = to_z-of_z w128 c.in_ok-found.found.worth fits ∙ found.worth_is shown.set shown.listed;
    }
