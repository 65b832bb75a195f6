-- What is looked at may be a certificate of the mine, and it is one exactly where it is one of the marks.
use Rattle.std.proofs.Common.{rules, ◌≡◌, ◌∙◌, ◌<◌, length, get_or, refl, sym, subst}
use Rattle.std.specs.Prelude.{◌==◌}
use Rattle.std.specs.List.{All}
use Rattle.pit_model.specs.Fixed.{FixedLists, IsNothingFixed, fixed_of, graph_of_mine}
use Rattle.optimality.specs.Check.{AreAmounts}
use Rattle.arrays.proofs.Certifying.{blocks_rise, certify_marks, marks_certify}
use Rattle.arrays.proofs.Marking.{listed_below}
use Rattle.arrays.proofs.certified.check_marks.Goals as goal

pub check-requires-clause-fixed : goal.check-requires-clause-fixed
check-requires-clause-fixed c = c.none.ensures.of_any (graph_of_mine c.in_ok-mine.mine)

pub check-requires-clause-candidate : goal.check-requires-clause-candidate
check-requires-clause-candidate c =
    let encoded = c.in_ok-mine.ensures.encoded in
    let marks = c.args.marks.now in
    let pit = c.in_ok-pit.pit.items in
    let size : length marks ≡ c.in_ok-mine.mine.blocks = c.if-marks-values.false ∙ sym encoded.blocks in
    let sized : length c.args.flow.items ≡ length c.args.rows.now.targets.now = search rules in
    record {
      below = subst (λ n. All (λ u. u < n) pit) size (listed_below (length marks) pit (λ u. get_or marks u 0 == 1) c.in_ok-pit.ensures);
      rising = blocks_rise (length marks) (λ u. get_or marks u 0 == 1) pit c.in_ok-pit.ensures;
      counted = sized ∙ sym encoded.pairs_are.count;
      amounts = subst AreAmounts c.deref.ensures.value c.in_default-first_unfit.ensures.none;
    }

pub returns-in-Ok-clause-exact : goal.returns-in-Ok-clause-exact
returns-in-Ok-clause-exact c =
    let rows = c.args.rows.now in
    let mine = c.in_ok-mine.mine in
    let encoded = c.in_ok-mine.ensures.encoded in
    let marks = c.args.marks.now in
    let size : length marks ≡ mine.blocks = c.if-marks-values.false ∙ sym encoded.blocks in
    let nothing : IsNothingFixed (fixed_of c.none.result.lists) =
    subst (λ (lists : FixedLists). IsNothingFixed (fixed_of lists)) (sym c.none.ensures.lists) (record { none_forced = λ u. refl; none_barred = λ u. refl }) in
    let exact = c.in-Ok.ensures.none_fixed nothing in (
      λ yes. certify_marks c.args.values.now rows.offsets.now rows.targets.now marks c.args.flow.items mine c.in_ok-pit.pit.items encoded c.in_ok-pit.ensures size c.in_default.ensures.none (exact.0 yes),
      λ are. exact.1 (marks_certify c.args.values.now rows.offsets.now rows.targets.now marks c.args.flow.items mine c.in_ok-pit.pit.items encoded c.in_ok-pit.ensures size c.in_default.ensures.none are),
    )
