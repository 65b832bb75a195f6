-- The pit of the mine lies among the blocks and is marked; the worth of the pit toward the direction is summed.
use Rattle.std.proofs.Common.{◌≡◌, ◌<◌, ◌≤◌, ◌∙◌, ℕ, List, ap, subst, sym, length, get_or, arith, rules, refl}
use Rattle.std.specs.List.{All}
use Rattle.std.specs.Int.{w128}
use Rattle.std.proofs.lemmas.Int.{to_z-of_z}
use Rattle.std.proofs.lemmas.Result.{err_from_is_err_and}
use mir.Val.{SFits}
use Rattle.pit_model.specs.Sum.{total}
use Rattle.pit_model.specs.Mine.{members}
use Rattle.pit_model.specs.Size.{most_blocks}
use Rattle.pit_model.proofs.Members.{members_below, members_few}
use Rattle.pit_search.proofs.Searching.{inside_listed}
use Rattle.nesting.specs.Prices.{price_of}
use Rattle.nesting.specs.Parametric.{set_toward}
use Rattle.nesting.proofs.parametric_shells.solve.Goals as goal

pub mark_blocks-requires : goal.mark_blocks-requires
mark_blocks-requires c =
    let shown = c.in_ok-mine.ensures.shown in
    let n = c.args.mine.blocks in
    let count : n ≡ c.n-blocks.result = search rules in
    subst (λ (xs : List ℕ). All (λ u. u < c.n-blocks.result) xs) (sym (c.deref-2.ensures.value ∙ shown.listed))
    (subst (λ k. All (λ u. u < k) (members n shown.set)) count (members_below n shown.set))

pub pit_toward-requires : goal.pit_toward-requires
pit_toward-requires c =
    let shown = c.in_ok-mine.ensures.shown in
    let found = c.in_ok-mine.found.items in
    let n = c.args.mine.blocks in
    let count : n ≡ c.n-blocks.result = search rules in
    subst (λ k. (i : ℕ) → i < length found → get_or found i 0 < k) count (inside_listed n found shown.set shown.listed)

pub worth-worth-requires-clause-few : goal.worth-worth-requires-clause-few
worth-worth-requires-clause-few c =
    let shown = c.in_ok-mine.ensures.shown in
    let n = c.args.mine.blocks in
    let set = set_toward c.args.plan.now.direction shown.set in
    let count : n ≡ c.n-blocks.result = search rules in
    let listed = c.in_ok-pit.ensures.pit shown.set (shown.listed ∙ ap (λ k. members k shown.set) count) in
    let few = members_few c.n-blocks.result set in
    let size = ap (λ (xs : List ℕ). length xs) (c.deref-3.ensures.value ∙ listed) in
    let most : n ≤ most_blocks = search rules in
    omega arith

pub worth-worth-requires-clause-blocks : goal.worth-worth-requires-clause-blocks
worth-worth-requires-clause-blocks c =
    let shown = c.in_ok-mine.ensures.shown in
    let n = c.args.mine.blocks in
    let set = set_toward c.args.plan.now.direction shown.set in
    let count : n ≡ c.n-blocks.result = search rules in
    let listed = c.in_ok-pit.ensures.pit shown.set (shown.listed ∙ ap (λ k. members k shown.set) count) in
    subst (λ (xs : List ℕ). All (λ u. u < length c.args.plan.now.columns.now.revenues) xs) (sym (c.deref-3.ensures.value ∙ listed))
    (subst (λ k. All (λ u. u < k) (members c.n-blocks.result set)) (sym (c.requires.rows ∙ count)) (members_below c.n-blocks.result set))

pub returns-clause-solved : goal.returns-clause-solved
returns-clause-solved c =
    let shown = c.in_ok-mine.ensures.shown in
    let n = c.args.mine.blocks in
    let set = set_toward c.args.plan.now.direction shown.set in
    let count : c.n-blocks.result ≡ n = search rules in
    let found_listed = shown.listed ∙ ap (λ k. members k shown.set) (sym count) in
    let fits : SFits w128 c.worth-worth.result = search rules in
    record {
      set = shown.set;
      is_pit = shown.is_pit;
      same = c.in_ok-mine.ensures.mine;
      size = c.in_ok-marks.ensures.size ∙ count;
      marks_are = λ u l. c.in_ok-marks.ensures.marks shown.set (c.deref-2.ensures.value ∙ found_listed) u (omega arith);
      listed = c.in_ok-pit.ensures.pit shown.set found_listed ∙ ap (λ k. members k set) count;
      factor_is = refl;
      worth_is = to_z-of_z w128 c.worth-worth.result fits ∙ c.worth-worth.ensures
          ∙ ap (λ (xs : List ℕ). total (length xs) (λ i. price_of c.args.plan.now.columns.now c.args.factor (get_or xs i 0))) c.deref-3.ensures.value;
    }

pub returns-in_err-marks-clause-refused : goal.returns-in_err-marks-clause-refused
returns-in_err-marks-clause-refused c =
    let p = err_from_is_err_and c.from_residual-in_err-marks.result c.from_residual-in_err-marks.ensures.1 in
    rw p.1 p.2

pub returns-in_err-pit-clause-refused : goal.returns-in_err-pit-clause-refused
returns-in_err-pit-clause-refused c =
    let p = err_from_is_err_and c.from_residual-in_err-pit.result c.from_residual-in_err-pit.ensures.1 in
    rw p.1 p.2
