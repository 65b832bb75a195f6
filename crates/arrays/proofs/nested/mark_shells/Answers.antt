-- The shells of the deposit in memory are those of the deposit that the arrays spell, and the numbers of blocks tell them.
use Rattle.std.proofs.Common.{◌≡◌, ◌<◌, ◌∙◌, ℕ, List, length, map, sym, ap, subst}
use Rattle.std.specs.Prelude.{ℤ}
use Rattle.std.specs.List.{All}
use Rattle.pit_model.specs.declared.direction.Direction.TheVariants.{Least}
use Rattle.pit_model.specs.declared.shell.Shell.{Shell}
use Rattle.pit_model.specs.Shells.{AreFactors, AreShells}
use Rattle.nesting.specs.Prices.{deposit_of}
use Rattle.nesting.proofs.Joining.{is_priced}
use Rattle.arrays.specs.Firsts.{AreFirsts}
use Rattle.arrays.specs.Encoded.{priced_rows}
use Rattle.arrays.proofs.MarkedShells.{are_marked, shells_below}
use Rattle.arrays.proofs.nested.mark_shells.Goals as goal

pub write_firsts-requires-clause-below : goal.write_firsts-requires-clause-below
write_firsts-requires-clause-below c =
    let graph = c.in_ok-graph.graph.value in
    let size : graph.blocks ≡ length c.args.firsts.now = c.in_ok-graph.ensures.encoded.count ∙ sym c.if-firsts-revenues.false in
    subst (λ (ss : List Shell). All (λ (shell : Shell). All (λ u. u < length c.args.firsts.now) shell.pit.items) ss) (sym c.deref-2.ensures.value)
    (shells_below (deposit_of c.in_ok-columns.columns graph) (length c.args.firsts.now) c.in-Ok.shells.items size c.in-Ok.ensures.shells.each)

pub returns-clause-marked : goal.returns-clause-marked
returns-clause-marked c =
    let arrays = c.args.deposit.now in
    let graph = c.in_ok-graph.graph.value in
    let columns = c.in_ok-columns.columns in
    let rows = priced_rows arrays.revenues.now arrays.costs.now arrays.rows.offsets.now arrays.rows.targets.now in
    let shells = c.in-Ok.shells.items in
    let listed = c.in_ok-factors.ensures.list in
    let size : length c.args.firsts.now ≡ graph.blocks = c.if-firsts-revenues.false ∙ sym c.in_ok-graph.ensures.encoded.count in
    let length_is : length columns.revenues ≡ graph.blocks = ap (λ (xs : List ℤ). length xs) c.in_ok-columns.ensures.revenues ∙ sym c.in_ok-graph.ensures.encoded.count in
    let found = subst (λ (fs : List ℕ). AreShells Least (deposit_of columns graph) fs shells) listed c.in-Ok.ensures.shells in
    let summed = c.in_ok-worths.ensures ∙ ap (λ (ss : List Shell). map (λ (shell : Shell). shell.worth) ss) c.deref.ensures.value in
    let numbered = subst (λ n. AreFirsts shells n c.write_firsts.new.firsts (length shells)) size
    (subst (λ (ss : List Shell). AreFirsts ss (length c.args.firsts.now) c.write_firsts.new.firsts (length ss)) c.deref-2.ensures.value c.write_firsts.ensures) in
    are_marked rows columns graph c.args.factors.now c.write_firsts.new.firsts shells c.in_ok-worths.worths.items c.in_ok-graph.ensures.encoded c.in_ok-columns.ensures.revenues c.in_ok-columns.ensures.costs
    (is_priced columns graph c.law.ensures length_is) (subst AreFactors listed c.law-2.ensures) found summed numbered
