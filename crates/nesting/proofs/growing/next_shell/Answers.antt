-- What is found on the rest joins the shell before; that is the factor's shell, and the shell before of the next factor.
use Rattle.std.proofs.Common.{◌≡◌, ◌∙◌, ◌<◌, ◌≤◌, List, Bool, ℕ, get_or, length, sym, ap, subst, arith, rules}
use Rattle.std.specs.List.{All}
use Rattle.std.specs.Int.{w128}
use Rattle.std.proofs.lemmas.Int.{to_z-of_z}
use mir.Val.{SFits}
use Rattle.pit_model.specs.Sum.{total}
use Rattle.std.proofs.lemmas.Result.{err_from_is_err_and}
use Rattle.pit_model.specs.Mine.{Instance, members}
use Rattle.pit_model.specs.Pit.{ListsPit, no_blocks_fixed}
use Rattle.pit_search.specs.Searched.{OfSearched, RefusesFind}
use Rattle.pit_model.specs.Graph.{Graph}
use Rattle.pit_model.specs.Size.{most_blocks}
use Rattle.pit_model.specs.Shells.{factor_of, IsJoined, IsOutside}
use Rattle.nesting.specs.Prices.{deposit_of, price_of}
use Rattle.nesting.specs.Grown.{marked, rest_at}
use Rattle.nesting.proofs.Joining.{found_below, grows, is_priced, is_rest, is_shell, left_over, marked_below, marked_few}
use Rattle.nesting.proofs.Refusing.{find_refuses}
use Rattle.nesting.proofs.growing.next_shell.Goals as goal

pub rest_instance-requires-clause-rows : goal.rest_instance-requires-clause-rows
rest_instance-requires-clause-rows g c i l =
    let growing = c.args.growing.now in
    let below = (left_over (deposit_of c.args.plan.now.columns.now c.args.plan.now.graph.now.value) growing.marks.items growing.blocks.items growing.graph.value c.requires.grown.outside i l).0 in
    let rows = c.requires.rows in
    omega arith

pub returns-in_err-found-clause-refused : goal.returns-in_err-found-clause-refused
returns-in_err-found-clause-refused g c =
    let p = err_from_is_err_and c.from_residual-in_err-found.result c.from_residual-in_err-found.ensures.1 in
    let e = c.in_err-found.field-0.0 in
    let Refuses = g.S.PitSolver.Refuses c.args.solver.now in
    let direction = c.args.plan.now.direction in
    let columns = c.args.plan.now.columns.now in
    let graph = c.args.plan.now.graph.now.value in
    let factors = c.args.plan.now.factors.now in
    let growing = c.args.growing.now in
    let is : c.in_ok-rest.rest ≡ rest_at columns (factor_of factors c.args.k) growing.blocks.items growing.graph.value =
    c.in_ok-rest.ensures.is ∙ ap (λ f. rest_at columns f growing.blocks.items growing.graph.value) c.get-factor.ensures in
    let refused = subst (λ (rest : Instance). RefusesFind Refuses direction rest no_blocks_fixed e) is c.in_err-found.ensures.refused in
    rw (p.1, p.2) (find_refuses Refuses direction (deposit_of columns graph) factors c.args.k
    (rest_at columns (factor_of factors c.args.k) growing.blocks.items growing.graph.value) e c.requires.known
    (is_rest direction columns graph growing.graph.value factors c.args.k growing.marks.items growing.blocks.items c.requires.grown) refused)

pub join-requires-clause-below : goal.join-requires-clause-below
join-requires-clause-below g c =
    let growing = c.args.growing.now in
    let columns = c.args.plan.now.columns.now in
    let direction = c.args.plan.now.direction in
    let found = subst (λ (rest : Instance). ListsPit direction rest no_blocks_fixed c.in_ok-found.found.blocks.items) c.in_ok-rest.ensures.is c.in_ok-found.ensures.found.listed in
    subst (λ (xs : List ℕ). (j : ℕ) → j < length xs → get_or xs j 0 < length growing.blocks.items) (sym c.deref-3.ensures.value)
    (found_below direction columns c.get-factor.result growing.blocks.items c.in_ok-found.found.blocks.items growing.graph.value c.requires.grown.outside.is_part.count found)

pub worth-worth-requires-clause-few : goal.worth-worth-requires-clause-few
worth-worth-requires-clause-few g c =
    let marks = c.join.new.growing.marks.items in
    let graph = c.args.plan.now.graph.now.value in
    let listed : c.deref-5.result.now ≡ members (length marks) (marked marks) =
    c.deref-5.ensures.value ∙ c.in_ok-pit.ensures ∙ ap (λ (ms : List Bool). members (length ms) (marked ms)) c.deref-4.ensures.value in
    let size : length marks ≡ graph.blocks = c.in_ok-join.ensures.size ∙ ap (λ (h : Graph). h.blocks) c.deref-2.ensures in
    let few = marked_few graph.blocks marks c.deref-5.result.now listed size in
    let most = subst (λ (h : Graph). h.blocks ≤ most_blocks) c.deref.ensures c.law-3.ensures.few_blocks in
    omega arith

pub worth-worth-requires-clause-blocks : goal.worth-worth-requires-clause-blocks
worth-worth-requires-clause-blocks g c =
    let marks = c.join.new.growing.marks.items in
    let graph = c.args.plan.now.graph.now.value in
    let listed : c.deref-5.result.now ≡ members (length marks) (marked marks) =
    c.deref-5.ensures.value ∙ c.in_ok-pit.ensures ∙ ap (λ (ms : List Bool). members (length ms) (marked ms)) c.deref-4.ensures.value in
    let size : length marks ≡ graph.blocks = c.in_ok-join.ensures.size ∙ ap (λ (h : Graph). h.blocks) c.deref-2.ensures in
    subst (λ n. All (λ u. u < n) c.deref-5.result.now) (sym c.requires.rows) (marked_below graph.blocks marks c.deref-5.result.now listed size)

pub returns-clause-grown : goal.returns-clause-grown
returns-clause-grown g c =
    let direction = c.args.plan.now.direction in
    let columns = c.args.plan.now.columns.now in
    let graph = c.args.plan.now.graph.now.value in
    let factors = c.args.plan.now.factors.now in
    let growing = c.args.growing.now in
    let next = c.join.new.growing in
    let is : c.in_ok-rest.rest ≡ rest_at columns (factor_of factors c.args.k) growing.blocks.items growing.graph.value =
    c.in_ok-rest.ensures.is ∙ ap (λ f. rest_at columns f growing.blocks.items growing.graph.value) c.get-factor.ensures in
    let found = subst (λ (rest : Instance). ListsPit direction rest no_blocks_fixed c.in_ok-found.found.blocks.items) is c.in_ok-found.ensures.found.listed in
    let joined = subst (λ (xs : List ℕ). (test : ℕ → Bool) → xs ≡ members (length growing.blocks.items) test → IsJoined (marked growing.marks.items) growing.blocks.items test (marked next.marks.items)) c.deref-3.ensures.value c.in_ok-join.ensures.joined in
    let size : length next.marks.items ≡ graph.blocks = c.in_ok-join.ensures.size ∙ ap (λ (h : Graph). h.blocks) c.deref-2.ensures in
    let outside = subst (λ (h : Graph). IsOutside (deposit_of columns h) (marked next.marks.items) next.blocks.items next.graph.value) c.deref-2.ensures (c.in_ok-join.ensures.outside columns) in
    grows direction columns graph growing.graph.value next.graph.value factors c.args.k growing.marks.items next.marks.items growing.blocks.items next.blocks.items c.in_ok-found.found.blocks.items
    (is_priced columns graph c.law-2.ensures c.requires.rows) c.law.ensures c.requires.known c.requires.grown found joined size outside

pub returns-clause-shell : goal.returns-clause-shell
returns-clause-shell g c =
    let direction = c.args.plan.now.direction in
    let columns = c.args.plan.now.columns.now in
    let graph = c.args.plan.now.graph.now.value in
    let factors = c.args.plan.now.factors.now in
    let next = c.join.new.growing in
    let grown = returns-clause-grown g c in
    let listed : c.in_ok-pit.pit.items ≡ members (length next.marks.items) (marked next.marks.items) =
    c.in_ok-pit.ensures ∙ ap (λ (ms : List Bool). members (length ms) (marked ms)) c.deref-4.ensures.value in
    let fits : SFits w128 c.worth-worth.result = search rules in
    let sum = to_z-of_z w128 c.worth-worth.result fits ∙ c.worth-worth.ensures
    ∙ ap (λ (xs : List ℕ). total (length xs) (λ i. price_of columns c.get-factor.result (get_or xs i 0))) c.deref-5.ensures.value
    ∙ ap (λ f. total (length c.in_ok-pit.pit.items) (λ i. price_of columns f (get_or c.in_ok-pit.pit.items i 0))) c.get-factor.ensures in
    is_shell direction columns graph next.graph.value factors c.args.k next.marks.items next.blocks.items _ grown c.get-factor.ensures listed sum

pub returns-clause-within : goal.returns-clause-within
returns-clause-within g c =
    let direction = c.args.plan.now.direction in
    let columns = c.args.plan.now.columns.now in
    let graph = c.args.plan.now.graph.now.value in
    let growing = c.args.growing.now in
    let factors = c.args.plan.now.factors.now in
    let is : c.in_ok-rest.rest ≡ rest_at columns (factor_of factors c.args.k) growing.blocks.items growing.graph.value =
    c.in_ok-rest.ensures.is ∙ ap (λ f. rest_at columns f growing.blocks.items growing.graph.value) c.get-factor.ensures in (
      rest_at columns (factor_of factors c.args.k) growing.blocks.items growing.graph.value,
      is_rest direction columns graph growing.graph.value factors c.args.k growing.marks.items growing.blocks.items c.requires.grown,
      subst (λ (rest : Instance). OfSearched direction rest no_blocks_fixed (g.S.PitSolver.Ends c.args.solver.now)) is c.in_ok-found.ensures.within,
    )
