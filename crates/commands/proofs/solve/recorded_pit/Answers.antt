-- The certificate that the solve ended with shows the pit.
use Rattle.std.proofs.Common.{rules, ◌∙◌, ◌≤◌, List, ℕ, length, subst, sym}
use Rattle.std.specs.Int.{w128}
use Rattle.std.proofs.lemmas.Int.{to_z-of_z}
use mir.Val.{SFits}
use Rattle.pit_model.proofs.Simple.{instance_is_simple}
use Rattle.optimality.proofs.Checked.{shows_fixed}
use Rattle.pit_search.proofs.Searching.{listed_few}
use Rattle.commands.specs.Run.{EndsSolve}
use Rattle.commands.specs.Solve.{fixed_in, fixed_instance_of}
use Rattle.commands.proofs.solve.recorded_pit.Goals as goal

pub worth-worth-requires-clause-few : goal.worth-worth-requires-clause-few
worth-worth-requires-clause-few g c =
    let fixed_mine = fixed_instance_of c.args.fixed_mine.now in
    let ended = subst (EndsSolve c.args.search.now.mode fixed_mine) c.in-Pit.is c.in_ok-count.ensures.ended.0 in
    let shown = shows_fixed fixed_mine.mine (fixed_in fixed_mine) c.in-Pit.shown.pit.items c.in-Pit.shown.flow.items (instance_is_simple fixed_mine.mine c.law.ensures).in_range ended.0.certifies in
    subst (λ (xs : List ℕ). length xs ≤ fixed_mine.mine.blocks) (sym c.deref.ensures.value) (listed_few fixed_mine.mine.blocks c.in-Pit.shown.pit.items shown.set shown.listed)

pub returns-in_ok-put_certificate-in-Pit-clause-found :
    goal.returns-in_ok-put_certificate-in-Pit-clause-found
returns-in_ok-put_certificate-in-Pit-clause-found g c =
    let fixed_mine = fixed_instance_of c.args.fixed_mine.now in
    let ended = subst (EndsSolve c.args.search.now.mode fixed_mine) c.in-Pit.is c.in_ok-count.ensures.ended.0 in
    let fits : SFits w128 c.worth-worth.result = search rules in
    record {
      listed = shows_fixed fixed_mine.mine (fixed_in fixed_mine) c.in-Pit.shown.pit.items c.in-Pit.shown.flow.items (instance_is_simple fixed_mine.mine c.law.ensures).in_range ended.0.certifies;
      worth_is = λ set is. to_z-of_z w128 c.worth-worth.result fits ∙ c.worth-worth.ensures.set set (c.deref.ensures.value ∙ is);
    }
