-- Where nothing is fixed, the mine is its own rest; else the rest was solved, and its outcome lifted.
use Rattle.std.proofs.Common.{◌≡◌, sym, ◌∙◌}
use Rattle.std.proofs.lemmas.Bool.{true≢false}
use Rattle.std.proofs.lemmas.Result.{IfOk-weaker}
use Rattle.pit_model.specs.Fixed.{fixed_of}
use Rattle.mine_graph.specs.FixedBlocks.{no_lists}
use Rattle.solver.specs.Modes.{EndsIn}
use Rattle.solver.specs.Searched.{EndsFixed}
use Rattle.pit_search.proofs.Searching.{is_rest_of}
use Rattle.solver.proofs.Searching.{ends_plain}
use Rattle.solver.proofs.search.Search.solve_with_journal.Goals as goal

pub returns-then-is_empty-clause-ended : goal.returns-then-is_empty-clause-ended
returns-then-is_empty-clause-ended g c =
    let mode = c.args.self.now.mode in
    let mine = c.args.instance.now in
    let fixed = c.args.fixed.now in
    let none = c.is_empty.ensures.0 c.if-is_empty.true in
    IfOk-weaker c.solve.result (λ r. EndsIn mode mine r.0 r.1.items) (λ r. EndsFixed mode mine (fixed_of fixed.lists) r.0 r.1.items)
    (λ r ended. ends_plain mode mine fixed r.0 r.1.items c.requires none ended) c.solve.ensures.ended

pub returns-clause-ended : goal.returns-clause-ended
returns-clause-ended g c =
    let mine = c.args.instance.now in
    let fixed = c.args.fixed.now in
    let rest = c.in_ok-rest.rest in
    let some : fixed.lists ≡ no_lists → ⊥ = λ none. true≢false (sym (c.is_empty.ensures.1 none) ∙ c.if-is_empty.false) in
    (rest.mine, is_rest_of mine fixed rest some c.in_ok-rest.ensures.rest, (c.in_ok-found.found, c.in_ok-found.ensures.ended, c.in_ok-outcome.ensures.lifted))
