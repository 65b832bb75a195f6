-- Where nothing is fixed, the replay is one of the mine; else one of the rest, whose pit is joined with what must be dug.
use Rattle.std.proofs.Common.{◌≡◌, ◌<◌, ◌∙◌, ℕ, List, ap, get_or, length, subst, sym}
use Rattle.std.proofs.lemmas.Bool.{true≢false}
use Rattle.std.proofs.lemmas.Result.{err_from_is_err_and}
use Rattle.pit_model.specs.Graph.{Graph}
use Rattle.pit_model.specs.Mine.{members}
use Rattle.optimality.specs.Check.{open_in}
use Rattle.mine_graph.specs.FixedBlocks.{no_lists}
use Rattle.merging.specs.Reduced.{ListsJoined}
use Rattle.merging.proofs.Resting.{none_both}
use Rattle.pit_search.proofs.Searching.{found_inside, is_rest_of}
use Rattle.commands.specs.Replay.{IsReplayedOn}
use Rattle.commands.specs.Solve.{given_by, fixed_instance_of}
use Rattle.commands.proofs.Replaying.{open_replayed, pit_replayed, plain_refused, plain_replayed, rest_refused}
use Rattle.commands.proofs.replay.replay_of.Goals as goal

pub returns-then-is_empty-clause-replayed : goal.returns-then-is_empty-clause-replayed
returns-then-is_empty-clause-replayed g c =
    let journal = given_by g.J.InBytes c.args.journal.now c.replay_on.new.journal in
    plain_replayed (fixed_instance_of c.args.fixed_mine.now) journal c.replay_on.result (c.is_empty.ensures.0 c.if-is_empty.true) c.replay_on.ensures.replayed

pub returns-then-is_empty-clause-refused : goal.returns-then-is_empty-clause-refused
returns-then-is_empty-clause-refused g c =
    let journal = given_by g.J.InBytes c.args.journal.now c.replay_on.new.journal in
    plain_refused (fixed_instance_of c.args.fixed_mine.now) journal c.replay_on.result (c.is_empty.ensures.0 c.if-is_empty.true) c.replay_on.ensures.refused

pub returns-in_err-end-clause-refused : goal.returns-in_err-end-clause-refused
returns-in_err-end-clause-refused g c =
    let p = err_from_is_err_and c.from_residual-in_err-end.result c.from_residual-in_err-end.ensures.1 in
    let e = c.in_err-end.field-0.0 in
    let fixed_mine = fixed_instance_of c.args.fixed_mine.now in
    let fixed = c.args.fixed_mine.now.fixed in
    let rest = c.in_ok-rest.rest in
    let journal = given_by g.J.InBytes c.args.journal.now c.replay_on-2.new.journal in
    let some : fixed.lists ≡ no_lists → ⊥ = λ none. true≢false (sym (c.is_empty.ensures.1 none) ∙ c.if-is_empty.false) in
    rw (p.1, p.2) (rest_refused e.refusal e fixed_mine rest.mine journal (is_rest_of fixed_mine.mine fixed rest some c.in_ok-rest.ensures.rest) c.in_err-end.ensures.refused)

pub join_pit-requires-clause-blocks : goal.join_pit-requires-clause-blocks
join_pit-requires-clause-blocks g c =
    let count : c.n-n.result ≡ c.args.fixed_mine.now.mine.blocks = c.n-n.ensures ∙ ap (λ (g : Graph). g.blocks) c.deref.ensures ∙ c.graph.ensures.blocks in
    c.deref-in-Pit.ensures.value ∙ c.in_ok-rest.ensures.rest.is_rest.is_part.blocks_are ∙ ap (λ n. members n (open_in c.args.fixed_mine.now.fixed)) (sym count)

pub join_pit-requires-clause-apart : goal.join_pit-requires-clause-apart
join_pit-requires-clause-apart g c = none_both c.args.fixed_mine.now.mine c.args.fixed_mine.now.fixed c.requires.fixed

pub join_pit-requires-clause-found : goal.join_pit-requires-clause-found
join_pit-requires-clause-found g c =
    let rest = c.in_ok-rest.rest in
    let journal = given_by g.J.InBytes c.args.journal.now c.replay_on-2.new.journal in
    let shown = (subst (IsReplayedOn rest.mine journal) c.in-Pit.is c.in_ok-end.ensures.replayed).ends.1 in
    subst (λ (ys : List ℕ). (i : ℕ) → i < length c.deref-in-Pit-2.result.now → get_or c.deref-in-Pit-2.result.now i 0 < length ys) (sym c.deref-in-Pit.ensures.value)
    (subst (λ (xs : List ℕ). (i : ℕ) → i < length xs → get_or xs i 0 < length rest.blocks.items) (sym c.deref-in-Pit-2.ensures.value)
    (found_inside c.args.fixed_mine.now.mine c.args.fixed_mine.now.fixed rest c.in-Pit.found.items shown.set c.in_ok-rest.ensures.rest shown.listed))

pub returns-in-Pit-clause-replayed : goal.returns-in-Pit-clause-replayed
returns-in-Pit-clause-replayed g c =
    let mine = c.args.fixed_mine.now.mine in
    let fixed = c.args.fixed_mine.now.fixed in
    let rest = c.in_ok-rest.rest in
    let list = c.in_ok-pit-in-Pit.pit in
    let count : c.n-n.result ≡ mine.blocks = c.n-n.ensures ∙ ap (λ (g : Graph). g.blocks) c.deref.ensures ∙ c.graph.ensures.blocks in
    let journal = given_by g.J.InBytes c.args.journal.now c.replay_on-2.new.journal in
    let some : fixed.lists ≡ no_lists → ⊥ = λ none. true≢false (sym (c.is_empty.ensures.1 none) ∙ c.if-is_empty.false) in
    pit_replayed mine fixed rest journal c.in-Pit.found list some c.in_ok-rest.ensures.rest (subst (IsReplayedOn rest.mine journal) c.in-Pit.is c.in_ok-end.ensures.replayed)
    (λ set listed. subst (λ n. ListsJoined n fixed rest.blocks.items set list.items) count
    (subst (λ (xs : List ℕ). ListsJoined c.n-n.result fixed xs set list.items) c.deref-in-Pit.ensures.value
    (c.in_ok-pit-in-Pit.ensures.joined set (c.deref-in-Pit-2.ensures.value ∙ listed ∙ ap (λ (xs : List ℕ). members (length xs) set) (sym c.deref-in-Pit.ensures.value)))))

pub returns : goal.returns
returns g c =
    let fixed = c.args.fixed_mine.now.fixed in
    let rest = c.in_ok-rest.rest in
    let journal = given_by g.J.InBytes c.args.journal.now c.replay_on-2.new.journal in
    let some : fixed.lists ≡ no_lists → ⊥ = λ none. true≢false (sym (c.is_empty.ensures.1 none) ∙ c.if-is_empty.false) in
    record {
      replayed = open_replayed (fixed_instance_of c.args.fixed_mine.now) rest.mine journal c.in_ok-end.end (is_rest_of c.args.fixed_mine.now.mine fixed rest some c.in_ok-rest.ensures.rest) c.in_default.not-Pit c.in_ok-end.ensures.replayed;
      refused = tt;
      kept = c.replay_on-2.ensures.kept;
    }
