-- The first arc of the range that is a merger arc is the least one, and past the range there is none.
use Rattle.std.proofs.Common.{◌≡◌, ◌-◌, ap, sym, ◌∙◌, subst, rules}
use Rattle.std.specs.List.{find, range_with_len}
use Rattle.rayon.proofs.ToStd.{answers-by_ref, filter_by_mask-find}
use Rattle.pit_model.specs.Mine.{arcs}
use Rattle.pit_model.specs.Tree.{is_merger}
use Rattle.crew.proofs.FirstFound.{FoundFrom, found_from, first_of_all}
use Rattle.crew.proofs.driver.first_merger.Goals as goal

pub returns : goal.returns
returns g c =
    let mine = c.args.tree.now.mine in
    let tree = c.args.tree.now.tree in
    let test = is_merger mine tree in
    let found = c.find_first.ensures in
    let range = c.into_par_iter.result in
    let count : range.end - range.start ≡ arcs mine = search rules in
    let start : range.start ≡ 0 = c.into_par_iter.ensures.0 in
    let is : c.find_first.result ≡ find test (range_with_len range.start (range.end - range.start)) =
    found.4 ∙ filter_by_mask-find test found.0 found.1 (answers-by_ref test found.0 found.1 found.3) ∙ ap (find test) found.2 in
    let all : c.find_first.result ≡ find test (range_with_len 0 (arcs mine)) = is ∙ ap (λ a. find test (range_with_len a (range.end - range.start))) start ∙ ap (λ n. find test (range_with_len 0 n)) count in
    first_of_all mine tree c.find_first.result (subst (FoundFrom test 0 (arcs mine)) (sym all) (found_from test 0 (arcs mine)))
