-- The pit is that of the mine, and the values that are left of the mine tell what it is worth.
use Rattle.std.proofs.Common.{rules, ◌≡◌, ◌∙◌, ◌<◌, ◌≤◌, ℕ, List, arith, ap, sym, subst, get_or, length}
use Rattle.std.specs.Prelude.{ℤ, pos}
use Rattle.std.specs.List.{All}
use Rattle.std.specs.Int.{w128}
use Rattle.std.proofs.lemmas.Int.{to_z-of_z}
use mir.Val.{SFits}
use Rattle.pit_model.specs.Size.{most_blocks}
use Rattle.pit_model.specs.Sum.{total, when}
use Rattle.pit_search.specs.Searched.{IsToward}
use Rattle.pit_search.proofs.Searching.{listed_below, listed_few}
use Rattle.pit_search.proofs.searched.Searched.pit.Goals as goal

pub worth-worth-requires-clause-few : goal.worth-worth-requires-clause-few
worth-worth-requires-clause-few c =
    let mine = c.requires.search.mine in
    let direction = c.requires.search.direction in
    let of = c.requires.search.of_mine in
    let blocks = c.in_ok-blocks.blocks.items in
    let faced = subst (λ d. IsToward d of.rest c.args.self.instance) (sym of.toward_is) of.faced in
    let shown = c.in_ok-blocks.ensures.shown c.args.self.direction mine of.rest of.counted of.open_part (c.in_ok-pit.ensures.shown of.rest faced) in
    let few = listed_few mine.blocks blocks shown.set shown.listed in
    subst (λ (xs : List ℕ). length xs ≤ most_blocks) (sym c.deref.ensures.value) (omega (arith, c.requires.search.instance.limits.few_blocks))

pub worth-worth-requires-clause-below : goal.worth-worth-requires-clause-below
worth-worth-requires-clause-below c =
    let mine = c.requires.search.mine in
    let of = c.requires.search.of_mine in
    let blocks = c.in_ok-blocks.blocks.items in
    let faced = subst (λ d. IsToward d of.rest c.args.self.instance) (sym of.toward_is) of.faced in
    let shown = c.in_ok-blocks.ensures.shown c.args.self.direction mine of.rest of.counted of.open_part (c.in_ok-pit.ensures.shown of.rest faced) in
    let size : length c.mine_values.result ≡ mine.blocks = ap (λ (vs : List ℤ). length vs) (c.mine_values.ensures ∙ of.values_are) ∙ c.requires.search.instance.limits.value_count in
    subst (λ n. All (λ u. u < n) c.deref.result.now) (sym size)
    (subst (λ (xs : List ℕ). All (λ u. u < mine.blocks) xs) (sym c.deref.ensures.value) (listed_below mine.blocks blocks shown.set shown.listed))

pub returns-clause-found : goal.returns-clause-found
returns-clause-found c direction mine of =
    let fits : SFits w128 c.worth-worth.result = search rules in
    let faced = subst (λ d. IsToward d of.rest c.args.self.instance) (sym of.toward_is) of.faced in
    let shown = c.in_ok-blocks.ensures.shown c.args.self.direction mine of.rest of.counted of.open_part (c.in_ok-pit.ensures.shown of.rest faced) in
    rw (sym of.toward_is) (record {
      listed = shown;
      worth_is = λ set is. to_z-of_z w128 c.worth-worth.result fits ∙ c.worth-worth.ensures.set mine.blocks set (c.deref.ensures.value ∙ is)
          ∙ ap (λ (vs : List ℤ). total mine.blocks (λ u. when (set u) (get_or vs u (pos 0)))) (c.mine_values.ensures ∙ of.values_are);
    })
