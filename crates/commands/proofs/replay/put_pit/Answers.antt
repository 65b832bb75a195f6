use Rattle.std.proofs.Common.{rules, ◌≡◌}
use Rattle.std.specs.Int.{w128}
use Rattle.std.proofs.lemmas.Int.{to_z-of_z}
use mir.Val.{SFits}
use Rattle.commands.specs.Solve.{fixed_instance_of}
use Rattle.pit_search.proofs.Searching.{listed_below, listed_few}
use Rattle.commands.proofs.Solving.{shown_text}
use Rattle.commands.proofs.replay.put_pit.Goals as goal

pub worth-worth-requires-clause-few : goal.worth-worth-requires-clause-few
worth-worth-requires-clause-few g c = listed_few c.args.fixed_mine.now.mine.blocks c.args.pit.now c.requires.listed.0 c.requires.listed.1

pub worth-worth-requires-clause-below : goal.worth-worth-requires-clause-below
worth-worth-requires-clause-below g c = listed_below c.args.fixed_mine.now.mine.blocks c.args.pit.now c.requires.listed.0 c.requires.listed.1

pub returns-clause-written : goal.returns-clause-written
returns-clause-written g c direction shown =
    let count : c.n.result ≡ c.args.fixed_mine.now.mine.blocks = search rules in
    let text = shown_text direction (fixed_instance_of c.args.fixed_mine.now) c.args.pit.now c.n.result c.worth-worth.result count shown c.worth-worth.ensures.set in
    let fits : SFits w128 c.worth-worth.result = search rules in
    (_, text, simp to_z-of_z at c.write_pit.ensures.text)
