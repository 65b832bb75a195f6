-- The graph under which the entries are written is that of the rest.
use Rattle.std.proofs.Common.{◌≡◌, ◌∙◌, refl, sym}
use Rattle.std.specs.Arc.{arc_value}
use Rattle.std.proofs.lemmas.Bool.{true≢false}
use Rattle.pit_model.specs.Fixed.{graph_of_mine, mine_among}
use Rattle.mine_graph.specs.FixedBlocks.{no_lists}
use Rattle.merging.proofs.SolvedPart.{graph_is}
use Rattle.commands.specs.Solve.{fixed_instance_of}
use Rattle.commands.proofs.Journaling.{part_is_rest, puts_entries, seated_there}
use Rattle.commands.proofs.solve.put_entries.Goals as goal

pub write_journal-requires-2-clause-seated : goal.write_journal-requires-2-clause-seated
write_journal-requires-2-clause-seated g c =
    let mine = c.args.fixed_mine.now.mine in
    let fixed = c.args.fixed_mine.now.fixed in
    let part = c.in_ok-rest.rest in
    let some : fixed.lists ≡ no_lists → ⊥ = λ none. true≢false (sym (c.is_empty.ensures.1 none) ∙ c.if-is_empty.false) in
    let whole : c.deref-2.result.now ≡ graph_of_mine mine = c.deref-2.ensures ∙ graph_is (arc_value c.graph-2.result.now) mine c.graph-2.ensures.blocks c.graph-2.ensures.pairs in
    let here = part_is_rest mine fixed c.deref-2.result.now part.blocks.items part.graph whole some c.in_ok-rest.ensures.rest in
    seated_there (fixed_instance_of c.args.fixed_mine.now) c.args.entries.now (mine_among mine part.blocks.items part.graph) c.requires.may here

pub returns-clause-written : goal.returns-clause-written
returns-clause-written g c =
    let mine = c.args.fixed_mine.now.mine in
    let fixed = c.args.fixed_mine.now.fixed in
    let part = c.in_ok-rest.rest in
    let some : fixed.lists ≡ no_lists → ⊥ = λ none. true≢false (sym (c.is_empty.ensures.1 none) ∙ c.if-is_empty.false) in
    let whole : c.deref-2.result.now ≡ graph_of_mine mine = c.deref-2.ensures ∙ graph_is (arc_value c.graph-2.result.now) mine c.graph-2.ensures.blocks c.graph-2.ensures.pairs in
    let here = part_is_rest mine fixed c.deref-2.result.now part.blocks.items part.graph whole some c.in_ok-rest.ensures.rest in
    (puts_entries (fixed_instance_of c.args.fixed_mine.now) c.args.budget c.args.entries.now (mine_among mine part.blocks.items part.graph) part.graph _
    (g.J.OutBytes.progress c.args.writer.now) (g.J.OutBytes.progress c.write_journal-2.new.writer) c.write_journal-2.result here refl c.write_journal-2.ensures.spelled
    c.write_journal-2.ensures.text c.write_journal-2.ensures.refused).0

pub returns-clause-refused : goal.returns-clause-refused
returns-clause-refused g c =
    let mine = c.args.fixed_mine.now.mine in
    let fixed = c.args.fixed_mine.now.fixed in
    let part = c.in_ok-rest.rest in
    let some : fixed.lists ≡ no_lists → ⊥ = λ none. true≢false (sym (c.is_empty.ensures.1 none) ∙ c.if-is_empty.false) in
    let whole : c.deref-2.result.now ≡ graph_of_mine mine = c.deref-2.ensures ∙ graph_is (arc_value c.graph-2.result.now) mine c.graph-2.ensures.blocks c.graph-2.ensures.pairs in
    let here = part_is_rest mine fixed c.deref-2.result.now part.blocks.items part.graph whole some c.in_ok-rest.ensures.rest in
    (puts_entries (fixed_instance_of c.args.fixed_mine.now) c.args.budget c.args.entries.now (mine_among mine part.blocks.items part.graph) part.graph _
    (g.J.OutBytes.progress c.args.writer.now) (g.J.OutBytes.progress c.write_journal-2.new.writer) c.write_journal-2.result here refl c.write_journal-2.ensures.spelled
    c.write_journal-2.ensures.text c.write_journal-2.ensures.refused).1
