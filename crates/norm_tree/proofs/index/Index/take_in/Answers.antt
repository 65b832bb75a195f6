-- A block that turned weak leaves its strong users to be marked.
use Rattle.std.proofs.Common.{rules, ◌∙◌}
use Rattle.norm_tree.proofs.Labelling.{marked_after}
use Rattle.norm_tree.proofs.index.Index.take_in.Goals as goal

pub returns-else-strong-block : goal.returns-else-strong-block
returns-else-strong-block c =
    let was = c.requires.indexed in
    record {
      sized = search rules;
      room = c.mark_users.ensures.count ∙ was.room;
      marked = marked_after c.args.graph.now c.args.self.now.users c.args.strong.now c.args.block c.if-strong-block.false was.reversed c.args.self.now.marks c.mark_users.new.marks was.marked c.mark_users.ensures.kept c.mark_users.ensures.marked;
      reversed = was.reversed;
    }
