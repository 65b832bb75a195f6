use Rattle.std.proofs.Common.{rules}
use Rattle.std.specs.Prelude.{IsNone}
use Rattle.optimality.proofs.OfTree.{is_candidate, is_certificate}
use Rattle.optimality.proofs.make.of_tree.Goals as goal

pub returns-clause-answer : goal.returns-clause-answer
returns-clause-answer c =
    let none : IsNone c.find_merger.result = search rules in
    let no_merger = c.find_merger.ensures.none none in
    record {
      no_merger = no_merger;
      strong = c.in_ok-pit.ensures.strong;
      flow = c.in_ok-flow.ensures.ok;
      of_mine = record {
        certifies = is_certificate c.args.tree.now c.in_ok-pit.pit.items c.in_ok-flow.flow.items c.law.ensures.instance c.law.ensures.normalised no_merger c.in_ok-pit.ensures.strong c.in_ok-flow.ensures.ok;
        candidate = is_candidate c.args.tree.now c.in_ok-pit.pit.items c.in_ok-flow.flow.items c.law.ensures.instance c.law.ensures.normalised c.in_ok-pit.ensures.strong c.in_ok-flow.ensures.ok;
      };
    }
