-- The flows one by one are the list of flows.
use Rattle.std.proofs.Common.{◌≡◌, subst, List}
use Rattle.std.specs.Prelude.{IfOk, ℤ}
use Rattle.norm_tree.proofs.Showing.{flows_again}
use Rattle.norm_tree.proofs.bare.BareTree.flow_in.Goals as goal

pub returns-clause-ok : goal.returns-clause-ok
returns-clause-ok c =
    subst (λ (xs : List ℤ). IfOk c.flows.result (λ v. v.items ≡ xs)) (flows_again c.args.self.now.mine c.args.self.now.tree c.law.ensures.normalised) c.flows.ensures.flows
