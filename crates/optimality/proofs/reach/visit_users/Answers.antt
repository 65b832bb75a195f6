-- One of the users more, from which flow comes or not.
use Rattle.std.proofs.Common.{◌≡◌, ℕ, ◌≤◌, true, arith, subst, sym, ◌∙◌}
use Rattle.std.proofs.lemmas.Bool.{false≢true}
use Rattle.pit_model.specs.Graph.{second_of}
use Rattle.mine_graph.specs.BreadthFirst.{VisitsExactly}
use Rattle.optimality.specs.Reaching.{IsVisited, Sends}
use Rattle.optimality.proofs.Sending.{SentBetween, sent_none, sent_skip, sent_more, sent_all}
use Rattle.optimality.proofs.reach.visit_users.Goals as goal
use Rattle.optimality.proofs.reach.visit_users.Goals.{then-sends, else-sends}

pub loop-k-init : goal.loop-k-init
loop-k-init c =
    sent_none c.args.flows.graph.now.pairs c.args.flows.flow.now c.args.inside.now (second_of c.args.users.now.pairs) c.args.block c.arcs_of-arcs.result.start c.args.search.now c.requires.trail

pub loop-k-preserved : goal.loop-k-preserved
loop-k-preserved c =
    let pairs = c.args.flows.graph.now.pairs in
    let flow = c.args.flows.flow.now in
    let inside = c.args.inside.now in
    let user = second_of c.args.users.now.pairs in
    let block : ℕ = c.args.block in
    let begin : ℕ = c.arcs_of-arcs.result.start in
    let k : ℕ = c.loop-k.k in
    let from : begin ≤ k = c.loop-k.auto.k in
    let is : c.needed-user.result ≡ user k = c.needed-user.ensures in
    elim c.if-sends.branch [
      | then-sends w ↦ rw w.search-is (sent_more pairs flow inside user block begin k from c.args.search.now c.loop-k.search c.loop-k.invariant w.visit.new.search
          (subst (λ (v : ℕ). Sends pairs flow v block) is (c.sends.ensures.0 w.if-sends.true))
          (subst (λ (v : ℕ). VisitsExactly (IsVisited inside (λ x. true) (λ x. v) 0 1) c.loop-k.search w.visit.new.search) is w.visit.ensures))
      | else-sends w ↦ rw w.search-is (sent_skip pairs flow inside user block begin k from c.args.search.now c.loop-k.search c.loop-k.invariant
          (λ sends. false≢true (sym w.if-sends.false ∙ c.sends.ensures.1 (subst (λ (v : ℕ). Sends pairs flow v block) (sym is) sends))))
    ]

pub returns : goal.returns
returns c =
    let graph = c.args.flows.graph.now in
    let users = c.args.users.now in
    let flow = c.args.flows.flow.now in
    let inside = c.args.inside.now in
    let begin : ℕ = c.arcs_of-arcs.result.start in
    let end : c.loop-k.k ≡ c.arcs_of-arcs.result.end = omega arith in
    sent_all graph users flow inside c.args.block begin c.arcs_of-arcs.result.end c.args.search.now c.loop-k.search c.requires.reversed c.arcs_of-arcs.ensures.own
    (subst (λ (e : ℕ). VisitsExactly (SentBetween graph.pairs flow inside (second_of users.pairs) c.args.block begin e) c.args.search.now c.loop-k.search) end c.loop-k.invariant)
