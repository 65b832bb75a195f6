-- The marks are of the list, so what is found of the set is so of the list.
use Rattle.std.proofs.Common.{◌≡◌, ℕ, ◌<◌, Bool, List, ap, ◌∙◌, length, subst, sym}
use Rattle.std.specs.Prelude.{◌↔◌, ◌&&◌, ℤ, IsTrue}
use Rattle.std.proofs.lemmas.Bool.{false≢true}
use Rattle.pit_model.specs.Graph.{Graph}
use Rattle.pit_model.specs.Mine.{arcs, members}
use Rattle.pit_model.specs.Fixed.{IsFixedCertificate, fixed_of}
use Rattle.pit_model.proofs.Simple.{instance_is_simple}
use Rattle.mine_graph.specs.FixedBlocks.{forced_closure, barred_closure}
use Rattle.optimality.specs.Check.{has, open_in, AreExcesses, AreReached, BlocksAllow, PairsAllow}
use Rattle.optimality.proofs.Checked.{certified, meets, none_fixed_is, pairs_take, shows_fixed}
use Rattle.optimality.proofs.conditions.check.Goals as goal
use Rattle.optimality.proofs.conditions.check.Goals.{then-pairs_allow, else-pairs_allow}

pub returns-clause-exact : goal.returns-clause-exact
returns-clause-exact c =
    let mine = c.args.mine.now in
    let fixed = c.args.fixed.now in
    let pit = c.args.certificate.now.pit.items in
    let flow = c.args.certificate.now.flow.items in
    let inside = c.in_ok-inside.inside.items in
    let range = (instance_is_simple mine c.law.ensures).in_range in
    let blocks : c.n.result ≡ mine.blocks = c.n.ensures ∙ ap (λ (g : Graph). g.blocks) c.deref.ensures ∙ c.graph.ensures.blocks in
    let size : length inside ≡ mine.blocks = c.in_ok-inside.ensures.count ∙ blocks in
    let listed : pit ≡ members mine.blocks (has inside) = sym c.deref-2.ensures.value ∙ subst (λ n. c.deref-2.result.now ≡ members n (has inside)) blocks c.in_ok-inside.ensures.marks in
    let same : c.deref-6.result.now.pairs ≡ mine.pairs = ap (λ (g : Graph). g.pairs) c.deref-6.ensures ∙ c.graph-2.ensures.pairs in
    let one : IsTrue c.pairs_allow.result ↔ PairsAllow mine.pairs (open_in fixed) flow inside (arcs mine) =
    subst (λ (f : List ℤ). IsTrue c.pairs_allow.result ↔ PairsAllow mine.pairs (open_in fixed) f inside (arcs mine)) c.as_slice-flow.ensures.value
    (subst (λ i. IsTrue c.pairs_allow.result ↔ PairsAllow mine.pairs (open_in fixed) c.as_slice-flow.result.now i (arcs mine)) c.deref-7.ensures.value
    (subst (λ ps. IsTrue c.pairs_allow.result ↔ PairsAllow ps (open_in fixed) c.as_slice-flow.result.now c.deref-7.result.now (length ps)) same c.pairs_allow.ensures)) in
    let open_marks = c.in_ok-open.open.items in
    let seen = c.in_ok-reached.reached.items in
    let sums = subst (λ f. AreExcesses mine f c.in_ok-excesses.excesses.items) c.as_slice-flow.ensures.value c.in_ok-excesses.ensures.excesses in
    let reached = subst (λ f. AreReached mine f open_marks seen) c.as_slice-flow.ensures.value (subst (λ i. AreReached mine c.as_slice-flow.result.now i seen) c.deref-5.ensures.value c.in_ok-reached.ensures.reached) in
    let marks : (u : ℕ) → u < mine.blocks → has open_marks u ≡ (has inside u && open_in fixed u) =
    λ u l. c.in_ok-open.ensures.marks u (subst (λ n. u < n) (sym (ap (λ (i : List Bool). length i) c.deref-3.ensures.value ∙ size)) l) ∙ ap (λ i. has i u && open_in fixed u) c.deref-3.ensures.value in
    let own = meets mine fixed pit flow inside c.requires.fixed range c.requires.candidate.counted size listed in
    elim c.if-pairs_allow.branch [
      | then-pairs_allow w ↦
          let b = w.blocks_allow.result in
          let two : IsTrue b ↔ BlocksAllow fixed c.in_ok-excesses.excesses.items inside seen mine.blocks =
          subst (λ n. IsTrue b ↔ BlocksAllow fixed c.in_ok-excesses.excesses.items inside seen n) size
          (subst (λ r. IsTrue b ↔ BlocksAllow fixed c.in_ok-excesses.excesses.items inside r (length inside)) w.deref-then-pairs_allow-3.ensures.value
          (subst (λ (i : List Bool). IsTrue b ↔ BlocksAllow fixed c.in_ok-excesses.excesses.items i w.deref-then-pairs_allow-3.result.now (length i)) w.deref-then-pairs_allow-2.ensures.value
          (subst (λ x. IsTrue b ↔ BlocksAllow fixed x w.deref-then-pairs_allow-2.result.now w.deref-then-pairs_allow-3.result.now (length w.deref-then-pairs_allow-2.result.now)) w.deref-then-pairs_allow.ensures.value w.blocks_allow.ensures))) in
          subst (λ x. IsTrue x ↔ IsFixedCertificate mine (fixed_of fixed.lists) pit flow) (sym w.result-is)
          (subst (λ x. IsTrue (x && b) ↔ IsFixedCertificate mine (fixed_of fixed.lists) pit flow) w.if-pairs_allow.true
          (certified mine fixed pit flow inside c.requires.fixed range c.requires.candidate.counted size listed c.in_ok-excesses.excesses.items open_marks seen c.pairs_allow.result b
          c.requires.candidate.amounts marks sums reached one two))
      | else-pairs_allow w ↦ (
        λ e. absurd (false≢true (sym w.if-pairs_allow.false ∙ sym w.result-is ∙ e)),
        λ k. absurd (false≢true (sym w.if-pairs_allow.false ∙ pairs_take mine fixed pit flow inside c.requires.fixed range c.requires.candidate.counted size listed c.pairs_allow.result one (own k))),
      )
    ]

pub returns-clause-shows_pit : goal.returns-clause-shows_pit
returns-clause-shows_pit c e =
    shows_fixed c.args.mine.now (fixed_of c.args.fixed.now.lists) c.args.certificate.now.pit.items c.args.certificate.now.flow.items (instance_is_simple c.args.mine.now c.law.ensures).in_range
    ((returns-clause-exact c).0 e)

pub returns-clause-none_fixed : goal.returns-clause-none_fixed
returns-clause-none_fixed c none =
    let is = returns-clause-exact c in
    let fixed = c.args.fixed.now in
    let same = none_fixed_is c.args.mine.now (fixed_of fixed.lists) (forced_closure fixed) (barred_closure fixed) c.args.certificate.now.pit.items c.args.certificate.now.flow.items c.requires.fixed.settled none in
    (λ e. same.0 (is.0 e), λ k. is.1 (same.1 k))
