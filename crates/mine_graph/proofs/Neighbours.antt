-- Taking in what pairs join with a block: the block alone, the neighbours of one block of the queue more, and that at the end of the
-- queue nothing is missing.
use Rattle.std.proofs.Common.{◌≡◌, ℕ, zero, suc, ◌+◌, ◌<◌, ◌≤◌, true, refl, sym, ap, ◌∙◌, arith, subst, inl, inr, ⊎_elim, List, length}
use Rattle.std.specs.Prelude.{◌⊎◌}
use Rattle.std.proofs.lemmas.Bool.{cases_eq, cases_lt}
use Rattle.pit_model.specs.Graph.{first_of, second_of}
use Rattle.pit_model.specs.Fixed.{transposed}
use Rattle.pit_model.specs.Part.{AreConnected, AreNeighbours}
use Rattle.pit_model.proofs.Fixed.{transposed_at, transposed_count}
use Rattle.mine_graph.specs.BreadthFirst.{HasNeighbours, VisitsComponent, IsJoinedWith, IsTrail, VisitsExactly, is_visited, queued, LeadsTo}
use Rattle.mine_graph.specs.declared.breadth_first.BreadthFirst.{BreadthFirst}
use Rattle.mine_graph.proofs.Spreading.{takes_both}

module _ (pairs : List (ℕ × ℕ)) where
  module _ (a : ℕ) where
    one_way : (u : ℕ) → AreNeighbours pairs a u → LeadsTo pairs a u ⊎ LeadsTo (transposed pairs) a u
    one_way u joined = ⊎_elim
        (λ (w : (first_of pairs joined.0 ≡ a) × (second_of pairs joined.0 ≡ u)). inl (joined.0, joined.1, w.0, w.1))
        (λ (w : (first_of pairs joined.0 ≡ u) × (second_of pairs joined.0 ≡ a)).
        let size = transposed_count pairs in
        let way = transposed_at pairs joined.0 joined.1 in
        inr (joined.0, omega (arith, joined.1), ap (λ (q : ℕ × ℕ). q.0) way ∙ w.1, ap (λ (q : ℕ × ℕ). q.1) way ∙ w.0))
        joined.2

    forth : (u : ℕ) → LeadsTo pairs a u → AreNeighbours pairs a u
    forth u leads = (leads.0, leads.1, inl (leads.2, leads.3))

    back : (u : ℕ) → LeadsTo (transposed pairs) a u → AreNeighbours pairs a u
    back u leads =
        let size = transposed_count pairs in
        let l : leads.0 < length pairs = omega (arith, leads.1) in
        let way = transposed_at pairs leads.0 l in
        (leads.0, l, inr (sym (ap (λ (q : ℕ × ℕ). q.1) way) ∙ leads.3, sym (ap (λ (q : ℕ × ℕ). q.0) way) ∙ leads.2))

    pub takes_neighbours : (before between after : BreadthFirst) → VisitsExactly (LeadsTo pairs a) before between → VisitsExactly (LeadsTo (transposed pairs) a) between after
        → VisitsExactly (AreNeighbours pairs a) before after
    takes_neighbours before between after one two = takes_both (LeadsTo pairs a) (LeadsTo (transposed pairs) a) (AreNeighbours pairs a) before between after one two one_way forth back

  pub swapped : (a u : ℕ) → AreNeighbours pairs a u → AreNeighbours pairs u a
  swapped a u joined = (
    joined.0,
    joined.1,
    ⊎_elim
        (λ (w : (first_of pairs joined.0 ≡ a) × (second_of pairs joined.0 ≡ u)). inr w)
        (λ (w : (first_of pairs joined.0 ≡ u) × (second_of pairs joined.0 ≡ a)). inl w)
        joined.2,
  )

  module _ (root : ℕ) where
    pub joined_on : (a u : ℕ) → IsJoinedWith pairs root a → AreNeighbours pairs a u → IsJoinedWith pairs root u
    joined_on a u joined next = (suc joined.0, (a, joined.1, next))

    pub joined_none : (before after : BreadthFirst) → VisitsExactly (λ u. root ≡ u) before after → VisitsComponent pairs root before after before.tail
    joined_none before after takes = record {
      takes = record {
        trail = takes.trail;
        size = takes.size;
        grows = takes.grows;
        only = λ u e. ⊎_elim (λ (h : is_visited before u ≡ true). inl h) (λ (w : root ≡ u). inr (e, (0, w))) (takes.only u e);
        all = λ u w. w.0;
        kept = takes.kept;
        more = takes.more;
      };
      holds = takes.all root (refl);
      handled = λ i u from h. absurd (omega (arith, from, h));
    }

    module _ (before search : BreadthFirst) (trail : IsTrail before) (head : ℕ) (was : VisitsComponent pairs root before search head) where
      -- what stands in the queue behind those that were in before is joined with the root
      joined_at : (i : ℕ) → before.tail ≤ i → i < search.tail → IsJoinedWith pairs root (queued search i)
      joined_at i from l = ⊎_elim
          (λ (h : is_visited before (queued search i) ≡ true).
          let f = trail.found (queued search i) h in
          absurd (was.takes.trail.apart f.0 i (omega (arith, f.1, from)) l (was.takes.kept f.0 f.1 ∙ f.2)))
          (λ (w : (is_visited search (queued search i) ≡ true) × IsJoinedWith pairs root (queued search i)). w.1)
          (was.takes.only (queued search i) (was.takes.trail.marked i l).1)

      pub joined_more : (after : BreadthFirst) → before.tail ≤ head → head < search.tail → VisitsExactly (AreNeighbours pairs (queued search head)) search after
          → VisitsComponent pairs root before after (head + 1)
      joined_more after from ahead takes = record {
        takes = record {
          trail = takes.trail;
          size = takes.size ∙ was.takes.size;
          grows = λ u e. takes.grows u (was.takes.grows u e);
          only = λ u e. ⊎_elim
              (λ (h : is_visited search u ≡ true). ⊎_elim
              (λ (h : is_visited before u ≡ true). inl h)
              (λ (w : (is_visited search u ≡ true) × IsJoinedWith pairs root u). inr (e, w.1))
              (was.takes.only u h))
              (λ (w : AreNeighbours pairs (queued search head) u). inr (e, joined_on (queued search head) u (joined_at head from ahead) w))
              (takes.only u e);
          all = λ u w. w.0;
          kept = λ i h. (let m = was.takes.more in takes.kept i (omega arith)) ∙ was.takes.kept i h;
          more = (let p = was.takes.more in let q = takes.more in omega arith);
        };
        holds = takes.grows root was.holds;
        handled = λ i u low h next.
            let kept : queued after i ≡ queued search i = takes.kept i (omega arith) in
            let here : AreNeighbours pairs (queued search i) u = subst (λ x. AreNeighbours pairs x u) kept next in
            ⊎_elim
            (λ (e : i ≡ head). takes.all u (subst (λ k. AreNeighbours pairs (queued search k) u) e here))
            (λ (ne : i ≡ head → ⊥). takes.grows u (was.handled i u low (omega arith) here))
            (cases_eq i head);
      }

      module _ (whole : HasNeighbours pairs before) (end : search.tail ≤ head) where
        each_joined : (steps u : ℕ) → AreConnected pairs steps root u → is_visited search u ≡ true
        each_joined zero u same = ap (is_visited search) (sym same) ∙ was.holds
        each_joined (suc steps) u way =
            let f = was.takes.trail.found way.0 (each_joined steps way.0 way.1) in
            ⊎_elim
            (λ (early : f.0 < before.tail).
            let is : queued before f.0 ≡ way.0 = sym (was.takes.kept f.0 early) ∙ f.2 in
            was.takes.grows u (whole way.0 u (ap (is_visited before) (sym is) ∙ (trail.marked f.0 early).1) way.2))
            (λ (late : before.tail ≤ f.0). was.handled f.0 u late (omega (arith, f.1)) (subst (λ x. AreNeighbours pairs x u) (sym f.2) way.2))
            (cases_lt f.0 before.tail)

        pub joined_all : VisitsExactly (IsJoinedWith pairs root) before search
        joined_all = record {
          trail = was.takes.trail;
          size = was.takes.size;
          grows = was.takes.grows;
          only = λ u e. ⊎_elim
              (λ (h : is_visited before u ≡ true). inl h)
              (λ (w : (is_visited search u ≡ true) × IsJoinedWith pairs root u). inr w.1)
              (was.takes.only u e);
          all = λ u w. each_joined w.0 u w.1;
          kept = was.takes.kept;
          more = was.takes.more;
        }

    pub neighbours_still : (before after : BreadthFirst) → HasNeighbours pairs before → VisitsExactly (IsJoinedWith pairs root) before after → HasNeighbours pairs after
    neighbours_still before after whole takes a u e next = ⊎_elim
        (λ (h : is_visited before a ≡ true). takes.grows u (whole a u h next))
        (λ (w : IsJoinedWith pairs root a). takes.all u (joined_on a u w next))
        (takes.only a e)
