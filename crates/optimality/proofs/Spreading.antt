-- The marked blocks are exactly those that are reached, once the whole queue was handled.
use Rattle.std.proofs.Common.{◌≡◌, ℕ, zero, suc, ◌+◌, ◌<◌, ◌≤◌, Bool, true, false, refl, sym, ap, ◌∙◌, arith, subst, inl, inr, ⊎_elim, List, get_or, length}
use Rattle.std.specs.Prelude.{◌↔◌, ℤ, pos, int_lt, ◌<ℤ◌, IsTrue}
use Rattle.std.proofs.lemmas.Int.{ints}
use Rattle.std.proofs.lemmas.Bool.{cases_eq, false≢true}
use Rattle.pit_model.specs.Mine.{Instance, arcs, source, target}
use Rattle.pit_model.specs.Flow.{HasResidual, excess}
use Rattle.pit_model.specs.Certificate.{IsReached}
use Rattle.optimality.specs.Check.{has, amount, AreExcesses}
use Rattle.optimality.specs.Reaching.{IsReachedSoFar, IsVisited, Sends}
use Rattle.mine_graph.specs.BreadthFirst.{VisitsExactly, is_visited, queued}
use Rattle.mine_graph.specs.declared.breadth_first.BreadthFirst.{BreadthFirst}

pub lt_from : (x y : ℤ) → int_lt x y ≡ true → x <ℤ y
lt_from x y h = grind (arith, ints)

pub lt_to : (x y : ℤ) → x <ℤ y → int_lt x y ≡ true
lt_to x y h = grind (arith, ints)

module _ (mine : Instance) (inside : List Bool) (flow : List ℤ) where
  -- a step more
  reach_more : (a b : ℕ) → a < mine.blocks → (steps : ℕ) × IsReached mine (has inside) (amount flow) a steps → HasResidual mine (amount flow) a b → has inside b ≡ true
      → (steps : ℕ) × IsReached mine (has inside) (amount flow) b steps
  reach_more a b l r step within = (suc r.0, (within, (a, l, r.1, step)))

  pub spread_start : (excesses : List ℤ) (before after : BreadthFirst) → length before.marks.items ≡ mine.blocks → length excesses ≡ mine.blocks → ((u : ℕ) → is_visited before u ≡ false) → AreExcesses mine flow excesses
      → VisitsExactly (IsVisited inside (λ x. int_lt (pos 0) (get_or excesses x (pos 0))) (λ x. x) 0 (length excesses)) before after
      → IsReachedSoFar mine inside flow after 0
  spread_start excesses before after size count none is ext = record {
    trail = ext.trail;
    size = ext.size ∙ size;
    sound = λ u e. ⊎_elim
        (λ (h : is_visited before u ≡ true). absurd (false≢true (sym (none u) ∙ h)))
        (λ (w : IsVisited inside (λ x. int_lt (pos 0) (get_or excesses x (pos 0))) (λ x. x) 0 (length excesses) u).
        (0, (w.5, subst (λ y. pos 0 <ℤ excess mine (amount flow) y) w.4 (subst (λ z. pos 0 <ℤ z) (is w.0 (omega (arith, w.2))) (lt_from (pos 0) (get_or excesses w.0 (pos 0)) w.3)))))
        (ext.only u e);
    starts = λ u l within more. ext.all u (u, omega arith, omega arith, ap (int_lt (pos 0)) (is u l) ∙ lt_to (pos 0) (excess mine (amount flow) u) more, refl, within);
    closed = λ i b h. absurd (omega arith);
  }

  module _ (begin end : ℕ)
      (before : BreadthFirst) (head a : ℕ) (ahead : head < before.tail) (is : queued before head ≡ a)
      (within_row : end ≤ arcs mine)
      (own : (k : ℕ) → k < arcs mine → (source mine k ≡ a) ↔ ((begin ≤ k) × (k < end)))
      (was : IsReachedSoFar mine inside flow before head)
      (mid after : BreadthFirst)
      (one : VisitsExactly (IsVisited inside (λ x. true) (λ x. target mine x) begin end) before mid)
      (two : VisitsExactly (λ u. Sends mine.pairs flow u a × (has inside u ≡ true)) mid after) where
    below : a < mine.blocks
    below = let m = (was.trail.marked head ahead).0 in let s = was.size in omega arith

    reached_a : (steps : ℕ) × IsReached mine (has inside) (amount flow) a steps
    reached_a = was.sound a (ap (is_visited before) (sym is) ∙ (was.trail.marked head ahead).1)

    sound_one : (u : ℕ) → is_visited mid u ≡ true → (steps : ℕ) × IsReached mine (has inside) (amount flow) u steps
    sound_one u e = ⊎_elim (λ (h : is_visited before u ≡ true). was.sound u h)
        (λ (w : IsVisited inside (λ x. true) (λ x. target mine x) begin end u).
        let l : w.0 < arcs mine = (let p = w.2 in omega arith) in
        reach_more a u below reached_a (w.0, l, inl ((own w.0 l).1 (w.1, w.2), w.4)) w.5)
        (one.only u e)

    sound_two : (u : ℕ) → is_visited after u ≡ true → (steps : ℕ) × IsReached mine (has inside) (amount flow) u steps
    sound_two u e = ⊎_elim (λ (h : is_visited mid u ≡ true). sound_one u h)
        (λ (w : Sends mine.pairs flow u a × (has inside u ≡ true)). reach_more a u below reached_a (w.0.0, w.0.1, inr (w.0.2, w.0.3, w.0.4)) w.1)
        (two.only u e)

    next : (b : ℕ) → HasResidual mine (amount flow) a b → has inside b ≡ true → is_visited after b ≡ true
    next b step within = ⊎_elim
        (λ (s : (source mine step.0 ≡ a) × (target mine step.0 ≡ b)).
        let f = (own step.0 step.1).0 s.0 in
        two.grows b (one.all b (step.0, f.0, f.1, refl, s.1, within)))
        (λ (s : (source mine step.0 ≡ b) × (target mine step.0 ≡ a) × (pos 0 <ℤ amount flow step.0)). two.all b ((step.0, step.1, s.0, s.1, s.2), within))
        step.2

    pub spread_more : IsReachedSoFar mine inside flow after (head + 1)
    spread_more = record {
      trail = two.trail;
      size = two.size ∙ one.size ∙ was.size;
      sound = sound_two;
      starts = λ u l within more. two.grows u (one.grows u (was.starts u l within more));
      closed = λ i b h step within.
          let kept : queued after i ≡ queued before i = (let m = one.more in two.kept i (omega arith)) ∙ one.kept i (omega arith) in
          let back : HasResidual mine (amount flow) (queued before i) b = subst (λ x. HasResidual mine (amount flow) x b) kept step in
          ⊎_elim
          (λ (e : i ≡ head). next b (subst (λ x. HasResidual mine (amount flow) x b) (ap (queued before) e ∙ is) back) within)
          (λ (ne : i ≡ head → ⊥). two.grows b (one.grows b (was.closed i b (omega arith) back within)))
          (cases_eq i head);
    }

  -- where the whole queue was handled, what is marked is what is reached
  complete : (search : BreadthFirst) → IsReachedSoFar mine inside flow search search.tail
      → (steps b : ℕ) → b < mine.blocks → IsReached mine (has inside) (amount flow) b steps → is_visited search b ≡ true
  complete search was zero b l r = was.starts b l r.0 r.1
  complete search was (suc steps) b l r =
      let before = complete search was steps r.1.0 r.1.1 r.1.2 in
      let f = was.trail.found r.1.0 before in
      was.closed f.0 b f.1 (subst (λ x. HasResidual mine (amount flow) x b) (sym f.2) r.1.3) r.0

  pub exactly : (search : BreadthFirst) → IsReachedSoFar mine inside flow search search.tail
      → (u : ℕ) → u < mine.blocks → IsTrue (is_visited search u) ↔ ((steps : ℕ) × IsReached mine (has inside) (amount flow) u steps)
  exactly search was u l = (λ e. was.sound u e, λ r. complete search was r.0 u l r.1)
