-- What is used and what is yielded, summed by term.
use Rattle.std.proofs.Common.{◌≡◌, ℕ, ◌+◌, ◌-◌, ◌<◌, ◌≤◌, Bool, true, false, List, length, eqb, leb, refl, sym, ap, ◌∙◌, arith, ⊎_elim}
use Rattle.std.specs.Prelude.{ℤ, pos, ◌*ℤ◌, ◌==◌}
use Rattle.std.proofs.lemmas.Int.{ints}
use Rattle.std.proofs.lemmas.Bool.{cases_eq, leb-false, leb-true}
use Rattle.pit_model.specs.Sum.{total, when}
use Rattle.pit_model.proofs.Sums.{total-same, total-zero, total-pick, when-here, when-other, when-total}
use Rattle.schedule_model.specs.declared.term.Effect.{Effect}
use Rattle.schedule_model.specs.declared.term.Effect.TheVariants.{Value, Use}
use Rattle.schedule_model.specs.Problem.{Problem, amount_in, discount, term_at, use_of, yield_of}
use Rattle.schedule_model.specs.Schedule.{overall, schedule_value, share, usage}
use Rattle.schedule_model.proofs.Sums.{times_assoc, times_comm, total-times}
use Rattle.schedule_model.proofs.Grid.{grid-same, grid-total}
use Rattle.scheduling.specs.Limits.{IsBoundedProblem}
use Rattle.scheduling.specs.Checked.{discounted, moved, moved_of_block, part_of_usage, part_of_value, term_usage, term_value}
use Rattle.scheduling.proofs.Exchanged.{times_when}

times_none : (x : ℤ) → x *ℤ pos 0 ≡ pos 0
times_none x = omega (arith, ints)

-- of a sum over periods, that period is left from which so many periods lead to s
delayed_by : (periods s lag : ℕ) (m : ℕ → ℤ) (early : Bool) → leb lag s ≡ early → s < periods → total periods (λ t. when (eqb (t + lag) s) (m t)) ≡ when early (m (s - lag))
delayed_by periods s lag m true e h =
    let le : lag ≤ s = leb-true lag s e in
    total-same periods (λ t. when (eqb (t + lag) s) (m t)) (λ t. when (eqb (s - lag) t) (m t)) (λ t k.
    ⊎_elim
    (λ (is : t + lag ≡ s). when-here (t + lag) s (m t) is ∙ sym (when-here (s - lag) t (m t) (omega arith)))
    (λ ne. when-other (t + lag) s (m t) ne ∙ sym (when-other (s - lag) t (m t) (λ is. ne (omega (arith, is)))))
    (cases_eq (t + lag) s))
    ∙ total-pick periods (s - lag) m (omega arith)
delayed_by periods s lag m false e h =
    let lt : s < lag = leb-false lag s e in
    total-zero periods (λ t. when (eqb (t + lag) s) (m t)) (λ t k. when-other (t + lag) s (m t) (λ is. omega (arith, is)))

delayed : (periods s lag : ℕ) (m : ℕ → ℤ) → s < periods → total periods (λ t. when (eqb (t + lag) s) (m t)) ≡ when (leb lag s) (m (s - lag))
delayed periods s lag m h = delayed_by periods s lag m (leb lag s) refl h

module _ (problem : Problem) (shares : List ℕ) (limits : IsBoundedProblem problem) where
  -- sums by block, period and destination are sums by term
  by_term : (g : ℕ → ℕ → ℕ → ℤ)
      → overall problem (λ b t d. share problem shares b t d *ℤ total (length problem.terms) (λ k. when ((term_at problem k).destination == d) (g k b t)))
      ≡ total (length problem.terms) (λ k. total problem.periods (λ t. total problem.blocks (λ b. share problem shares b t (term_at problem k).destination *ℤ g k b t)))
  by_term g =
      grid-same problem.periods problem.blocks problem.destinations
      (λ b t d. share problem shares b t d *ℤ total (length problem.terms) (λ k. when ((term_at problem k).destination == d) (g k b t)))
      (λ b t d. total (length problem.terms) (λ k. when ((term_at problem k).destination == d) (share problem shares b t d *ℤ g k b t)))
      (λ b t d hb ht hd.
      sym (total-times (length problem.terms) (share problem shares b t d) (λ k. when ((term_at problem k).destination == d) (g k b t)))
      ∙ total-same (length problem.terms) (λ k. share problem shares b t d *ℤ when ((term_at problem k).destination == d) (g k b t)) (λ k. when ((term_at problem k).destination == d) (share problem shares b t d *ℤ g k b t)) (λ k h.
      times_when (share problem shares b t d) (g k b t) ((term_at problem k).destination == d)))
      ∙ grid-total problem.periods problem.blocks problem.destinations (length problem.terms) (λ b t d k. when ((term_at problem k).destination == d) (share problem shares b t d *ℤ g k b t))
      ∙ total-same (length problem.terms)
      (λ k. overall problem (λ b t d. when ((term_at problem k).destination == d) (share problem shares b t d *ℤ g k b t)))
      (λ k. total problem.periods (λ t. total problem.blocks (λ b. share problem shares b t (term_at problem k).destination *ℤ g k b t)))
      (λ k h.
      total-same problem.periods (λ t. total problem.blocks (λ b. total problem.destinations (λ d. when ((term_at problem k).destination == d) (share problem shares b t d *ℤ g k b t)))) (λ t. total problem.blocks (λ b. share problem shares b t (term_at problem k).destination *ℤ g k b t)) (λ t ht.
      total-same problem.blocks (λ b. total problem.destinations (λ d. when ((term_at problem k).destination == d) (share problem shares b t d *ℤ g k b t))) (λ b. share problem shares b t (term_at problem k).destination *ℤ g k b t) (λ b hb.
      total-pick problem.destinations (term_at problem k).destination (λ d. share problem shares b t d *ℤ g k b t) (limits.terms k h).destination)))

  nothing : (d : ℕ) → total problem.periods (λ t. total problem.blocks (λ b. share problem shares b t d *ℤ pos 0)) ≡ pos 0
  nothing d =
      total-zero problem.periods (λ t. total problem.blocks (λ b. share problem shares b t d *ℤ pos 0)) (λ t h.
      total-zero problem.blocks (λ b. share problem shares b t d *ℤ pos 0) (λ b k. times_none (share problem shares b t d)))

  one_usage : (d column lag r s : ℕ) (effect : Effect) → s < problem.periods
      → total problem.periods (λ t. total problem.blocks (λ b. share problem shares b t d *ℤ use_of problem b t column effect lag r s)) ≡ term_usage problem shares d effect column lag r s
  one_usage d column lag r s Value h = nothing d
  one_usage d column lag r s (Use q) h =
      total-same problem.periods (λ t. total problem.blocks (λ b. share problem shares b t d *ℤ when (eqb q r) (when (eqb (t + lag) s) (amount_in problem b column)))) (λ t. when (eqb q r) (when (eqb (t + lag) s) (moved problem shares t d column))) (λ t ht.
      total-same problem.blocks (λ b. share problem shares b t d *ℤ when (eqb q r) (when (eqb (t + lag) s) (amount_in problem b column))) (λ b. when (eqb q r) (when (eqb (t + lag) s) (moved_of_block problem shares t d column b))) (λ b hb.
      times_when (share problem shares b t d) (when (eqb (t + lag) s) (amount_in problem b column)) (eqb q r)
      ∙ ap (when (eqb q r)) (times_when (share problem shares b t d) (amount_in problem b column) (eqb (t + lag) s)))
      ∙ sym (when-total (eqb q r) problem.blocks (λ b. when (eqb (t + lag) s) (moved_of_block problem shares t d column b)))
      ∙ ap (when (eqb q r)) (sym (when-total (eqb (t + lag) s) problem.blocks (moved_of_block problem shares t d column))))
      ∙ sym (when-total (eqb q r) problem.periods (λ t. when (eqb (t + lag) s) (moved problem shares t d column)))
      ∙ ap (when (eqb q r)) (delayed problem.periods s lag (λ t. moved problem shares t d column) h)

  pub usage_is : (r s : ℕ) → s < problem.periods → usage problem shares r s ≡ total (length problem.terms) (part_of_usage problem shares r s)
  usage_is r s h =
      by_term (λ k b t. use_of problem b t (term_at problem k).column (term_at problem k).effect (term_at problem k).lag r s)
      ∙ total-same (length problem.terms) (λ k. total problem.periods (λ t. total problem.blocks (λ b. share problem shares b t (term_at problem k).destination *ℤ use_of problem b t (term_at problem k).column (term_at problem k).effect (term_at problem k).lag r s))) (part_of_usage problem shares r s) (λ k i.
      one_usage (term_at problem k).destination (term_at problem k).column (term_at problem k).lag r s (term_at problem k).effect h)

  one_value : (d column lag : ℕ) (effect : Effect)
      → total problem.periods (λ t. total problem.blocks (λ b. share problem shares b t d *ℤ yield_of problem b t column effect lag)) ≡ term_value problem shares d effect column lag
  one_value d column lag Value =
      total-same problem.periods (λ t. total problem.blocks (λ b. share problem shares b t d *ℤ (amount_in problem b column *ℤ discount problem (t + lag)))) (discounted problem shares d column lag) (λ t ht.
      total-same problem.blocks (λ b. share problem shares b t d *ℤ (amount_in problem b column *ℤ discount problem (t + lag))) (λ b. discount problem (t + lag) *ℤ moved_of_block problem shares t d column b) (λ b hb.
      times_assoc (share problem shares b t d) (amount_in problem b column) (discount problem (t + lag)) ∙ times_comm (moved_of_block problem shares t d column b) (discount problem (t + lag)))
      ∙ total-times problem.blocks (discount problem (t + lag)) (moved_of_block problem shares t d column)
      ∙ times_comm (discount problem (t + lag)) (moved problem shares t d column))
  one_value d column lag (Use q) = nothing d

  pub value_is : schedule_value problem shares ≡ total (length problem.terms) (part_of_value problem shares)
  value_is =
      by_term (λ k b t. yield_of problem b t (term_at problem k).column (term_at problem k).effect (term_at problem k).lag)
      ∙ total-same (length problem.terms) (λ k. total problem.periods (λ t. total problem.blocks (λ b. share problem shares b t (term_at problem k).destination *ℤ yield_of problem b t (term_at problem k).column (term_at problem k).effect (term_at problem k).lag))) (part_of_value problem shares) (λ k i.
      one_value (term_at problem k).destination (term_at problem k).column (term_at problem k).lag (term_at problem k).effect)
