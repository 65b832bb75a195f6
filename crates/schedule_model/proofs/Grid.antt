-- Sums over all periods, blocks and destinations, and over all limits and periods.
use Rattle.std.proofs.Common.{◌≡◌, ℕ, ◌<◌, sym, ap, ◌∙◌}
use Rattle.std.specs.Prelude.{ℤ, ◌-ℤ◌, ◌*ℤ◌, ◌≤ℤ◌}
use Rattle.pit_model.specs.Sum.{total}
use Rattle.pit_model.proofs.Sums.{total-same, total-sub, total-le, total-swap}
use Rattle.schedule_model.proofs.Sums.{times_sub, times_swap, total-times}

module _ (periods blocks destinations : ℕ) where
  abbrev pub grid : (ℕ → ℕ → ℕ → ℤ) → ℤ
  grid f = total periods (λ t. total blocks (λ b. total destinations (λ d. f b t d)))

  pub grid-same : (f g : ℕ → ℕ → ℕ → ℤ) → ((b t d : ℕ) → b < blocks → t < periods → d < destinations → f b t d ≡ g b t d) → grid f ≡ grid g
  grid-same f g same =
      total-same periods (λ t. total blocks (λ b. total destinations (λ d. f b t d))) (λ t. total blocks (λ b. total destinations (λ d. g b t d))) (λ t ht.
      total-same blocks (λ b. total destinations (λ d. f b t d)) (λ b. total destinations (λ d. g b t d)) (λ b hb.
      total-same destinations (λ d. f b t d) (λ d. g b t d) (λ d hd. same b t d hb ht hd)))

  pub grid-sub : (f g : ℕ → ℕ → ℕ → ℤ) → grid (λ b t d. f b t d -ℤ g b t d) ≡ grid f -ℤ grid g
  grid-sub f g =
      total-same periods (λ t. total blocks (λ b. total destinations (λ d. f b t d -ℤ g b t d))) (λ t. total blocks (λ b. total destinations (λ d. f b t d)) -ℤ total blocks (λ b. total destinations (λ d. g b t d))) (λ t ht.
      total-same blocks (λ b. total destinations (λ d. f b t d -ℤ g b t d)) (λ b. total destinations (λ d. f b t d) -ℤ total destinations (λ d. g b t d)) (λ b hb. total-sub destinations (λ d. f b t d) (λ d. g b t d))
      ∙ total-sub blocks (λ b. total destinations (λ d. f b t d)) (λ b. total destinations (λ d. g b t d)))
      ∙ total-sub periods (λ t. total blocks (λ b. total destinations (λ d. f b t d))) (λ t. total blocks (λ b. total destinations (λ d. g b t d)))

  pub grid-times : (c : ℤ) (f : ℕ → ℕ → ℕ → ℤ) → grid (λ b t d. c *ℤ f b t d) ≡ c *ℤ grid f
  grid-times c f =
      total-same periods (λ t. total blocks (λ b. total destinations (λ d. c *ℤ f b t d))) (λ t. c *ℤ total blocks (λ b. total destinations (λ d. f b t d))) (λ t ht.
      total-same blocks (λ b. total destinations (λ d. c *ℤ f b t d)) (λ b. c *ℤ total destinations (λ d. f b t d)) (λ b hb. total-times destinations c (λ d. f b t d))
      ∙ total-times blocks c (λ b. total destinations (λ d. f b t d)))
      ∙ total-times periods c (λ t. total blocks (λ b. total destinations (λ d. f b t d)))

  pub grid-le : (f g : ℕ → ℕ → ℕ → ℤ) → ((b t d : ℕ) → b < blocks → t < periods → d < destinations → f b t d ≤ℤ g b t d) → grid f ≤ℤ grid g
  grid-le f g below =
      total-le periods (λ t. total blocks (λ b. total destinations (λ d. f b t d))) (λ t. total blocks (λ b. total destinations (λ d. g b t d))) (λ t ht.
      total-le blocks (λ b. total destinations (λ d. f b t d)) (λ b. total destinations (λ d. g b t d)) (λ b hb.
      total-le destinations (λ d. f b t d) (λ d. g b t d) (λ d hd. below b t d hb ht hd)))

  -- a sum of sums over the grid is a sum over the grid of sums
  pub grid-total : (n : ℕ) (f : ℕ → ℕ → ℕ → ℕ → ℤ) → grid (λ b t d. total n (λ k. f b t d k)) ≡ total n (λ k. grid (λ b t d. f b t d k))
  grid-total n f =
      total-same periods (λ t. total blocks (λ b. total destinations (λ d. total n (λ k. f b t d k)))) (λ t. total n (λ k. total blocks (λ b. total destinations (λ d. f b t d k)))) (λ t ht.
      total-same blocks (λ b. total destinations (λ d. total n (λ k. f b t d k))) (λ b. total n (λ k. total destinations (λ d. f b t d k))) (λ b hb. total-swap destinations n (λ d k. f b t d k))
      ∙ total-swap blocks n (λ b k. total destinations (λ d. f b t d k)))
      ∙ total-swap periods n (λ t k. total blocks (λ b. total destinations (λ d. f b t d k)))

  module _ (limits : ℕ) (x gain : ℕ → ℕ → ℕ → ℤ) (used : ℕ → ℕ → ℕ → ℕ → ℕ → ℤ) (price : ℕ → ℕ → ℤ) where
    abbrev pub over : (ℕ → ℕ → ℤ) → ℤ
    over f = total limits (λ r. total periods (λ s. f r s))

    pub over-times : (c : ℤ) (f : ℕ → ℕ → ℤ) → over (λ r s. c *ℤ f r s) ≡ c *ℤ over f
    over-times c f =
        total-same limits (λ r. total periods (λ s. c *ℤ f r s)) (λ r. c *ℤ total periods (λ s. f r s)) (λ r h. total-times periods c (λ s. f r s))
        ∙ total-times limits c (λ r. total periods (λ s. f r s))

    pub over-same : (f g : ℕ → ℕ → ℤ) → ((r s : ℕ) → r < limits → s < periods → f r s ≡ g r s) → over f ≡ over g
    over-same f g same =
        total-same limits (λ r. total periods (λ s. f r s)) (λ r. total periods (λ s. g r s)) (λ r hr.
        total-same periods (λ s. f r s) (λ s. g r s) (λ s hs. same r s hr hs))

    pub over-le : (f g : ℕ → ℕ → ℤ) → ((r s : ℕ) → r < limits → s < periods → f r s ≤ℤ g r s) → over f ≤ℤ over g
    over-le f g below =
        total-le limits (λ r. total periods (λ s. f r s)) (λ r. total periods (λ s. g r s)) (λ r hr.
        total-le periods (λ s. f r s) (λ s. g r s) (λ s hs. below r s hr hs))

    pub grid-over : (f : ℕ → ℕ → ℕ → ℕ → ℕ → ℤ) → grid (λ b t d. over (λ r s. f b t d r s)) ≡ over (λ r s. grid (λ b t d. f b t d r s))
    grid-over f =
        grid-total limits (λ b t d r. total periods (λ s. f b t d r s))
        ∙ total-same limits (λ r. grid (λ b t d. total periods (λ s. f b t d r s))) (λ r. total periods (λ s. grid (λ b t d. f b t d r s))) (λ r h. grid-total periods (λ b t d s. f b t d r s))

    -- the price of what is used may be taken by block or by limit
    pub exchange :
        grid (λ b t d. x b t d *ℤ (gain b t d -ℤ over (λ r s. price r s *ℤ used b t d r s)))
        ≡ grid (λ b t d. x b t d *ℤ gain b t d) -ℤ over (λ r s. price r s *ℤ grid (λ b t d. x b t d *ℤ used b t d r s))
    exchange =
        grid-same
        (λ b t d. x b t d *ℤ (gain b t d -ℤ over (λ r s. price r s *ℤ used b t d r s)))
        (λ b t d. x b t d *ℤ gain b t d -ℤ over (λ r s. price r s *ℤ (x b t d *ℤ used b t d r s)))
        (λ b t d hb ht hd.
        times_sub (x b t d) (gain b t d) (over (λ r s. price r s *ℤ used b t d r s))
        ∙ ap (λ v. x b t d *ℤ gain b t d -ℤ v)
        (sym (over-times (x b t d) (λ r s. price r s *ℤ used b t d r s))
        ∙ over-same (λ r s. x b t d *ℤ (price r s *ℤ used b t d r s)) (λ r s. price r s *ℤ (x b t d *ℤ used b t d r s)) (λ r s hr hs. times_swap (x b t d) (price r s) (used b t d r s))))
        ∙ grid-sub (λ b t d. x b t d *ℤ gain b t d) (λ b t d. over (λ r s. price r s *ℤ (x b t d *ℤ used b t d r s)))
        ∙ ap (λ v. grid (λ b t d. x b t d *ℤ gain b t d) -ℤ v)
        (grid-over (λ b t d r s. price r s *ℤ (x b t d *ℤ used b t d r s))
        ∙ over-same (λ r s. grid (λ b t d. price r s *ℤ (x b t d *ℤ used b t d r s))) (λ r s. price r s *ℤ grid (λ b t d. x b t d *ℤ used b t d r s)) (λ r s hr hs. grid-times (price r s) (λ b t d. x b t d *ℤ used b t d r s)))
