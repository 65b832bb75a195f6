-- No schedule is worth more than the Lagrangian bound: sums over limits and blocks change places, sums over periods telescope, and the
-- shares that are mined by the end of each period do not fall along the pairs of the time-expanded instance.
use Rattle.std.proofs.Common.{◌≡◌, ℕ, zero, suc, ◌+◌, ◌-◌, ◌*◌, ◌/◌, ◌%◌, ◌<◌, ◌≤◌, get_or, sym, ap, ◌∙◌, arith, ⊎_elim, List}
use Rattle.std.specs.Prelude.{ℤ, pos, ◌+ℤ◌, ◌-ℤ◌, ◌*ℤ◌, ◌≤ℤ◌, ◌⊎◌, Bool}
use Rattle.std.proofs.lemmas.Int.{ints}
use Rattle.std.proofs.lemmas.Nat.{div-mul-add, mod-mul-add}
use Rattle.std.proofs.Math.Nat.{mul-le-mul_right, mod-lt, div-lt_iff_lt-mul}
use Rattle.pit_model.specs.Sum.{total}
use Rattle.pit_model.specs.Graph.{AreInRange, first_of, second_of}
use Rattle.pit_model.specs.declared.direction.Direction.TheVariants.{Least}
use Rattle.pit_model.specs.Pit.{IsPit, no_blocks_fixed}
use Rattle.pit_model.specs.Mine.{Instance, PairsInRange, arcs, source, target, value, worth}
use Rattle.pit_model.proofs.Sums.{total-same, total-le, total-swap, total-not_negative}
use Rattle.schedule_model.specs.Problem.{Problem, capacity, gain, used}
use Rattle.schedule_model.specs.Schedule.{IsScheduleOf, mined, mined_in_first, overall, schedule_value, share, usage}
use Rattle.schedule_model.specs.Bound.{AreLimitPrices, IsBest, IsNeededBlock, IsNextPeriod, IsTimeExpanded, ScheduleIsBounded, node, over_limits, price, priced_gain, unit}
use Rattle.schedule_model.proofs.Sums.{telescope, times_add, times_comm, times_le, times_swap, total-rows, total-times}
use Rattle.schedule_model.proofs.Grid.{exchange, grid-le, over-le, over-times}
use Rattle.schedule_model.proofs.Levels.{levels_bounded}

-- nodes by number
pub node_below : (n periods b t : ℕ) → b < n → t < periods → t * n + b < periods * n
node_below n periods b t hb ht =
    let more : suc t * n ≤ periods * n = mul-le-mul_right n ht in
    let one : suc t * n ≡ t * n + n = omega arith in
    omega arith

pub some_blocks : (n periods i : ℕ) → i < periods * n → 0 < n
some_blocks zero periods i h = absurd (omega arith)
some_blocks (suc n) periods i h = omega arith

total-rises : (a k : ℕ) (f : ℕ → ℤ) → ((i : ℕ) → pos 0 ≤ℤ f i) → total a f ≤ℤ total (a + k) f
total-rises a zero f least =
    let e : a + zero ≡ a = omega arith in
    let s : total (a + zero) f ≡ total a f = ap (λ m. total m f) e in
    omega (arith, ints)
total-rises a (suc k) f least =
    let e : a + suc k ≡ suc (a + k) = omega arith in
    let s : total (a + suc k) f ≡ total (suc (a + k)) f = ap (λ m. total m f) e in
    omega (arith, ints, total-rises a k f least, least (a + k))

pub total-upto : (a n : ℕ) (f : ℕ → ℤ) → ((i : ℕ) → pos 0 ≤ℤ f i) → a ≤ n → total a f ≤ℤ total n f
total-upto a n f least upto =
    let e : a + (n - a) ≡ n = omega arith in
    let s : total (a + (n - a)) f ≡ total n f = ap (λ m. total m f) e in
    omega (arith, ints, total-rises a (n - a) f least)

pub mined_least : (problem : Problem) (shares : List ℕ) (b t : ℕ) → pos 0 ≤ℤ mined problem shares b t
mined_least problem shares b t = total-not_negative problem.destinations (λ d. share problem shares b t d) (λ d h. omega (arith, ints))

module _ (problem : Problem) (whole : ℕ) (shares : List ℕ) (schedule : IsScheduleOf whole problem shares) where
  n : ℕ
  n = problem.blocks

  y : ℕ → ℕ → ℤ
  y b t = mined problem shares b t

  by_end : ℕ → ℕ → ℤ
  by_end b t = mined_in_first problem shares b (suc t)

  pub z : ℕ → ℤ
  z i = by_end (i % problem.blocks) (i / problem.blocks)

  y_least : (b t : ℕ) → pos 0 ≤ℤ y b t
  unfolding y
  y_least b t = mined_least problem shares b t

  pub z_at : (b t : ℕ) → b < problem.blocks → z (node problem b t) ≡ mined_in_first problem shares b (suc t)
  unfolding z by_end
  z_at b t h =
      let e : (t * problem.blocks + b) % problem.blocks ≡ b = mod-mul-add t problem.blocks b h in
      let f : (t * problem.blocks + b) / problem.blocks ≡ t = div-mul-add t problem.blocks b h in
      ap (λ u. mined_in_first problem shares u (suc ((t * problem.blocks + b) / problem.blocks))) e
      ∙ ap (λ u. mined_in_first problem shares b (suc u)) f

  pub z_least : (i : ℕ) → pos 0 ≤ℤ z i
  unfolding z by_end y
  z_least i = total-not_negative (suc (i / problem.blocks)) (λ t. mined problem shares (i % problem.blocks) t) (λ t h. y_least (i % problem.blocks) t)

  pub z_most : (i : ℕ) → i < problem.periods * problem.blocks → z i ≤ℤ pos whole
  unfolding z by_end y
  z_most i h =
      let some = some_blocks problem.blocks problem.periods i h in
      let once = schedule.once (i % problem.blocks) (mod-lt i some) in
      let early : suc (i / problem.blocks) ≤ problem.periods = (div-lt_iff_lt-mul some).1 h in
      omega (arith, ints, total-upto (suc (i / problem.blocks)) problem.periods (λ t. mined problem shares (i % problem.blocks) t) (y_least (i % problem.blocks)) early)

  module _ (prices : List ℤ) (best : ℕ → ℕ → ℤ) (nodes : Instance) (in_range : AreInRange problem.pairs problem.blocks) (not_negative : AreLimitPrices problem prices)
      (best_is : (b t : ℕ) → b < problem.blocks → t < problem.periods → IsBest problem prices b t (best b t))
      (none_after : (b : ℕ) → best b problem.periods ≡ pos 0) (expanded : IsTimeExpanded problem best nodes) where
    next_rises : (pair : ℕ × ℕ) → IsNextPeriod problem pair → z pair.0 ≤ℤ z pair.1
    unfolding y
    next_rises pair p =
        let s = ap z p.4 ∙ z_at p.0 p.1 p.2 in
        let t = ap z p.5 ∙ z_at p.0 (suc p.1) p.2 in
        omega (arith, ints, y_least p.0 (suc p.1))

    needed_rises : (pair : ℕ × ℕ) → IsNeededBlock problem pair → z pair.0 ≤ℤ z pair.1
    needed_rises pair p =
        let s = ap z p.4 ∙ z_at (first_of problem.pairs p.0) p.1 (in_range p.0 p.2).0 in
        let t = ap z p.5 ∙ z_at (second_of problem.pairs p.0) p.1 (in_range p.0 p.2).1 in
        omega (arith, ints, schedule.in_order p.0 p.1 p.2 p.3)

    rises : (k : ℕ) → k < arcs nodes → z (source nodes k) ≤ℤ z (target nodes k)
    rises k h = ⊎_elim (next_rises (get_or nodes.pairs k (0, 0))) (needed_rises (get_or nodes.pairs k (0, 0))) (expanded.pairs.only k h)

    pair_below : (pair : ℕ × ℕ) → IsNextPeriod problem pair ⊎ IsNeededBlock problem pair → (pair.0 < nodes.blocks) × (pair.1 < nodes.blocks)
    pair_below pair e =
        ⊎_elim
        (λ p.
        let a = node_below problem.blocks problem.periods p.0 p.1 p.2 (omega arith) in
        let b = node_below problem.blocks problem.periods p.0 (suc p.1) p.2 p.3 in
        let c = expanded.count in
        (omega arith, omega arith))
        (λ p.
        let a = node_below problem.blocks problem.periods (first_of problem.pairs p.0) p.1 (in_range p.0 p.2).0 p.3 in
        let b = node_below problem.blocks problem.periods (second_of problem.pairs p.0) p.1 (in_range p.0 p.2).1 p.3 in
        let c = expanded.count in
        (omega arith, omega arith))
        e

    pub range : PairsInRange nodes
    range k h = pair_below (get_or nodes.pairs k (0, 0)) (expanded.pairs.only k h)

    v : ℕ → ℕ → ℤ
    v b t = value nodes (node problem b t)

    -- by node, and by period and block
    weighted : ℤ
    weighted = total problem.periods (λ t. total problem.blocks (λ b. by_end b t *ℤ v b t))

    by_node : weighted ≡ total nodes.blocks (λ i. z i *ℤ value nodes i)
    unfolding weighted v by_end
    by_node =
        sym
        (ap (λ m. total m (λ i. z i *ℤ value nodes i)) expanded.count
        ∙ total-rows problem.periods problem.blocks (λ i. z i *ℤ value nodes i)
        ∙ total-same problem.periods (λ t. total problem.blocks (λ b. z (t * problem.blocks + b) *ℤ value nodes (t * problem.blocks + b))) (λ t. total problem.blocks (λ b. mined_in_first problem shares b (suc t) *ℤ value nodes (node problem b t))) (λ t ht.
        total-same problem.blocks (λ b. z (t * problem.blocks + b) *ℤ value nodes (t * problem.blocks + b)) (λ b. mined_in_first problem shares b (suc t) *ℤ value nodes (node problem b t)) (λ b hb.
        ap (λ u. u *ℤ value nodes (t * problem.blocks + b)) (z_at b t hb))))

    weighted_most : (pit : ℕ → Bool) → IsPit Least nodes no_blocks_fixed pit → weighted ≤ℤ (pos whole *ℤ worth nodes pit)
    weighted_most pit is_pit =
        let e = by_node in
        let c = expanded.count in
        let l = levels_bounded nodes z whole range (λ i h. z_least i) (λ i h. z_most i (omega arith)) rises pit is_pit in
        omega (arith, ints)

    -- what is mined, at the best priced gains
    at_best : ℤ
    at_best = overall problem (λ b t d. share problem shares b t d *ℤ best b t)

    by_block : at_best ≡ total problem.periods (λ t. total problem.blocks (λ b. y b t *ℤ best b t))
    unfolding at_best y
    by_block =
        total-same problem.periods (λ t. total problem.blocks (λ b. total problem.destinations (λ d. share problem shares b t d *ℤ best b t))) (λ t. total problem.blocks (λ b. mined problem shares b t *ℤ best b t)) (λ t ht.
        total-same problem.blocks (λ b. total problem.destinations (λ d. share problem shares b t d *ℤ best b t)) (λ b. mined problem shares b t *ℤ best b t) (λ b hb.
        total-same problem.destinations (λ d. share problem shares b t d *ℤ best b t) (λ d. best b t *ℤ share problem shares b t d) (λ d hd. times_comm (share problem shares b t d) (best b t))
        ∙ total-times problem.destinations (best b t) (λ d. share problem shares b t d)
        ∙ times_comm (best b t) (mined problem shares b t)))

    by_parts : (b : ℕ) → total problem.periods (λ t. y b t *ℤ best b t) ≡ total problem.periods (λ t. by_end b t *ℤ (best b t -ℤ best b (suc t)))
    unfolding y by_end
    by_parts b =
        let e = telescope problem.periods (λ t. mined problem shares b t) (λ t. best b t) in
        let f : total problem.periods (λ t. mined problem shares b t) *ℤ best b problem.periods ≡ total problem.periods (λ t. mined problem shares b t) *ℤ pos 0 =
        ap (λ u. total problem.periods (λ t. mined problem shares b t) *ℤ u) (none_after b) in
        let g = times_comm (total problem.periods (λ t. mined problem shares b t)) (pos 0) in
        omega (arith, ints)

    by_end_least : (b t : ℕ) → pos 0 ≤ℤ by_end b t
    unfolding by_end y
    by_end_least b t = total-not_negative (suc t) (λ s. mined problem shares b s) (λ s h. y_least b s)

    rounded : (b t : ℕ) → b < problem.blocks → t < problem.periods → (by_end b t *ℤ (best b t -ℤ best b (suc t))) ≤ℤ (pos unit *ℤ (by_end b t *ℤ v b t))
    unfolding v
    rounded b t hb ht =
        let up = times_le (by_end b t) (best b t -ℤ best b (suc t)) (pos unit *ℤ value nodes (node problem b t)) (by_end_least b t) (expanded.values b t hb ht).least in
        let e = times_swap (by_end b t) (pos unit) (value nodes (node problem b t)) in
        omega (arith, ints)

    at_best_most : at_best ≤ℤ (pos unit *ℤ weighted)
    unfolding weighted
    at_best_most =
        let e = by_block in
        let s = total-swap problem.periods problem.blocks (λ t b. y b t *ℤ best b t) in
        let p = total-same problem.blocks (λ b. total problem.periods (λ t. y b t *ℤ best b t)) (λ b. total problem.periods (λ t. by_end b t *ℤ (best b t -ℤ best b (suc t)))) (λ b h. by_parts b) in
        let r = total-le problem.blocks (λ b. total problem.periods (λ t. by_end b t *ℤ (best b t -ℤ best b (suc t)))) (λ b. total problem.periods (λ t. pos unit *ℤ (by_end b t *ℤ v b t))) (λ b hb.
        total-le problem.periods (λ t. by_end b t *ℤ (best b t -ℤ best b (suc t))) (λ t. pos unit *ℤ (by_end b t *ℤ v b t)) (λ t ht. rounded b t hb ht)) in
        let q = total-swap problem.blocks problem.periods (λ b t. pos unit *ℤ (by_end b t *ℤ v b t)) in
        let u = total-same problem.periods (λ t. total problem.blocks (λ b. pos unit *ℤ (by_end b t *ℤ v b t))) (λ t. pos unit *ℤ total problem.blocks (λ b. by_end b t *ℤ v b t)) (λ t h. total-times problem.blocks (pos unit) (λ b. by_end b t *ℤ v b t)) in
        let w = total-times problem.periods (pos unit) (λ t. total problem.blocks (λ b. by_end b t *ℤ v b t)) in
        omega (arith, ints)

    -- the priced value of the schedule
    at_prices : ℤ
    at_prices = overall problem (λ b t d. share problem shares b t d *ℤ priced_gain problem prices b t d)

    at_prices_most : at_prices ≤ℤ at_best
    unfolding at_prices at_best
    at_prices_most =
        grid-le problem.periods problem.blocks problem.destinations
        (λ b t d. share problem shares b t d *ℤ priced_gain problem prices b t d)
        (λ b t d. share problem shares b t d *ℤ best b t)
        (λ b t d hb ht hd. times_le (share problem shares b t d) (priced_gain problem prices b t d) (best b t) (omega (arith, ints)) ((best_is b t hb ht).greatest d hd))

    of_usage : ℤ
    of_usage = over_limits problem (λ r s. price problem prices r s *ℤ usage problem shares r s)

    value_is : schedule_value problem shares ≡ at_prices +ℤ of_usage
    unfolding at_prices of_usage
    value_is =
        let e = exchange problem.periods problem.blocks problem.destinations problem.limits (share problem shares) (gain problem) (used problem) (price problem prices) in
        omega (arith, ints)

    of_capacity : ℤ
    of_capacity = over_limits problem (λ r s. price problem prices r s *ℤ capacity problem r s)

    usage_most : of_usage ≤ℤ (pos whole *ℤ of_capacity)
    unfolding of_usage of_capacity
    usage_most =
        let l = over-le problem.periods problem.blocks problem.destinations problem.limits (share problem shares) (gain problem) (used problem) (price problem prices)
        (λ r s. price problem prices r s *ℤ usage problem shares r s)
        (λ r s. pos whole *ℤ (price problem prices r s *ℤ capacity problem r s))
        (λ r s hr hs.
        let m = times_le (price problem prices r s) (usage problem shares r s) (pos whole *ℤ capacity problem r s) (not_negative r s hr hs) (schedule.within r s hr hs) in
        let e = times_swap (price problem prices r s) (pos whole) (capacity problem r s) in
        omega (arith, ints)) in
        let t = over-times problem.periods problem.blocks problem.destinations problem.limits (share problem shares) (gain problem) (used problem) (price problem prices) (pos whole) (λ r s. price problem prices r s *ℤ capacity problem r s) in
        omega (arith, ints)

    pub bounded : (pit : ℕ → Bool) → IsPit Least nodes no_blocks_fixed pit → schedule_value problem shares ≤ℤ (pos whole *ℤ (pos unit *ℤ worth nodes pit +ℤ over_limits problem (λ r s. price problem prices r s *ℤ capacity problem r s)))
    unfolding of_capacity
    bounded pit is_pit =
        let a = value_is in
        let b = at_prices_most in
        let c = at_best_most in
        let d = weighted_most pit is_pit in
        let e = times_le (pos unit) weighted (pos whole *ℤ worth nodes pit) (omega (arith, ints)) d in
        let f = times_swap (pos unit) (pos whole) (worth nodes pit) in
        let g = usage_most in
        let h = times_add (pos whole) (pos unit *ℤ worth nodes pit) of_capacity in
        omega (arith, ints)

pub schedule_is_bounded : ScheduleIsBounded
schedule_is_bounded problem prices bound whole shares in_range not_negative b schedule =
    let most = bounded problem whole shares schedule prices b.best b.nodes in_range not_negative b.best_is b.none_after b.expanded b.pit b.is_pit in
    let e : pos whole *ℤ bound ≡ pos whole *ℤ (pos unit *ℤ worth b.nodes b.pit +ℤ over_limits problem (λ r s. price problem prices r s *ℤ capacity problem r s)) = ap (λ u. pos whole *ℤ u) b.is in
    omega (arith, ints)
