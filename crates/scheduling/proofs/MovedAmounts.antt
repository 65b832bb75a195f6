-- What is moved, used and yielded is small, and so are the sums on the way.
use Rattle.std.proofs.Common.{◌≡◌, ℕ, ◌+◌, ◌*◌, ◌^◌, ◌<◌, ◌≤◌, List, length, get_or, leb, ltb, arith, refl, ◌-◌}
use Rattle.std.specs.Prelude.{pos, ◌==◌, Bool, true, false}
use Rattle.std.proofs.lemmas.Bool.{ltb-true}
use Rattle.std.proofs.lemmas.Int.{ints}
use Rattle.std.proofs.Math.Nat.{mul-le-mul_right}
use Rattle.pit_model.specs.Sum.{total, when}
use Rattle.schedule_model.specs.declared.term.Effect.{Effect}
use Rattle.schedule_model.specs.declared.term.Effect.TheVariants.{Value, Use}
use Rattle.schedule_model.specs.Problem.{Problem, amount_in, discount, term_at}
use Rattle.schedule_model.specs.Schedule.{share, whole_block}
use Rattle.schedule_model.proofs.Bounded.{node_below}
use Rattle.scheduling.specs.Limits.{IsWithinDistance, IsBoundedProblem, most_column, most_discount}
use Rattle.scheduling.specs.Checked.{AreShares, discounted, moved, moved_of_block, part_of_usage, part_of_value, term_usage, term_value}
use Rattle.scheduling.proofs.Small.{within_more, within_none, within_product, within_total, within_when}
use Rattle.scheduling.proofs.Weighing.{amount_within}

-- of 2^22 blocks, or nodes
abbrev pub most_moved : ℕ
most_moved = 2 ^ 22 * 10 ^ 22

abbrev pub most_yield : ℕ
most_yield = 2 ^ 22 * 10 ^ 28

module _ (problem : Problem) (shares : List ℕ) (limits : IsBoundedProblem problem) (are : AreShares problem shares) where
  share_within : (b t d : ℕ) → b < problem.blocks → t < problem.periods → d < problem.destinations → IsWithinDistance whole_block (share problem shares b t d)
  share_within b t d hb ht hd =
      let node = node_below problem.blocks problem.periods b t hb ht in
      let at = node_below problem.destinations (problem.periods * problem.blocks) d (t * problem.blocks + b) hd node in
      let count = are.count in
      let most = are.most ((t * problem.blocks + b) * problem.destinations + d) (omega arith) in
      record { low = omega (arith, ints); high = omega (arith, ints) }

  pub block_within : (t d c b : ℕ) → b < problem.blocks → t < problem.periods → d < problem.destinations → c < problem.columns → IsWithinDistance (10 ^ 22) (moved_of_block problem shares t d c b)
  block_within t d c b hb ht hd hc = within_product whole_block most_column (share problem shares b t d) (amount_in problem b c) (share_within b t d hb ht hd) (amount_within problem b c limits hb hc)

  blocks_within : (t d c count : ℕ) → count ≤ problem.blocks → t < problem.periods → d < problem.destinations → c < problem.columns → IsWithinDistance (count * 10 ^ 22) (total count (moved_of_block problem shares t d c))
  blocks_within t d c count few ht hd hc = within_total (10 ^ 22) count (moved_of_block problem shares t d c) (λ b h. block_within t d c b (omega arith) ht hd hc)

  pub moved_within : (t d c count : ℕ) → count ≤ problem.blocks → t < problem.periods → d < problem.destinations → c < problem.columns → IsWithinDistance most_moved (total count (moved_of_block problem shares t d c))
  moved_within t d c count few ht hd hc =
      let most = limits.few_blocks in
      within_more (count * 10 ^ 22) most_moved (total count (moved_of_block problem shares t d c)) (omega arith) (blocks_within t d c count few ht hd hc)

  discount_by : (t : ℕ) (early : Bool) → ltb t problem.periods ≡ early → IsWithinDistance most_discount (when early (get_or problem.discounts t (pos 0)))
  discount_by t true e = let h = ltb-true t problem.periods e in let count = limits.discount_count in limits.discounts t (omega arith)
  discount_by t false e = within_none most_discount

  discount_within : (t : ℕ) → IsWithinDistance most_discount (discount problem t)
  discount_within t = discount_by t (ltb t problem.periods) refl

  term_usage_within : (d c lag r s : ℕ) (effect : Effect) → d < problem.destinations → c < problem.columns → s < problem.periods → IsWithinDistance most_moved (term_usage problem shares d effect c lag r s)
  term_usage_within d c lag r s Value hd hc hs = within_none most_moved
  term_usage_within d c lag r s (Use q) hd hc hs =
      within_when most_moved (q == r) (when (leb lag s) (moved problem shares (s - lag) d c))
      (within_when most_moved (leb lag s) (moved problem shares (s - lag) d c) (moved_within (s - lag) d c problem.blocks (omega arith) (omega arith) hd hc))

  pub part_of_usage_within : (r s k : ℕ) → k < length problem.terms → s < problem.periods → IsWithinDistance most_moved (part_of_usage problem shares r s k)
  part_of_usage_within r s k h hs =
      let term = limits.terms k h in
      term_usage_within (term_at problem k).destination (term_at problem k).column (term_at problem k).lag r s (term_at problem k).effect term.destination term.column hs

  pub usage_within : (r s count : ℕ) → count ≤ length problem.terms → s < problem.periods → IsWithinDistance (2 ^ 10 * most_moved) (total count (part_of_usage problem shares r s))
  usage_within r s count few hs =
      let terms = limits.few_terms in
      within_more (count * most_moved) (2 ^ 10 * most_moved) (total count (part_of_usage problem shares r s)) (omega arith)
      (within_total most_moved count (part_of_usage problem shares r s) (λ k h. part_of_usage_within r s k (omega arith) hs))

  -- what is yielded in one period, by the number of blocks
  period_within : (d c lag t : ℕ) → t < problem.periods → d < problem.destinations → c < problem.columns → IsWithinDistance (problem.blocks * 10 ^ 22 * most_discount) (discounted problem shares d c lag t)
  period_within d c lag t ht hd hc =
      within_product (problem.blocks * 10 ^ 22) most_discount (moved problem shares t d c) (discount problem (t + lag)) (blocks_within t d c problem.blocks (omega arith) ht hd hc) (discount_within (t + lag))

  pub yield_within : (d c lag count : ℕ) → count ≤ problem.periods → d < problem.destinations → c < problem.columns → IsWithinDistance most_yield (total count (discounted problem shares d c lag))
  yield_within d c lag count few hd hc =
      let nodes = limits.few_nodes in
      let less : count * problem.blocks ≤ problem.periods * problem.blocks = mul-le-mul_right problem.blocks few in
      within_more (count * (problem.blocks * 10 ^ 22 * most_discount)) most_yield (total count (discounted problem shares d c lag)) (omega arith)
      (within_total (problem.blocks * 10 ^ 22 * most_discount) count (discounted problem shares d c lag) (λ t h. period_within d c lag t (omega arith) hd hc))

  pub discounted_within : (d c lag t : ℕ) → t < problem.periods → d < problem.destinations → c < problem.columns → IsWithinDistance most_yield (discounted problem shares d c lag t)
  discounted_within d c lag t ht hd hc =
      let blocks = limits.few_blocks in
      within_more (problem.blocks * 10 ^ 22 * most_discount) most_yield (discounted problem shares d c lag t) (omega arith) (period_within d c lag t ht hd hc)

  term_value_within : (d c lag : ℕ) (effect : Effect) → d < problem.destinations → c < problem.columns → IsWithinDistance most_yield (term_value problem shares d effect c lag)
  term_value_within d c lag Value hd hc = yield_within d c lag problem.periods (omega arith) hd hc
  term_value_within d c lag (Use q) hd hc = within_none most_yield

  pub part_of_value_within : (k : ℕ) → k < length problem.terms → IsWithinDistance most_yield (part_of_value problem shares k)
  part_of_value_within k h =
      let term = limits.terms k h in
      term_value_within (term_at problem k).destination (term_at problem k).column (term_at problem k).lag (term_at problem k).effect term.destination term.column

  pub value_within : (count : ℕ) → count ≤ length problem.terms → IsWithinDistance (2 ^ 10 * most_yield) (total count (part_of_value problem shares))
  value_within count few =
      let terms = limits.few_terms in
      within_more (count * most_yield) (2 ^ 10 * most_yield) (total count (part_of_value problem shares)) (omega arith)
      (within_total most_yield count (part_of_value problem shares) (λ k h. part_of_value_within k (omega arith)))
