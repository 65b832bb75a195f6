-- A text of prices gives one bound of a problem, or is refused in one way.
use Rattle.std.proofs.Common.{◌≡◌, ◌⊎◌, ℕ, ◌+◌, ◌*◌, ◌/◌, ◌%◌, ◌<◌, ◌≤◌, List, length, get_or, sym, ap, subst, ◌∙◌, arith, ⊎_elim, Ok}
use Rattle.std.specs.Prelude.{ℤ, pos}
use Rattle.std.proofs.lemmas.Bool.{cases_lt}
use Rattle.std.proofs.lemmas.List.{ext_get_or}
use Rattle.std.proofs.lemmas.Nat.{div-add-mod'}
use Rattle.std.proofs.Math.Nat.{div-lt_iff_lt-mul, mod-lt}
use Rattle.minelib_reader.proofs.CheckLemmas.{same_value}
use Rattle.pit_model.specs.Graph.{AreInRange}
use Rattle.schedule_bound.specs.Worth.{HasNodes}
use Rattle.schedule_model.specs.Bound.{IsLagrangianBound, IsRoundedUp, node}
use Rattle.schedule_model.specs.Problem.{Problem}
use Rattle.schedule_model.proofs.Bounded.{some_blocks}
use Rattle.schedule_model.proofs.OneBound.{best_once, bound_is_one, rounded_once}
use Rattle.scheduling.specs.First.{IsFirstWithout}
use Rattle.scheduling.specs.Gains.{AreBest}
use Rattle.scheduling.specs.Limits.{ArePriceNumbers, IsPrice, IsWithinDistance}
use Rattle.scheduling.specs.Nodes.{IsBeyond, IsInValueRange, most_value, step_of}
use Rattle.schedule_texts.specs.ScheduleText.{prices_in}
use Rattle.schedule_runs.specs.OneAnswer.{BlamesATextFor, IsSameRefusal}
use Rattle.schedule_runs.specs.Refusals.{RefusesPriceText}
use Rattle.schedule_runs.specs.Verdicts.{IsBoundOf}
use Rattle.schedule_runs.specs.declared.refused.Refused.{Refused}
use Rattle.schedule_runs.specs.declared.refused.Refused.TheVariants as refusals
use Rattle.schedule_runs.proofs.OneProblem.{fault_once, first_once, read_has_no_fault}

-- ---- the bound

pub bound_once : (problem : Problem) (text : List ℕ) (x y : ℤ) → AreInRange problem.pairs problem.blocks → IsBoundOf problem text x → IsBoundOf problem text y → x ≡ y
bound_once problem text x y in_range p q =
    let prices = same_value p.prices q.prices (sym p.read ∙ q.read) in
    let a = p.at_prices in
    let b = q.at_prices in
    let is : IsLagrangianBound problem q.prices a.exact = subst (λ (ps : List ℤ). IsLagrangianBound problem ps a.exact) prices a.is in
    let exact = bound_is_one problem q.prices a.exact b.exact in_range is b.is in
    rounded_once b.exact x y (subst (λ z. IsRoundedUp z x) exact a.rounded) b.rounded

-- ---- the values of nodes

gains_once : (problem : Problem) (prices gains other : List ℤ) → AreBest problem prices gains → AreBest problem prices other → gains ≡ other
gains_once problem prices gains other p q = ext_get_or (pos 0) gains other (p.count ∙ sym q.count) (λ i h.
    let count = p.count in
    let inside : i < problem.periods * problem.blocks = omega arith in
    let some = some_blocks problem.blocks problem.periods i inside in
    let b = i % problem.blocks in
    let t = i / problem.blocks in
    let is : t * problem.blocks + b ≡ i = div-add-mod' i problem.blocks in
    let hb = mod-lt i some in
    let ht = (div-lt_iff_lt-mul some).1 inside in
    subst (λ j. get_or gains j (pos 0) ≡ get_or other j (pos 0)) is
    (best_once problem prices b t (get_or gains (node problem b t) (pos 0)) (get_or other (node problem b t) (pos 0)) (p.best b t hb ht) (q.best b t hb ht)))

not_beyond : (gains : List ℤ) (blocks i : ℕ) → IsBeyond gains blocks i → IsInValueRange gains blocks i → ⊥
not_beyond gains blocks i out inside =
    out.beyond (subst (IsWithinDistance most_value) (rounded_once (step_of gains blocks i) inside.rounded out.rounded inside.rounded_is out.rounded_is) inside.within)

beyond_once : (gains : List ℤ) (blocks i j : ℕ) → IsBeyond gains blocks i → IsBeyond gains blocks j → i ≡ j
beyond_once gains blocks i j p q = ⊎_elim
    (λ (l : i < j). absurd (not_beyond gains blocks i p (q.before i l)))
    (λ (m : j ≤ i). ⊎_elim (λ (l : j < i). absurd (not_beyond gains blocks j q (p.before j l))) (λ (n : i ≤ j). let e : i ≡ j = omega arith in e) (cases_lt j i))
    (cases_lt i j)

is_price : (problem : Problem) (prices : List ℤ) (i : ℕ) → ArePriceNumbers problem prices → i < length prices → IsPrice (get_or prices i (pos 0))
is_price problem prices i are h = record { least = are.least i h; most = are.most i h }

nodes_not_beyond : (problem : Problem) (prices gains : List ℤ) (i : ℕ) → HasNodes problem prices → AreBest problem prices gains → IsBeyond gains problem.blocks i → ⊥
nodes_not_beyond problem prices gains i nodes best out =
    let at = nodes.1 in
    let same = gains_once problem prices gains at.gains best at.best in
    let here : IsBeyond at.gains problem.blocks i = subst (λ (gs : List ℤ). IsBeyond gs problem.blocks i) same out in
    not_beyond at.gains problem.blocks i here (at.within i here.node_in)

-- ---- the refusals

pub bound_is_not_refused : (problem : Problem) (text : List ℕ) (bound : ℤ) (e : Refused) → BlamesATextFor e → IsBoundOf problem text bound → RefusesPriceText problem text e → ⊥
bound_is_not_refused problem text bound refusals.NoMemory blames p a = blames
bound_is_not_refused problem text bound (refusals.Prices f) blames p a = read_has_no_fault (prices_in problem.limits problem.periods text) p.prices f p.read blames a
bound_is_not_refused problem text bound (refusals.PriceOutOfRange i) blames p a =
    let prices = same_value p.prices a.0 (sym p.read ∙ a.1) in
    a.2.1.broken (is_price problem a.0 i (subst (ArePriceNumbers problem) prices p.at_prices.prices_are) a.2.0)
bound_is_not_refused problem text bound (refusals.ValueBeyond i) blames p a =
    let prices = same_value p.prices a.0 (sym p.read ∙ a.1) in
    nodes_not_beyond problem a.0 a.2.1.0 i (subst (HasNodes problem) prices p.at_prices.nodes) a.2.1.1 a.2.1.2
bound_is_not_refused problem text bound e blames p a = absurd a.2

pub bound_is_refused_once : (problem : Problem) (text : List ℕ) (e f : Refused) → BlamesATextFor e → BlamesATextFor f → RefusesPriceText problem text e → RefusesPriceText problem text f → IsSameRefusal e f
bound_is_refused_once problem text refusals.NoMemory f x y a b = absurd x
bound_is_refused_once problem text e refusals.NoMemory x y a b = absurd y
bound_is_refused_once problem text (refusals.Prices f) (refusals.Prices g) x y a b = ap (λ z. refusals.Prices z) (fault_once (prices_in problem.limits problem.periods text) f g x y a b)
bound_is_refused_once problem text (refusals.Prices f) e x y a b = absurd (read_has_no_fault (prices_in problem.limits problem.periods text) b.0 f b.1 x a)
bound_is_refused_once problem text e (refusals.Prices g) x y a b = absurd (read_has_no_fault (prices_in problem.limits problem.periods text) a.0 g a.1 y b)
bound_is_refused_once problem text (refusals.PriceOutOfRange i) (refusals.PriceOutOfRange j) x y a b =
    let prices = same_value a.0 b.0 (sym a.1 ∙ b.1) in
    ap (λ z. refusals.PriceOutOfRange z)
    (first_once (λ k. IsPrice (get_or b.0 k (pos 0))) i j (subst (λ (ps : List ℤ). IsFirstWithout (λ k. IsPrice (get_or ps k (pos 0))) i) prices a.2.1) b.2.1)
bound_is_refused_once problem text (refusals.PriceOutOfRange i) (refusals.ValueBeyond j) x y a b =
    let prices = same_value b.0 a.0 (sym b.1 ∙ a.1) in
    absurd (a.2.1.broken (is_price problem a.0 i (subst (ArePriceNumbers problem) prices b.2.0) a.2.0))
bound_is_refused_once problem text (refusals.ValueBeyond i) (refusals.PriceOutOfRange j) x y a b =
    let prices = same_value a.0 b.0 (sym a.1 ∙ b.1) in
    absurd (b.2.1.broken (is_price problem b.0 j (subst (ArePriceNumbers problem) prices a.2.0) b.2.0))
bound_is_refused_once problem text (refusals.ValueBeyond i) (refusals.ValueBeyond j) x y a b =
    let prices = same_value a.0 b.0 (sym a.1 ∙ b.1) in
    let best = subst (λ (ps : List ℤ). AreBest problem ps a.2.1.0) prices a.2.1.1 in
    let gains = gains_once problem b.0 a.2.1.0 b.2.1.0 best b.2.1.1 in
    ap (λ z. refusals.ValueBeyond z) (beyond_once b.2.1.0 problem.blocks i j (subst (λ (gs : List ℤ). IsBeyond gs problem.blocks i) gains a.2.1.2) b.2.1.2)
bound_is_refused_once problem text (refusals.PriceOutOfRange i) e x y a b = absurd b.2
bound_is_refused_once problem text (refusals.ValueBeyond i) e x y a b = absurd b.2
bound_is_refused_once problem text e f x y a b = absurd a.2
