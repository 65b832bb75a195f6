-- A text spells one list of shares, of which one verdict is true, or is refused in one way.
use Rattle.std.proofs.Common.{◌≡◌, ◌⊎◌, ℕ, zero, suc, ◌+◌, ◌-◌, ◌*◌, ◌<◌, ◌≤◌, List, length, get_or, refl, sym, ap, subst, ◌∙◌, arith, ⊎_elim, Ok, Bool, true, false}
use Rattle.std.specs.Prelude.{ℤ, pos, ◌==◌, ◌≤ℤ◌}
use Rattle.std.proofs.lemmas.Bool.{cases_lt}
use Rattle.std.proofs.lemmas.Int.{ints}
use Rattle.std.proofs.lemmas.List.{ext_get_or}
use Rattle.minelib_reader.proofs.CheckLemmas.{same_value}
use Rattle.pit_model.specs.Graph.{first_of, second_of}
use Rattle.pit_model.specs.Sum.{total, when}
use Rattle.pit_model.proofs.Sums.{total-not_negative}
use Rattle.schedule_model.specs.Bound.{IsRoundedUp}
use Rattle.schedule_model.proofs.Bounded.{node_below, total-upto}
use Rattle.schedule_model.proofs.OneBound.{rounded_once}
use Rattle.schedule_model.specs.Problem.{Problem, capacity}
use Rattle.schedule_model.specs.Schedule.{IsSchedule, mined, mined_in_first, schedule_value, share, usage, whole_block}
use Rattle.scheduling.specs.Checked.{IsWithinLimit, RefusesShares}
use Rattle.scheduling.specs.First.{IsFirstWithout}
use Rattle.scheduling.specs.Order.{AreMinedOnceBy, IsInOrder, IsMinedOnceBy, IsPairInOrderBy}
use Rattle.scheduling.specs.declared.schedule_error.ScheduleError.TheVariants as errors
use Rattle.schedule_texts.specs.ScheduleText.{shares_in}
use Rattle.schedule_runs.specs.OneAnswer.{BlamesATextFor, IsSameRefusal}
use Rattle.schedule_runs.specs.Refusals.{RefusesSchedule, StaysWhole}
use Rattle.schedule_runs.specs.SharesRead.{AreListed, AreSums, IsLawfulShare, IsListedShare, IsShareOf, SpellsShares, no_share, place_of, share_in, sum_at}
use Rattle.schedule_runs.specs.Verdicts.{IsRoundedDown, IsWholeVerdict, Says}
use Rattle.schedule_runs.specs.declared.refused.Refused.{Refused}
use Rattle.schedule_runs.specs.declared.refused.Refused.TheVariants as refusals
use Rattle.schedule_runs.specs.declared.shares.Share.{Share}
use Rattle.schedule_runs.specs.declared.verdict.Verdict.{Verdict}
use Rattle.schedule_runs.specs.declared.verdict.Verdict.TheVariants.{Schedule, MinedTwice, BeforeNeeded, OverLimit}
use Rattle.schedule_runs.proofs.OneProblem.{fault_once, first_once, read_has_no_fault}

-- ---- the shares

share_of : ℕ → ℕ → ℕ → ℕ → Share
share_of block period destination amount = record { block = block; period = period; destination = destination; amount = amount }

share_once : (numbers : List ℤ) (j : ℕ) (x y : Share) → IsListedShare numbers j x → IsListedShare numbers j y → x ≡ y
unfolding share_of
share_once numbers j x y p q =
    let a = p.block in let b = q.block in
    let c = p.period in let d = q.period in
    let e = p.destination in let f = q.destination in
    let g = p.amount in let h = q.amount in
    let block : x.block ≡ y.block = cc in
    let period : x.period ≡ y.period = cc in
    let destination : x.destination ≡ y.destination = cc in
    let amount : x.amount ≡ y.amount = cc in
    ap (λ v. share_of v x.period x.destination x.amount) block ∙ ap (λ v. share_of y.block v x.destination x.amount) period ∙ ap (λ v. share_of y.block y.period v x.amount) destination
    ∙ ap (share_of y.block y.period y.destination) amount

listed_once : (problem : Problem) (numbers : List ℤ) (xs ys : List Share) → AreListed problem numbers xs → AreListed problem numbers ys → xs ≡ ys
listed_once problem numbers xs ys p q =
    let m = p.count in
    let n = q.count in
    let count : length xs ≡ length ys = omega arith in
    ext_get_or no_share xs ys count (λ j h. share_once numbers j (share_in xs j) (share_in ys j) (p.each j h) (q.each j (omega arith)))

sums_once : (problem : Problem) (listed : List Share) (count : ℕ) (xs ys : List ℕ) → AreSums problem listed count xs → AreSums problem listed count ys → xs ≡ ys
sums_once problem listed count xs ys p q =
    let size = p.size in
    let size_too = q.size in
    ext_get_or 0 xs ys (p.size ∙ sym q.size) (λ i h.
    let one = p.sums i h in
    let other = q.sums i (omega arith) in
    omega (arith, ints))

pub shares_once : (text : List ℕ) (problem : Problem) (xs ys : List ℕ) → SpellsShares text problem xs → SpellsShares text problem ys → xs ≡ ys
shares_once text problem xs ys p q =
    let numbers = same_value p.numbers q.numbers (sym p.read ∙ q.read) in
    let listed = listed_once problem q.numbers p.listed q.listed (subst (λ (ns : List ℤ). AreListed problem ns p.listed) numbers p.are_listed) q.are_listed in
    sums_once problem q.listed (length q.listed) xs ys (subst (λ (ls : List Share). AreSums problem ls (length ls) xs) listed p.are_sums) q.are_sums

when_some : (b : Bool) (n : ℕ) → pos 0 ≤ℤ when b (pos n)
when_some true n = omega (arith, ints)
when_some false n = omega (arith, ints)

stays_whole : (problem : Problem) (listed : List Share) (shares : List ℕ) (j : ℕ) → AreSums problem listed (length listed) shares → j < length listed
    → place_of problem (share_in listed j) < length shares → StaysWhole problem listed j
stays_whole problem listed shares j are inside at =
    let place = place_of problem (share_in listed j) in
    let less = total-upto (j + 1) (length listed) (λ i. when (place_of problem (share_in listed i) == place) (pos (share_in listed i).amount))
    (λ i. when_some (place_of problem (share_in listed i) == place) (share_in listed i).amount) (omega arith) in
    let sum = are.sums place at in
    let most = are.most place at in
    omega (arith, ints)

place_inside : (problem : Problem) (s : Share) → IsShareOf problem s → place_of problem s < problem.periods * problem.blocks * problem.destinations
place_inside problem s is =
    let node = node_below problem.blocks problem.periods s.block s.period is.block is.period in
    node_below problem.destinations (problem.periods * problem.blocks) s.destination (s.period * problem.blocks + s.block) is.destination node

lawful_at : (problem : Problem) (numbers : List ℤ) (listed : List Share) (j : ℕ) → AreListed problem numbers listed → 4 * j + 3 < length numbers → IsLawfulShare problem numbers j
lawful_at problem numbers listed j are inside =
    let count = are.count in
    let here : j < length listed = omega arith in
    record { share = share_in listed j; listed = are.each j here; lawful = are.lawful j here }

pub shares_are_not_refused : (text : List ℕ) (problem : Problem) (shares : List ℕ) (e : Refused) → BlamesATextFor e → SpellsShares text problem shares → RefusesSchedule problem text e → ⊥
shares_are_not_refused text problem shares refusals.NoMemory blames p a = blames
shares_are_not_refused text problem shares (refusals.Schedule f) blames p a = read_has_no_fault (shares_in problem.blocks problem.periods problem.destinations text) p.numbers f p.read blames a
shares_are_not_refused text problem shares (refusals.NoShare j) blames p a =
    let numbers = same_value p.numbers a.0 (sym p.read ∙ a.1) in
    a.2.1.broken (lawful_at problem a.0 p.listed j (subst (λ (ns : List ℤ). AreListed problem ns p.listed) numbers p.are_listed) a.2.0)
shares_are_not_refused text problem shares (refusals.ShareAbove j) blames p a =
    let numbers = same_value p.numbers a.0 (sym p.read ∙ a.1) in
    let here = subst (λ (ns : List ℤ). AreListed problem ns p.listed) numbers p.are_listed in
    let listed = listed_once problem a.0 p.listed a.2.0 here a.2.1 in
    let sums = subst (λ (ls : List Share). AreSums problem ls (length ls) shares) listed p.are_sums in
    let size = sums.size in
    let place = place_inside problem (share_in a.2.0 j) (a.2.1.lawful j a.2.2.0) in
    a.2.2.1.broken (stays_whole problem a.2.0 shares j sums a.2.2.0 (omega arith))
shares_are_not_refused text problem shares e blames p a = absurd a.2

pub shares_are_refused_once : (text : List ℕ) (problem : Problem) (e f : Refused) → BlamesATextFor e → BlamesATextFor f → RefusesSchedule problem text e → RefusesSchedule problem text f → IsSameRefusal e f
shares_are_refused_once text problem refusals.NoMemory f x y a b = absurd x
shares_are_refused_once text problem e refusals.NoMemory x y a b = absurd y
shares_are_refused_once text problem (refusals.Schedule f) (refusals.Schedule g) x y a b = ap (λ z. refusals.Schedule z) (fault_once (shares_in problem.blocks problem.periods problem.destinations text) f g x y a b)
shares_are_refused_once text problem (refusals.Schedule f) e x y a b = absurd (read_has_no_fault (shares_in problem.blocks problem.periods problem.destinations text) b.0 f b.1 x a)
shares_are_refused_once text problem e (refusals.Schedule g) x y a b = absurd (read_has_no_fault (shares_in problem.blocks problem.periods problem.destinations text) a.0 g a.1 y b)
shares_are_refused_once text problem (refusals.NoShare j) (refusals.NoShare k) x y a b =
    let numbers = same_value a.0 b.0 (sym a.1 ∙ b.1) in
    ap (λ z. refusals.NoShare z) (first_once (IsLawfulShare problem b.0) j k (subst (λ (ns : List ℤ). IsFirstWithout (IsLawfulShare problem ns) j) numbers a.2.1) b.2.1)
shares_are_refused_once text problem (refusals.NoShare j) (refusals.ShareAbove k) x y a b =
    let numbers = same_value b.0 a.0 (sym b.1 ∙ a.1) in
    absurd (a.2.1.broken (lawful_at problem a.0 b.2.0 j (subst (λ (ns : List ℤ). AreListed problem ns b.2.0) numbers b.2.1) a.2.0))
shares_are_refused_once text problem (refusals.ShareAbove j) (refusals.NoShare k) x y a b =
    let numbers = same_value a.0 b.0 (sym a.1 ∙ b.1) in
    absurd (b.2.1.broken (lawful_at problem b.0 a.2.0 k (subst (λ (ns : List ℤ). AreListed problem ns a.2.0) numbers a.2.1) b.2.0))
shares_are_refused_once text problem (refusals.ShareAbove j) (refusals.ShareAbove k) x y a b =
    let numbers = same_value a.0 b.0 (sym a.1 ∙ b.1) in
    let listed = listed_once problem b.0 a.2.0 b.2.0 (subst (λ (ns : List ℤ). AreListed problem ns a.2.0) numbers a.2.1) b.2.1 in
    ap (λ z. refusals.ShareAbove z) (first_once (StaysWhole problem b.2.0) j k (subst (λ (ls : List Share). IsFirstWithout (StaysWhole problem ls) j) listed a.2.2.1) b.2.2.1)
shares_are_refused_once text problem (refusals.NoShare j) e x y a b = absurd b.2
shares_are_refused_once text problem (refusals.ShareAbove j) e x y a b = absurd b.2
shares_are_refused_once text problem e f x y a b = absurd a.2

-- ---- the verdict

mined_some : (problem : Problem) (shares : List ℕ) (b t : ℕ) → pos 0 ≤ℤ mined problem shares b t
mined_some problem shares b t = total-not_negative problem.destinations (λ d. share problem shares b t d) (λ d h. let x = get_or shares ((t * problem.blocks + b) * problem.destinations + d) 0 in omega (arith, ints))

module _ (problem : Problem) (shares : List ℕ) where
  -- what is not mined twice by the end is not mined twice by an earlier period
  once_by : (b t : ℕ) → t < problem.periods → mined_in_first problem shares b problem.periods ≤ℤ pos whole_block → IsMinedOnceBy problem shares t b
  once_by b t h most =
      let less = total-upto (suc t) problem.periods (λ s. mined problem shares b s) (λ s. mined_some problem shares b s) (omega arith) in
      omega (arith, ints)

  in_order_not_twice : (b t : ℕ) → IsInOrder problem shares → RefusesShares problem shares (errors.MinedTwice b t) → ⊥
  in_order_not_twice b t is a = a.3.broken (once_by b t a.1 (is.once b a.0))

  in_order_not_before : (b n t : ℕ) → IsInOrder problem shares → RefusesShares problem shares (errors.BeforeNeeded b n t) → ⊥
  in_order_not_before b n t is a = a.7.broken (is.in_order t a.4 a.0 a.1)

  twice_once : (b t c s : ℕ) → RefusesShares problem shares (errors.MinedTwice b t) → RefusesShares problem shares (errors.MinedTwice c s) → (t ≡ s) × (b ≡ c)
  twice_once b t c s x y = ⊎_elim
      (λ (l : t < s). absurd (x.3.broken (y.2.once t l b x.0)))
      (λ (m : s ≤ t). ⊎_elim
      (λ (l : s < t). absurd (y.3.broken (x.2.once s l c y.0)))
      (λ (n : t ≤ s). let e : t ≡ s = omega arith in (e, first_once (IsMinedOnceBy problem shares s) b c (subst (λ u. IsFirstWithout (IsMinedOnceBy problem shares u) b) e x.3) y.3))
      (cases_lt s t))
      (cases_lt t s)

  twice_or_before : (b t c n s : ℕ) → RefusesShares problem shares (errors.MinedTwice b t) → RefusesShares problem shares (errors.BeforeNeeded c n s) → ⊥
  twice_or_before b t c n s x y = ⊎_elim
      (λ (l : t < s). x.3.broken (y.5.once t l b x.0))
      (λ (m : s ≤ t). ⊎_elim
      (λ (l : s < t). y.7.broken (x.2.in_order s l y.0 y.1))
      (λ (k : t ≤ s). let e : s ≡ t = omega arith in x.3.broken (subst (λ u. AreMinedOnceBy problem shares u) e y.6 b x.0))
      (cases_lt s t))
      (cases_lt t s)

  before_once : (b n t c o s : ℕ) → RefusesShares problem shares (errors.BeforeNeeded b n t) → RefusesShares problem shares (errors.BeforeNeeded c o s) → (t ≡ s) × (b ≡ c) × (n ≡ o)
  before_once b n t c o s x y = ⊎_elim
      (λ (l : t < s). absurd (x.7.broken (y.5.in_order t l x.0 x.1)))
      (λ (m : s ≤ t). ⊎_elim
      (λ (l : s < t). absurd (y.7.broken (x.5.in_order s l y.0 y.1)))
      (λ (h : t ≤ s).
      let e : t ≡ s = omega arith in
      let k = first_once (IsPairInOrderBy problem shares s) x.0 y.0 (subst (λ u. IsFirstWithout (IsPairInOrderBy problem shares u) x.0) e x.7) y.7 in
      (e, sym x.2 ∙ ap (first_of problem.pairs) k ∙ y.2, sym x.3 ∙ ap (second_of problem.pairs) k ∙ y.3))
      (cases_lt s t))
      (cases_lt t s)

  over_once : (r s q t : ℕ) (used other : ℤ) → RefusesShares problem shares (errors.OverLimit r s used) → RefusesShares problem shares (errors.OverLimit q t other) → (r ≡ q) × (s ≡ t)
  over_once r s q t used other x y = ⊎_elim
      (λ (l : r < q). absurd (x.5.broken (y.4 r s l x.1)))
      (λ (m : q ≤ r). ⊎_elim
      (λ (l : q < r). absurd (y.5.broken (x.4 q t l y.1)))
      (λ (h : r ≤ q). let e : r ≡ q = omega arith in (e, first_once (IsWithinLimit problem shares q) s t (subst (λ u. IsFirstWithout (IsWithinLimit problem shares u) s) e x.5) y.5))
      (cases_lt q r))
      (cases_lt r q)

  ordered : IsSchedule problem shares → IsInOrder problem shares
  ordered is = record { once = is.once; in_order = λ t h k l. is.in_order k t l h }

  down_once : (x v w : ℤ) → IsRoundedDown x v → IsRoundedDown x w → v ≡ w
  down_once x v w p q =
      let a = p.least in
      let b = p.most in
      let c = q.least in
      let d = q.most in
      omega (arith, ints)

  whole_once : (v w : Bool) → IsWholeVerdict problem shares v → IsWholeVerdict problem shares w → v ≡ w
  whole_once true true p q = refl
  whole_once true false p q = absurd (q.no refl (p.yes refl))
  whole_once false true p q = absurd (p.no refl (q.yes refl))
  whole_once false false p q = refl

  pub verdict_once : (v w : Verdict) → Says problem shares v → Says problem shares w → v ≡ w
  verdict_once (Schedule x v) (Schedule y w) a b =
      ap (λ z. Schedule z v) (down_once (schedule_value problem shares) x y a.1 b.1) ∙ ap (Schedule y) (whole_once v w a.2 b.2)
  verdict_once (Schedule x v) (MinedTwice b t) p q = absurd (in_order_not_twice b t (ordered p.0) q)
  verdict_once (Schedule x v) (BeforeNeeded b n t) p q = absurd (in_order_not_before b n t (ordered p.0) q)
  verdict_once (Schedule x v) (OverLimit r s used most) p q = absurd (q.0.5.broken (p.0.within r s q.0.0 q.0.1))
  verdict_once (MinedTwice b t) (Schedule x v) p q = absurd (in_order_not_twice b t (ordered q.0) p)
  verdict_once (MinedTwice b t) (MinedTwice c s) p q = let e = twice_once b t c s p q in ap (λ z. MinedTwice z t) e.1 ∙ ap (MinedTwice c) e.0
  verdict_once (MinedTwice b t) (BeforeNeeded c n s) p q = absurd (twice_or_before b t c n s p q)
  verdict_once (MinedTwice b t) (OverLimit r s used most) p q = absurd (in_order_not_twice b t q.0.3 p)
  verdict_once (BeforeNeeded b n t) (Schedule x v) p q = absurd (in_order_not_before b n t (ordered q.0) p)
  verdict_once (BeforeNeeded b n t) (MinedTwice c s) p q = absurd (twice_or_before c s b n t q p)
  verdict_once (BeforeNeeded b n t) (BeforeNeeded c o s) p q =
      let e = before_once b n t c o s p q in ap (λ z. BeforeNeeded z n t) e.1 ∙ ap (λ z. BeforeNeeded c z t) e.2 ∙ ap (BeforeNeeded c o) e.0
  verdict_once (BeforeNeeded b n t) (OverLimit r s used most) p q = absurd (in_order_not_before b n t q.0.3 p)
  verdict_once (OverLimit r s used most) (Schedule x v) p q = absurd (p.0.5.broken (q.0.within r s p.0.0 p.0.1))
  verdict_once (OverLimit r s used most) (MinedTwice b t) p q = absurd (in_order_not_twice b t p.0.3 q)
  verdict_once (OverLimit r s used most) (BeforeNeeded b n t) p q = absurd (in_order_not_before b n t p.0.3 q)
  verdict_once (OverLimit r s used most) (OverLimit q t other top) x y =
      let e = over_once r s q t (usage problem shares r s) (usage problem shares q t) x.0 y.0 in
      let u : usage problem shares r s ≡ usage problem shares q t = ap (λ z. usage problem shares z s) e.0 ∙ ap (usage problem shares q) e.1 in
      let here = subst (λ z. IsRoundedUp z used) u x.1 in
      let same = rounded_once (usage problem shares q t) used other here y.1 in
      let full : most ≡ top = x.2 ∙ ap (λ z. capacity problem z s) e.0 ∙ ap (capacity problem q) e.1 ∙ sym y.2 in
      ap (λ z. OverLimit z s used most) e.0 ∙ ap (λ z. OverLimit q z used most) e.1 ∙ ap (λ z. OverLimit q t z most) same ∙ ap (OverLimit q t other) full
