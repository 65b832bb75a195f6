-- Runs over the same texts end alike: text after text, in their order.
use Rattle.std.proofs.Common.{◌≡◌, ◌⊎◌, ℕ, ◌++◌, List, sym, ap, subst, ◌∙◌, ⊎_elim}
use Rattle.std.specs.Prelude.{ℤ}
use Rattle.pit_model.specs.Graph.{AreInRange}
use Rattle.schedule_model.specs.Problem.{Problem}
use Rattle.schedule_runs.specs.OneAnswer.{BlamesATextFor, BoundIsRefusedOnce, BoundedIsBlameless, BoundsOneWay, CheckAndBoundIsRefusedOnce, CheckIsRefusedOnce, CheckedAndBoundedIsBlameless, CheckedIsBlameless, ChecksAndBoundsOneWay, ChecksOneWay, IsSameRefusal}
use Rattle.schedule_runs.specs.ProblemRead.{SpellsProblem}
use Rattle.schedule_runs.specs.Refusals.{RefusesBoundOf, RefusesPriceText, RefusesProblem, RefusesSchedule, RefusesTexts}
use Rattle.schedule_runs.specs.SharesRead.{SpellsShares}
use Rattle.schedule_runs.specs.Verdicts.{IsBoundOf, Says, bound_text, verdict_text}
use Rattle.schedule_runs.specs.declared.refused.Refused.{Refused}
use Rattle.schedule_runs.specs.declared.verdict.Verdict.{Verdict}
use Rattle.schedule_runs.proofs.OneBound.{bound_is_not_refused, bound_is_refused_once, bound_once}
use Rattle.schedule_runs.proofs.OneProblem.{problem_is_not_refused, problem_is_refused_once, problem_once}
use Rattle.schedule_runs.proofs.OneSchedule.{shares_are_not_refused, shares_are_refused_once, shares_once, verdict_once}

-- ---- what is written

module _ (text precedence : List ℕ) (a b : Problem) (p : SpellsProblem text precedence a) (q : SpellsProblem text precedence b) where
  verdict_too : (schedule xs ys : List ℕ) (v w : Verdict) → SpellsShares schedule a xs → SpellsShares schedule b ys → Says a xs v → Says b ys w → v ≡ w
  verdict_too schedule xs ys v w s t x y =
      let e = problem_once text precedence a b p q in
      let spelled : SpellsShares schedule b xs = subst (λ (z : Problem). SpellsShares schedule z xs) e s in
      let same = shares_once schedule b xs ys spelled t in
      let says : Says b xs v = subst (λ (z : Problem). Says z xs v) e x in
      verdict_once b ys v w (subst (λ (zs : List ℕ). Says b zs v) same says) y

  bound_too : (prices : List ℕ) (x y : ℤ) → IsBoundOf a prices x → IsBoundOf b prices y → x ≡ y
  bound_too prices x y s t =
      let e = problem_once text precedence a b p q in
      let graph = q.graph.graph in
      bound_once b prices x y (subst (λ n. AreInRange b.pairs n) (sym q.is.blocks) graph.in_range) (subst (λ (z : Problem). IsBoundOf z prices x) e s) t

pub checks_one_way : ChecksOneWay
checks_one_way text precedence schedule v w before after other_before other_after x y =
    let same = verdict_too text precedence x.problem y.problem x.spelled y.spelled schedule x.shares y.shares v w x.shares_spelled y.shares_spelled x.says y.says in
    (same, record { text = verdict_text w; wrote = x.written ∙ ap (λ z. before.bytes ++ verdict_text z) same; wrote_too = y.written })

pub checks_and_bounds_one_way : ChecksAndBoundsOneWay
checks_and_bounds_one_way text precedence schedule prices v w before after other_before other_after x y =
    let same = verdict_too text precedence x.problem y.problem x.spelled y.spelled schedule x.shares y.shares v w x.shares_spelled y.shares_spelled x.says y.says in
    let bound = bound_too text precedence x.problem y.problem x.spelled y.spelled prices x.bound y.bound x.bound_is y.bound_is in (
      same,
      record {
        text = verdict_text w ++ bound_text y.bound;
        wrote = x.written ∙ ap (λ z. before.bytes ++ (verdict_text z ++ bound_text x.bound)) same ∙ ap (λ z. before.bytes ++ (verdict_text w ++ bound_text z)) bound;
        wrote_too = y.written;
      },
    )

pub bounds_one_way : BoundsOneWay
bounds_one_way text precedence prices before after other_before other_after x y =
    let bound = bound_too text precedence x.problem y.problem x.spelled y.spelled prices x.bound y.bound x.bound_is y.bound_is in
    record { text = bound_text y.bound; wrote = x.written ∙ ap (λ z. before.bytes ++ bound_text z) bound; wrote_too = y.written }

-- ---- who answers is not refused

module _ (text precedence : List ℕ) (a : Problem) (e : Refused) (blames : BlamesATextFor e) (p : SpellsProblem text precedence a) where
  texts_not_refused : (schedule xs : List ℕ) → SpellsShares schedule a xs → RefusesTexts text precedence schedule e → ⊥
  texts_not_refused schedule xs s refused = ⊎_elim
      (λ (x : RefusesProblem text precedence e). problem_is_not_refused text precedence a e blames p x)
      (λ (x : (problem : Problem) × SpellsProblem text precedence problem × RefusesSchedule problem schedule e).
      let same = problem_once text precedence x.0 a x.1 p in
      shares_are_not_refused schedule a xs e blames s (subst (λ (z : Problem). RefusesSchedule z schedule e) same x.2))
      refused

  prices_not_refused : (prices : List ℕ) (b : Problem) (bound : ℤ) → IsBoundOf a prices bound → SpellsProblem text precedence b → RefusesPriceText b prices e → ⊥
  prices_not_refused prices b bound s q refused =
      bound_is_not_refused a prices bound e blames s (subst (λ (z : Problem). RefusesPriceText z prices e) (problem_once text precedence b a q p) refused)

pub checked_is_blameless : CheckedIsBlameless
checked_is_blameless text precedence schedule v before after e x refused blames = texts_not_refused text precedence x.problem e blames x.spelled schedule x.shares x.shares_spelled refused

pub checked_and_bounded_is_blameless : CheckedAndBoundedIsBlameless
checked_and_bounded_is_blameless text precedence schedule prices v before after e x refused blames = ⊎_elim
    (λ (y : RefusesTexts text precedence schedule e). texts_not_refused text precedence x.problem e blames x.spelled schedule x.shares x.shares_spelled y)
    (λ (y : (problem : Problem) × SpellsProblem text precedence problem × (shares : List ℕ) × SpellsShares schedule problem shares × RefusesPriceText problem prices e).
    prices_not_refused text precedence x.problem e blames x.spelled prices y.0 x.bound x.bound_is y.1 y.4)
    refused

pub bounded_is_blameless : BoundedIsBlameless
bounded_is_blameless text precedence prices before after e x refused blames = ⊎_elim
    (λ (y : RefusesProblem text precedence e). problem_is_not_refused text precedence x.problem e blames x.spelled y)
    (λ (y : (problem : Problem) × SpellsProblem text precedence problem × RefusesPriceText problem prices e). prices_not_refused text precedence x.problem e blames x.spelled prices y.0 x.bound x.bound_is y.1 y.2)
    refused

-- ---- who is refused is refused in one way

module _ (text precedence : List ℕ) (e f : Refused) (blames : BlamesATextFor e) (blames_too : BlamesATextFor f) where
  texts_once : (schedule : List ℕ) → RefusesTexts text precedence schedule e → RefusesTexts text precedence schedule f → IsSameRefusal e f
  texts_once schedule x y = ⊎_elim
      (λ (p : RefusesProblem text precedence e). ⊎_elim
      (λ (q : RefusesProblem text precedence f). problem_is_refused_once text precedence e f blames blames_too p q)
      (λ (q : (problem : Problem) × SpellsProblem text precedence problem × RefusesSchedule problem schedule f). absurd (problem_is_not_refused text precedence q.0 e blames q.1 p))
      y)
      (λ (p : (problem : Problem) × SpellsProblem text precedence problem × RefusesSchedule problem schedule e). ⊎_elim
      (λ (q : RefusesProblem text precedence f). absurd (problem_is_not_refused text precedence p.0 f blames_too p.1 q))
      (λ (q : (problem : Problem) × SpellsProblem text precedence problem × RefusesSchedule problem schedule f).
      shares_are_refused_once schedule q.0 e f blames blames_too (subst (λ (z : Problem). RefusesSchedule z schedule e) (problem_once text precedence p.0 q.0 p.1 q.1) p.2) q.2)
      y)
      x

  prices_once : (prices : List ℕ) (a b : Problem) → SpellsProblem text precedence a → SpellsProblem text precedence b → RefusesPriceText a prices e → RefusesPriceText b prices f → IsSameRefusal e f
  prices_once prices a b p q x y = bound_is_refused_once b prices e f blames blames_too (subst (λ (z : Problem). RefusesPriceText z prices e) (problem_once text precedence a b p q) x) y

  bound_refused_once : (prices : List ℕ) → RefusesBoundOf text precedence prices e → RefusesBoundOf text precedence prices f → IsSameRefusal e f
  bound_refused_once prices x y = ⊎_elim
      (λ (p : RefusesProblem text precedence e). ⊎_elim
      (λ (q : RefusesProblem text precedence f). problem_is_refused_once text precedence e f blames blames_too p q)
      (λ (q : (problem : Problem) × SpellsProblem text precedence problem × RefusesPriceText problem prices f). absurd (problem_is_not_refused text precedence q.0 e blames q.1 p))
      y)
      (λ (p : (problem : Problem) × SpellsProblem text precedence problem × RefusesPriceText problem prices e). ⊎_elim
      (λ (q : RefusesProblem text precedence f). absurd (problem_is_not_refused text precedence p.0 f blames_too p.1 q))
      (λ (q : (problem : Problem) × SpellsProblem text precedence problem × RefusesPriceText problem prices f). prices_once prices p.0 q.0 p.1 q.1 p.2 q.2)
      y)
      x

abbrev RefusesLast : List ℕ → List ℕ → List ℕ → List ℕ → Refused → Type 0
RefusesLast text precedence schedule prices e = (problem : Problem) × SpellsProblem text precedence problem × (shares : List ℕ) × SpellsShares schedule problem shares × RefusesPriceText problem prices e

pub check_is_refused_once : CheckIsRefusedOnce
check_is_refused_once text precedence schedule e f blames blames_too x y = texts_once text precedence e f blames blames_too schedule x y

pub check_and_bound_is_refused_once : CheckAndBoundIsRefusedOnce
check_and_bound_is_refused_once text precedence schedule prices e f blames blames_too x y = ⊎_elim
    (λ (p : RefusesTexts text precedence schedule e). ⊎_elim
    (λ (q : RefusesTexts text precedence schedule f). texts_once text precedence e f blames blames_too schedule p q)
    (λ (q : RefusesLast text precedence schedule prices f). absurd (texts_not_refused text precedence q.0 e blames q.1 schedule q.2 q.3 p))
    y)
    (λ (p : RefusesLast text precedence schedule prices e). ⊎_elim
    (λ (q : RefusesTexts text precedence schedule f). absurd (texts_not_refused text precedence p.0 f blames_too p.1 schedule p.2 p.3 q))
    (λ (q : RefusesLast text precedence schedule prices f). prices_once text precedence e f blames blames_too prices p.0 q.0 p.1 q.1 p.4 q.4)
    y)
    x

pub bound_is_refused_in_one_way : BoundIsRefusedOnce
bound_is_refused_in_one_way text precedence prices e f blames blames_too x y = bound_refused_once text precedence e f blames blames_too prices x y
