-- The strong blocks and the flow of a normalised tree without merger arc are a certificate.
use Rattle.std.proofs.Common.{◌≡◌, ℕ, zero, suc, ◌<◌, Bool, true, false, sym, ap, ◌∙◌, subst, arith, ⊎_elim, List, [], ◌∷◌, ◌++◌, get_or, length}
use Rattle.std.specs.Prelude.{ℤ, pos}
use Rattle.std.specs.List.{All}
use Rattle.std.proofs.lemmas.Int.{ints}
use Rattle.std.proofs.lemmas.Bool.{cases_Bool, cases_eq}
use Rattle.std.proofs.lemmas.List.{get_or_append_left, get_or_at, length_push}
use Rattle.pit_model.specs.Mine.{arcs, members}
use Rattle.pit_model.specs.Limits.{Between, IsInstance, most_worth}
use Rattle.pit_model.proofs.Bound.{flows_stay_within_limits}
use Rattle.pit_model.proofs.Members.{members-in, members-out, members_each, members_below}
use Rattle.optimality.specs.Check.{amount, most_amount, AreAscending, IsCandidate}
use Rattle.pit_model.specs.Tree.{MineTree, is_strong, is_merger, IsNormalised}
use Rattle.pit_model.specs.Certificate.{Certifies, IsCertificate}
use Rattle.pit_model.proofs.Simple.{instance_is_simple}
use Rattle.pit_model.proofs.Strong.{no_merger_gives_certificate}

-- a greater number behind numbers that rise
rise_more : (xs : List ℕ) (n : ℕ) → AreAscending xs → ((i : ℕ) → i < length xs → get_or xs i 0 < n) → AreAscending (xs ++ n ∷ [])
rise_more xs n rising below i j lt l =
    let size = length_push xs n in
    let early : (k : ℕ) → k < length xs → get_or (xs ++ n ∷ []) k 0 ≡ get_or xs k 0 = λ k m. get_or_append_left xs (n ∷ []) 0 k m in
    ⊎_elim
    (λ (e : j ≡ length xs).
    let last : get_or (xs ++ n ∷ []) j 0 ≡ n = ap (λ k. get_or (xs ++ n ∷ []) k 0) e ∙ get_or_at xs n [] 0 (length xs) (omega arith) in
    let a = early i (omega arith) in
    let b = below i (omega arith) in
    omega arith)
    (λ (ne : j ≡ length xs → ⊥).
    let a = early i (omega arith) in
    let b = early j (omega arith) in
    let c = rising i j lt (omega arith) in
    omega arith)
    (cases_eq j (length xs))

small : (x : ℤ) → Between (pos 0) x (pos most_worth) → Between (pos 0) x most_amount
small x b = let low = b.0 in let high = b.1 in (omega (arith, ints), omega (arith, ints))

pub is_certificate :
    (t : MineTree) (pit : List ℕ) (flow : List ℤ) → IsInstance t.mine → IsNormalised t.mine t.tree
    → ((k : ℕ) → is_merger t.mine t.tree k ≡ false)
    → pit ≡ members t.mine.blocks (is_strong t.mine t.tree) → flow ≡ t.tree.flows
    → IsCertificate t.mine pit flow
is_certificate t pit flow is good none strong same = record {
  set = is_strong t.mine t.tree;
  listed = strong;
  counted = ap length same ∙ good.flow_count;
  certifies = subst (λ f. Certifies t.mine (is_strong t.mine t.tree) (λ k. get_or f k (pos 0))) (sym same)
      (no_merger_gives_certificate t.mine t.tree (instance_is_simple t.mine is).in_range good (λ k below. none k));
}

-- members rise
members_rise : (n : ℕ) (set : ℕ → Bool) → AreAscending (members n set)
members_rise zero set = λ i j lt l. absurd (omega arith)
members_rise (suc n) set = ⊎_elim
    (λ (on : set n ≡ true). subst AreAscending (sym (members-in n set on)) (rise_more (members n set) n (members_rise n set) (λ i l. (members_each n set i l).0)))
    (λ (off : set n ≡ false). subst AreAscending (sym (members-out n set off)) (members_rise n set))
    (cases_Bool (set n))

-- the flow of a normalised tree is within the limit of an amount
pub is_candidate :
    (t : MineTree) (pit : List ℕ) (flow : List ℤ) → IsInstance t.mine → IsNormalised t.mine t.tree
    → pit ≡ members t.mine.blocks (is_strong t.mine t.tree) → flow ≡ t.tree.flows
    → IsCandidate t.mine.blocks (arcs t.mine) pit flow
is_candidate t pit flow is good strong same = record {
  below = subst (All (λ u. u < t.mine.blocks)) (sym strong) (members_below t.mine.blocks (is_strong t.mine t.tree));
  rising = subst AreAscending (sym strong) (members_rise t.mine.blocks (is_strong t.mine t.tree));
  counted = ap length same ∙ good.flow_count;
  amounts = λ k l.
      let b = (flows_stay_within_limits t.mine t.tree is good).0 k (subst (λ m. k < m) (ap length same ∙ good.flow_count) l) in
      subst (λ (xs : List ℤ). Between (pos 0) (amount xs k) most_amount) (sym same) (small (amount t.tree.flows k) b);
}
