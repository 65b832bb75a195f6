-- The lists of the blocks with a number fix what the numbers fix.
use Rattle.std.proofs.Common.{◌≡◌, ◌==◌, ℕ, ◌+◌, ◌<◌, ◌≤◌, Bool, true, false, List, length, get_or, refl, sym, ap, subst, ◌∙◌, ⊎_elim, arith}
use Rattle.std.proofs.Math.Path.{fun_ext}
use Rattle.std.proofs.lemmas.Bool.{cases_Bool, cases_lt, eqb-true, true≢false}
use Rattle.std.proofs.lemmas.List.{get_or_past}
use Rattle.faults.specs.declared.fault.Fault.{Fault}
use Rattle.faults.specs.declared.refusal.Refusal.{Refusal}
use Rattle.faults.specs.declared.refusal.Refusal.TheVariants.{NoMemory, FixedClash}
use Rattle.pit_model.specs.Graph.{Graph}
use Rattle.pit_model.specs.Mine.{members}
use Rattle.pit_model.specs.Pit.{Fixed}
use Rattle.pit_model.specs.Fixed.{AreFixable, FixedLists, IsClash, fixed_of, is_among}
use Rattle.pit_model.proofs.Members.{members_below, members_each, members_place, members_rise}
use Rattle.mine_graph.specs.FixedBlocks.{RefusesFixed, lists_of}
use Rattle.mine_graph.proofs.Among.{among_at, among_here}
use Rattle.arrays.specs.Fixing.{RefusesFixing, fixed_by}

among_each : (n : ℕ) (test : ℕ → Bool) → ((u : ℕ) → n ≤ u → test u ≡ false) → (u : ℕ) → is_among (members n test) u ≡ test u
among_each n test past u = ⊎_elim
    (λ (on : test u ≡ true).
    let below : u < n = ⊎_elim (λ (l : u < n). l) (λ (l : n ≤ u). absurd (true≢false (sym on ∙ past u l))) (cases_lt u n) in
    let place = members_place n test u below on in
    among_here (members n test) u (place.0, omega arith, place.1, place.2) ∙ sym on)
    (λ (off : test u ≡ false). ⊎_elim
    (λ (h : is_among (members n test) u ≡ true).
    let at = among_at (members n test) u h in
    let each = members_each n test at.0 at.2 in
    absurd (true≢false (sym each.1 ∙ ap test at.3 ∙ off)))
    (λ (h : is_among (members n test) u ≡ false). h ∙ sym off)
    (cases_Bool (is_among (members n test) u)))
    (cases_Bool (test u))

past_one : (numbers : List ℕ) (u : ℕ) → length numbers ≤ u → (get_or numbers u 0 == 1) ≡ false
past_one numbers u l = ap (λ x. x == 1) (get_or_past numbers u 0 l)

past_two : (numbers : List ℕ) (u : ℕ) → length numbers ≤ u → (get_or numbers u 0 == 2) ≡ false
past_two numbers u l = ap (λ x. x == 2) (get_or_past numbers u 0 l)

pub lists_fix : (numbers forced barred : List ℕ) → forced ≡ members (length numbers) (λ u. get_or numbers u 0 == 1) → barred ≡ members (length numbers) (λ u. get_or numbers u 0 == 2)
    → fixed_of (lists_of forced barred) ≡ fixed_by numbers
lists_fix numbers forced barred f b =
    let one : is_among forced ≡ (λ u. get_or numbers u 0 == 1) =
    ap is_among f ∙ fun_ext (among_each (length numbers) (λ u. get_or numbers u 0 == 1) (past_one numbers)) in
    let two : is_among barred ≡ (λ u. get_or numbers u 0 == 2) =
    ap is_among b ∙ fun_ext (among_each (length numbers) (λ u. get_or numbers u 0 == 2) (past_two numbers)) in
    let first : fixed_of (lists_of forced barred) ≡ record { forced = λ u. get_or numbers u 0 == 1; barred = is_among barred } =
    ap (λ (t : ℕ → Bool). let x : Fixed = record { forced = t; barred = is_among barred } in x) one in
    first ∙ ap (λ (t : ℕ → Bool). let x : Fixed = record { forced = λ u. get_or numbers u 0 == 1; barred = t } in x) two

not_both : (x : ℕ) → (x == 1) ≡ true → (x == 2) ≡ true → ⊥
not_both x a b = let p : x ≡ 1 = eqb-true x 1 a in let q : x ≡ 2 = eqb-true x 2 b in omega arith

pub are_fixable : (n : ℕ) (numbers forced barred : List ℕ) → length numbers ≡ n → forced ≡ members (length numbers) (λ u. get_or numbers u 0 == 1) → barred ≡ members (length numbers) (λ u. get_or numbers u 0 == 2)
    → AreFixable n (lists_of forced barred)
are_fixable n numbers forced barred size f b =
    subst (λ m. AreFixable m (lists_of forced barred)) size
    (subst (λ (xs : List ℕ). AreFixable (length numbers) (lists_of xs barred)) (sym f)
    (subst (λ (ys : List ℕ). AreFixable (length numbers) (lists_of (members (length numbers) (λ u. get_or numbers u 0 == 1)) ys)) (sym b)
    (record {
      forced_below = members_below (length numbers) (λ u. get_or numbers u 0 == 1);
      barred_below = members_below (length numbers) (λ u. get_or numbers u 0 == 2);
      forced_rising = λ k m. members_rise (length numbers) (λ u. get_or numbers u 0 == 1) k (k + 1) (omega arith) m;
      barred_rising = λ k m. members_rise (length numbers) (λ u. get_or numbers u 0 == 2) k (k + 1) (omega arith) m;
      apart = λ u h g. not_both (get_or numbers u 0)
          (sym (among_each (length numbers) (λ v. get_or numbers v 0 == 1) (past_one numbers) u) ∙ h)
          (sym (among_each (length numbers) (λ v. get_or numbers v 0 == 2) (past_two numbers) u) ∙ g);
    })))

-- what is refused by the lists is refused by the numbers
pub refuses_as : (graph : Graph) (numbers : List ℕ) (lists : FixedLists) (refusal : Refusal) (fault : Fault) (place : ℕ) → fixed_of lists ≡ fixed_by numbers
    → RefusesFixed graph lists refusal fault → ((block : ℕ) → refusal ≡ FixedClash block → place ≡ block) → (refusal ≡ NoMemory → place ≡ 0) → RefusesFixing graph.pairs numbers refusal place
refuses_as graph numbers lists NoMemory fault place same h is none = none refl
refuses_as graph numbers lists (FixedClash block) fault place same h is none = (is block refl, subst (λ (f : Fixed). IsClash graph.pairs f block) same h.1)
refuses_as graph numbers lists _ fault place same h is none = h
