-- Where blocks rise and shells lie within one another, halving finds whether a shell has a block, and which is the first.
use Rattle.std.proofs.Common.{◌≡◌, ℕ, zero, suc, ◌+◌, ◌<◌, ◌≤◌, ◌==◌, true, false, cond, refl, sym, ap, ◌∙◌, arith, ⊎_elim, List, [], ◌∷◌, get_or, length, Some, None}
use Rattle.std.specs.List.{find, list_any, AllPairs}
use Rattle.std.specs.List.Sorted.{IsStrictlyIncreasing}
use Rattle.std.specs.Option.{option_map_or}
use Rattle.std.proofs.lemmas.Bool.{cases_Bool, cases_eq, cases_lt, eq-eqb, eqb-true, ne_eqb, true≢false}
use Rattle.std.proofs.lemmas.List.{get_or_default}
use Rattle.std.proofs.lemmas.List.Elements.{All-from_get_or}
use Rattle.std.proofs.lemmas.List.Folds.{Any-from_list_any, list_any_at, list_any_none}
use Rattle.std.proofs.lemmas.List.Kept.{AllPairs-from_increasing}
use Rattle.pit_model.specs.declared.shell.Shell.{Shell}
use Rattle.pit_model.specs.Shells.{IsWithin}
use Rattle.pit_model.specs.ShellText.{first_factor, has_block}
use Rattle.report.specs.FirstWith.{AreParted, IsFirstWith}

pub rises : (xs : List ℕ) → IsStrictlyIncreasing xs → (i j : ℕ) → i ≤ j → j < length xs → get_or xs i 0 ≤ get_or xs j 0
rises xs rising i j l m = ⊎_elim
    (λ (e : i ≡ j). let same = ap (λ k. get_or xs k 0) e in omega arith)
    (λ (ne : i ≡ j → ⊥). let less = AllPairs-from_increasing xs rising i j 0 (omega arith) m in omega arith)
    (cases_eq i j)

pub has_it : (xs : List ℕ) (u place : ℕ) → place < length xs → get_or xs place 0 ≡ u → list_any (λ v. v == u) xs ≡ true
has_it xs u place l e = list_any_at (λ v. v == u) xs place 0 l (eq-eqb (get_or xs place 0) u e)

pub lacks_it : (xs : List ℕ) (u place : ℕ) → IsStrictlyIncreasing xs → ((i : ℕ) → i < place → get_or xs i 0 < u) → ((i : ℕ) → place ≤ i → i < length xs → u ≤ get_or xs i 0)
    → (place < length xs → get_or xs place 0 ≡ u → ⊥) → list_any (λ v. v == u) xs ≡ false
lacks_it xs u place rising before after none = list_any_none (λ v. v == u) xs (All-from_get_or (λ v. (v == u) ≡ false) xs 0 (λ i l. ne_eqb (get_or xs i 0) u (λ e. ⊎_elim
    (λ (low : i < place). let less = before i low in absurd (omega arith))
    (λ (high : place ≤ i). ⊎_elim
    (λ (same : i ≡ place). none (omega arith) (sym (ap (λ k. get_or xs k 0) same) ∙ e))
    (λ (ne : i ≡ place → ⊥).
    let least = after place (omega arith) (omega arith) in
    let less = AllPairs-from_increasing xs rising place i 0 (omega arith) l in
    absurd (omega arith))
    (cases_eq i place))
    (cases_lt i place))))

-- a shell within another has no block that the other lacks
kept : (u : ℕ) (inner outer : Shell) → IsWithin inner outer → has_block u inner ≡ true → has_block u outer ≡ true
kept u inner outer within held =
    let some = Any-from_list_any (λ v. v == u) inner.pit.items held in
    let k = some.0 in
    let is : some.1 ≡ u = eqb-true some.1 u some.4 in
    let there = within u (k, some.2, get_or_default inner.pit.items k u some.1 some.2 ∙ some.3 ∙ is) in
    has_it outer.pit.items u there.0 there.1 (sym (get_or_default outer.pit.items there.0 u 0 there.1) ∙ there.2)

-- a shell that has the block: all later ones have it
pub goes_low : (shells : List Shell) (block low high middle : ℕ) (shell : Shell) → AllPairs IsWithin shells → AreParted shells block low high → low ≤ middle → middle < high
    → get_or shells middle shell ≡ shell → has_block block shell ≡ true → AreParted shells block low middle
goes_low shells block low high middle shell nested parted least most is held = record {
  order = least;
  inside = let i = parted.inside in omega arith;
  without = parted.without;
  with = λ i d l m.
      let n = parted.inside in
      let here : get_or shells middle d ≡ shell = get_or_default shells middle d shell (omega arith) ∙ is in
      ⊎_elim
      (λ (e : i ≡ middle). ap (has_block block) (ap (λ k. get_or shells k d) e ∙ here) ∙ held)
      (λ (ne : i ≡ middle → ⊥). kept block (get_or shells middle d) (get_or shells i d) (nested middle i d (omega arith) m) (ap (has_block block) here ∙ held))
      (cases_eq i middle);
}

-- one that lacks it: all earlier ones lack it
pub goes_high : (shells : List Shell) (block low high middle : ℕ) (shell : Shell) → AllPairs IsWithin shells → AreParted shells block low high → low ≤ middle → middle < high
    → get_or shells middle shell ≡ shell → has_block block shell ≡ false → AreParted shells block (middle + 1) high
goes_high shells block low high middle shell nested parted least most is lacks = record {
  order = omega arith;
  inside = parted.inside;
  without = λ i d l.
      let n = parted.inside in
      let here : get_or shells middle d ≡ shell = get_or_default shells middle d shell (omega arith) ∙ is in
      ⊎_elim
      (λ (e : i ≡ middle). ap (has_block block) (ap (λ k. get_or shells k d) e ∙ here) ∙ lacks)
      (λ (ne : i ≡ middle → ⊥). ⊎_elim
      (λ (on : has_block block (get_or shells i d) ≡ true).
      absurd (true≢false (sym (kept block (get_or shells i d) (get_or shells middle d) (nested i middle d (omega arith) (omega arith)) on) ∙ ap (has_block block) here ∙ lacks)))
      (λ (off : has_block block (get_or shells i d) ≡ false). off)
      (cases_Bool (has_block block (get_or shells i d))))
      (cases_eq i middle);
  with = parted.with;
}

-- the first one found so is the first by the definition
find_first : (block : ℕ) (shells : List Shell) (place : ℕ) (shell : Shell) → IsFirstWith shells block place → place < length shells → get_or shells place shell ≡ shell → find (has_block block) shells ≡ Some shell
find_first block [] place shell first l is = absurd (omega arith)
find_first block (s ∷ ss) zero shell first l is =
    ap (λ b. cond b (Some s) (find (has_block block) ss)) (first.with 0 shell (omega arith) l) ∙ ap (λ x. Some x) is
find_first block (s ∷ ss) (suc place) shell first l is =
    ap (λ b. cond b (Some s) (find (has_block block) ss)) (first.without 0 shell (omega arith))
    ∙ find_first block ss place shell (record {
      order = omega arith;
      inside = omega arith;
      without = λ i d m. first.without (suc i) d (omega arith);
      with = λ i d m o. first.with (suc i) d (omega arith) (omega arith);
    }) (omega arith) is

find_none : (block : ℕ) (shells : List Shell) (place : ℕ) → IsFirstWith shells block place → length shells ≤ place → find (has_block block) shells ≡ None
find_none block [] place first l = refl
find_none block (s ∷ ss) zero first l = absurd (omega arith)
find_none block (s ∷ ss) (suc place) first l =
    ap (λ b. cond b (Some s) (find (has_block block) ss)) (first.without 0 s (omega arith))
    ∙ find_none block ss place (record {
      order = omega arith;
      inside = let h = first.inside in omega arith;
      without = λ i d m. first.without (suc i) d (omega arith);
      with = λ i d m o. first.with (suc i) d (omega arith) (omega arith);
    }) (omega arith)

pub factor_first : (block : ℕ) (shells : List Shell) (place : ℕ) (shell : Shell) → IsFirstWith shells block place → place < length shells → get_or shells place shell ≡ shell → shell.factor ≡ first_factor shells block
factor_first block shells place shell first l is = ap (λ o. option_map_or (λ (s : Shell). s.factor) o 0) (sym (find_first block shells place shell first l is))

pub factor_none : (block : ℕ) (shells : List Shell) (place : ℕ) → IsFirstWith shells block place → length shells ≤ place → 0 ≡ first_factor shells block
factor_none block shells place first l = ap (λ o. option_map_or (λ (s : Shell). s.factor) o 0) (sym (find_none block shells place first l))
