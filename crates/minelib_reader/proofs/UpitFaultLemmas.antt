-- The reading of a model fails by the fault of the least line that breaks a check, and only where one does.
-- Its idea: reading goes through the places in order; where it goes on a place is clear, and where it stops is the first fault.
use Rattle.std.proofs.Common.{◌≡◌, ℕ, ℤ, zero, suc, ◌+◌, ◌-◌, List, [], ◌∷◌, Option, Some, None, Result, Ok, Err, refl, sym, ap, subst, ◌∙◌, arith, inl, inr}
use Rattle.std.proofs.lemmas.Bool.{cases_lt, lt-ltb, le-ltb}
use Rattle.std.specs.List.{slice_get}
use Rattle.faults.specs.declared.fault.Fault.{Fault}
use Rattle.faults.specs.declared.refusal.Refusal.TheVariants.{EndsEarly, AfterEnd}
use Rattle.minelib_reader.specs.Checks.{◌>>=◌}
use Rattle.std.specs.Result.{result_err}
use Rattle.faults.specs.FirstFault.{IsFirstFault}
use Rattle.minelib_reader.specs.Text.{Row}
use Rattle.minelib_reader.specs.Upit.{Upit, upit, in_model, due, name_line, type_line, blocks_line, objective_line, value_line, values_from, ended, header_of, upit_of_rows}
use Rattle.minelib_reader.specs.UpitFault.{number_in, place_fault, fault_in_rows}
use Rattle.minelib_reader.proofs.CheckLemmas.{passed, stopped, same_value, passing, failing}
use Rattle.minelib_reader.proofs.FirstFaultLemmas.{no_fault, that_fault, AreClear, clear_none, clear_more}
use Rattle.minelib_reader.proofs.UpitGrammarLemmas.{after_type, after_title, after_blocks, after_kind, after_number, after_objective, HeaderLines, header_lines, all_steps}

abbrev Faults : Type 0
Faults = ℕ → Option Fault

err_is : {A : Type 0} (d e : Fault) → failing {A = A} d ≡ failing e → d ≡ e
err_is d e h = cc

first_at : (f : Faults) (e d : Fault) (k : ℕ) → AreClear f k → f k ≡ Some d → d ≡ e → IsFirstFault f e
first_at f e d k clear here same = record { place = k; none_before = clear; here = here ∙ ap (λ (x : Fault). Some x) same }

-- the rows from place i + 4 on are these
abbrev Follows : Faults → ℕ → ℕ → ℕ → List Row → Type 0
Follows f count n i rows = (j p : ℕ) → p ≡ j + i → f (suc (suc (suc (suc p)))) ≡ place_fault count n (suc (suc (suc (suc p)))) (slice_get rows j)

abbrev place_of : ℕ → ℕ
place_of i = suc (suc (suc (suc i)))

follows_next : (f : Faults) (count n i : ℕ) (r : Row) (rows : List Row) → Follows f count n i (r ∷ rows) → Follows f count n (i + 1) rows
follows_next f count n i r rows h j p e = h (suc j) p (omega (arith, e))

clear_next : (f : Faults) (i : ℕ) → AreClear f (place_of i) → f (place_of i) ≡ None → AreClear f (place_of (i + 1))
clear_next f i clear here j lt = clear_more f (place_of i) clear here j (omega (arith, lt))

due_here : (count n i k : ℕ) → suc k + i ≡ n → place_fault count n (place_of i) None ≡ Some (in_model EndsEarly (count + 1))
due_here count n i k e = rw (lt-ltb (place_of i) (n + 4) (omega (arith, e))) refl

value_here : (f : Faults) (count n i k : ℕ) (r : Row) (rows : List Row) → suc k + i ≡ n → Follows f count n i (r ∷ rows) → f (place_of i) ≡ result_err (value_line i r)
value_here f count n i k r rows e h = h 0 i (omega arith) ∙ rw (lt-ltb i n (omega (arith, e))) refl

zero_and : (i n : ℕ) → 0 + i ≡ n → i ≡ n
zero_and i n e = omega (arith, e)

abbrev with_value : ℤ → List ℤ × List Row → Result (List ℤ × List Row) Fault
with_value v others = Ok (v ∷ others.0, others.1)

values_err : (f : Faults) (count n i k : ℕ) (rows : List Row) (e : Fault) → k + i ≡ n → AreClear f (place_of i) → Follows f count n i rows → values_from count i k rows ≡ Err e → IsFirstFault f e
unfolding values_from
values_err f count n i zero rows e size clear here h = absurd cc
values_err f count n i (suc k) [] e size clear here h = first_at f e (in_model EndsEarly (count + 1)) (place_of i) clear (here 0 i (omega arith) ∙ due_here count n i k size) (err_is (in_model EndsEarly (count + 1)) e h)
values_err f count n i (suc k) (r ∷ rows) e size clear here h =
    let at = value_here f count n i k r rows size here in
    elim (stopped (value_line i r) (λ v. values_from count (i + 1) k rows >>= with_value v) e h) [
      | inl stop ↦ first_at f e e (place_of i) clear (at ∙ that_fault (value_line i r) e stop) refl
      | inr go ↦ elim (stopped (values_from count (i + 1) k rows) (with_value go.value) e go.behind) [
        | inl stop ↦ values_err f count n (i + 1) k rows e (omega (arith, size)) (clear_next f i clear (at ∙ no_fault (value_line i r) go.value go.here)) (follows_next f count n i r rows here) stop
        | inr end ↦ absurd (let no = end.behind in cc)
      ]
    ]

values_ok : (f : Faults) (count n i k : ℕ) (rows : List Row) (x : List ℤ × List Row) → k + i ≡ n → AreClear f (place_of i) → Follows f count n i rows → values_from count i k rows ≡ Ok x
    → AreClear f (place_of n) × Follows f count n n x.1
unfolding values_from
values_ok f count n i zero rows x size clear here h =
    let q = same_value ([], rows) x h in
    subst (λ (m : ℕ). AreClear f (place_of m) × Follows f count n m x.1) (zero_and i n size) (clear, subst (λ (y : List ℤ × List Row). Follows f count n i y.1) q here)
values_ok f count n i (suc k) [] x size clear here h = absurd cc
values_ok f count n i (suc k) (r ∷ rows) x size clear here h =
    let at = value_here f count n i k r rows size here in
    let a = passed (value_line i r) (λ v. values_from count (i + 1) k rows >>= with_value v) x h in
    let b = passed (values_from count (i + 1) k rows) (with_value a.value) x a.behind in
    let q = same_value (a.value ∷ b.value.0, b.value.1) x b.behind in
    let ih = values_ok f count n (i + 1) k rows b.value (omega (arith, size)) (clear_next f i clear (at ∙ no_fault (value_line i r) a.value a.here)) (follows_next f count n i r rows here) b.here in
    (ih.0, subst (λ (y : List ℤ × List Row). Follows f count n n y.1) q ih.1)

-- ---- the header

objective_err : (count : ℕ) (a b c : Row) (rows : List Row) (n : ℕ) (e : Fault) → AreClear (fault_in_rows count (a ∷ b ∷ c ∷ rows)) 3 → (due count rows >>= after_objective n) ≡ Err e → IsFirstFault (fault_in_rows count (a ∷ b ∷ c ∷ rows)) e
objective_err count a b c [] n e clear h =
    let f = fault_in_rows count (a ∷ b ∷ c ∷ []) in
    let here : f 3 ≡ Some (in_model EndsEarly (count + 1)) = rw (lt-ltb 3 (number_in (blocks_line c) + 4) (omega arith)) refl in
    first_at f e (in_model EndsEarly (count + 1)) 3 clear here (err_is (in_model EndsEarly (count + 1)) e h)
objective_err count a b c (d ∷ rows) n e clear h =
    elim (stopped (objective_line d) (λ objective. passing (n, rows)) e h) [
      | inl stop ↦ first_at (fault_in_rows count (a ∷ b ∷ c ∷ d ∷ rows)) e e 3 clear (that_fault (objective_line d) e stop) refl
      | inr end ↦ absurd (let no = end.behind in cc)
    ]

blocks_err : (count : ℕ) (a b : Row) (rows : List Row) (e : Fault) → AreClear (fault_in_rows count (a ∷ b ∷ rows)) 2 → (due count rows >>= after_blocks count) ≡ Err e → IsFirstFault (fault_in_rows count (a ∷ b ∷ rows)) e
blocks_err count a b [] e clear h = first_at (fault_in_rows count (a ∷ b ∷ [])) e (in_model EndsEarly (count + 1)) 2 clear refl (err_is (in_model EndsEarly (count + 1)) e h)
blocks_err count a b (c ∷ rows) e clear h =
    let f = fault_in_rows count (a ∷ b ∷ c ∷ rows) in
    elim (stopped (blocks_line c) (after_number count (c, rows)) e h) [
      | inl stop ↦ first_at f e e 2 clear (that_fault (blocks_line c) e stop) refl
      | inr go ↦ objective_err count a b c rows go.value e (clear_more f 2 clear (no_fault (blocks_line c) go.value go.here)) go.behind
    ]

type_err : (count : ℕ) (a : Row) (rows : List Row) (e : Fault) → AreClear (fault_in_rows count (a ∷ rows)) 1 → (due count rows >>= after_type count) ≡ Err e → IsFirstFault (fault_in_rows count (a ∷ rows)) e
type_err count a [] e clear h = first_at (fault_in_rows count (a ∷ [])) e (in_model EndsEarly (count + 1)) 1 clear refl (err_is (in_model EndsEarly (count + 1)) e h)
type_err count a (b ∷ rows) e clear h =
    let f = fault_in_rows count (a ∷ b ∷ rows) in
    elim (stopped (type_line b) (after_kind count (b, rows)) e h) [
      | inl stop ↦ first_at f e e 1 clear (that_fault (type_line b) e stop) refl
      | inr go ↦ blocks_err count a b rows e (clear_more f 1 clear (no_fault (type_line b) go.value go.here)) go.behind
    ]

header_err : (count : ℕ) (rows : List Row) (e : Fault) → header_of count rows ≡ Err e → IsFirstFault (fault_in_rows count rows) e
unfolding header_of
header_err count [] e h = first_at (fault_in_rows count []) e (in_model EndsEarly (count + 1)) 0 (clear_none (fault_in_rows count [])) refl (err_is (in_model EndsEarly (count + 1)) e h)
header_err count (a ∷ rows) e h =
    let f = fault_in_rows count (a ∷ rows) in
    elim (stopped (name_line a) (after_title count (a, rows)) e h) [
      | inl stop ↦ first_at f e e 0 (clear_none f) (that_fault (name_line a) e stop) refl
      | inr go ↦ type_err count a rows e (clear_more f 0 (clear_none f) (no_fault (name_line a) go.value go.here)) go.behind
    ]

-- behind a header that was read: its places are clear, and the rows behind it follow
abbrev BehindHeader : ℕ → ℕ → List Row → List Row → Type 0
BehindHeader count n rows rest = AreClear (fault_in_rows count rows) 4 × Follows (fault_in_rows count rows) count n 0 rest

behind_header : (count : ℕ) (rows : List Row) (n : ℕ) (rest : List Row) → HeaderLines count rows n rest → BehindHeader count n rows rest
behind_header count rows n rest h =
    let all = h.a ∷ h.b ∷ h.c ∷ h.d ∷ rest in
    let f = fault_in_rows count all in
    let one = clear_more f 0 (clear_none f) (no_fault (name_line h.a) tt h.name) in
    let two = clear_more f 1 one (no_fault (type_line h.b) tt h.kind) in
    let three = clear_more f 2 two (no_fault (blocks_line h.c) n h.blocks) in
    let four = clear_more f 3 three (no_fault (objective_line h.d) tt h.objective) in
    let named : number_in (blocks_line h.c) ≡ n = ap number_in h.blocks in
    let follows : Follows f count n 0 rest = λ j p e.
    let same : p ≡ j = omega (arith, e) in
    ap (λ (m : ℕ). place_fault count m (place_of p) (slice_get rest p)) named ∙ ap (λ (k : ℕ). place_fault count n (place_of p) (slice_get rest k)) same in
    subst (λ (x : List Row). BehindHeader count n x rest) (sym h.are) (four, follows)

-- ---- the whole text

abbrev after_values : ℕ → List ℤ × List Row → Result Upit Fault
after_values n values = ended values.1 >>= λ end. passing (upit n values.0)

ended_err : (f : Faults) (count n : ℕ) (vs : List ℤ) (rows : List Row) (e : Fault) → AreClear f (place_of n) → Follows f count n n rows → after_values n (vs, rows) ≡ Err e → IsFirstFault f e
ended_err f count n vs [] e clear here h = absurd cc
ended_err f count n vs (r ∷ rows) e clear here h =
    first_at f e (in_model AfterEnd r.line) (place_of n) clear (here 0 n (omega arith) ∙ rw (le-ltb n n (omega arith)) refl) (err_is (in_model AfterEnd r.line) e h)

pub fails_first : (count : ℕ) (rows : List Row) (e : Fault) → upit_of_rows count rows ≡ Err e → IsFirstFault (fault_in_rows count rows) e
unfolding upit_of_rows
fails_first count rows e h =
    let f = fault_in_rows count rows in
    elim (stopped (header_of count rows) (λ header. values_from count 0 header.0 header.1 >>= after_values header.0) e h) [
      | inl stop ↦ header_err count rows e stop
      | inr go ↦
          let n = go.value.0 in
          let behind = behind_header count rows n go.value.1 (header_lines count rows n go.value.1 go.here) in
          elim (stopped (values_from count 0 n go.value.1) (after_values n) e go.behind) [
            | inl stop ↦ values_err f count n 0 n go.value.1 e (omega arith) behind.0 behind.1 stop
            | inr last ↦
                let passing = values_ok f count n 0 n go.value.1 last.value (omega arith) behind.0 behind.1 last.here in
                ended_err f count n last.value.0 last.value.1 e passing.0 passing.1 last.behind
          ]
    ]

pub clear_where_read : (count : ℕ) (rows : List Row) (m : Upit) → upit_of_rows count rows ≡ Ok m → (k : ℕ) → fault_in_rows count rows k ≡ None
clear_where_read count rows m h k =
    let f = fault_in_rows count rows in
    let s = all_steps count rows m h in
    let behind = behind_header count rows m.n s.rest (header_lines count rows m.n s.rest s.header) in
    let passing = values_ok f count m.n 0 m.n s.rest (m.values, []) (omega arith) behind.0 behind.1 s.values in
    elim (cases_lt k (place_of m.n)) [
      | inl lt ↦ passing.0 k lt
      | inr le ↦
          let j = k - (m.n + 4) in
          let same : suc (suc (suc (suc (j + m.n)))) ≡ k = omega (arith, le) in
          let past : place_fault count m.n (place_of (j + m.n)) None ≡ None = rw (le-ltb (place_of (j + m.n)) (m.n + 4) (omega arith)) refl in
          subst (λ (x : ℕ). f x ≡ None) same (passing.1 j (j + m.n) refl ∙ past)
    ]
