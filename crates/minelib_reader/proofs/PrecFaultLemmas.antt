-- The reading of a precedence file fails by the fault of the least line that breaks a check, and only where one does.
-- Its idea: what a line that was read names is what `first_number` and `second_number` take from its fields, so that the state
-- behind it is the one that the next line is checked against.
use Rattle.std.proofs.Common.{◌≡◌, ℕ, zero, suc, ◌+◌, ◌<◌, ◌≤◌, eqb, leb, ltb, List, [], ◌∷◌, ◌++◌, length, take, Some, None, Result, Ok, Err, refl, sym, ap, subst, ◌∙◌, arith, inl, inr, ◌&&◌}
use Rattle.std.proofs.lemmas.Bool.{eqb-true, leb-true, ltb-true, and_parts}
use Rattle.std.specs.List.{slice_get}
use Rattle.faults.specs.declared.fault.Fault.{Fault}
use Rattle.faults.specs.declared.refusal.Refusal.TheVariants.{OverLimit, NotWhole, IdOutOfPlace, WrongFieldCount}
use Rattle.minelib_reader.specs.Checks.{◌>>=◌, ok_if}
use Rattle.std.specs.Option.{ok_or}
use Rattle.faults.specs.FirstFault.{IsFirstFault}
use Rattle.minelib_reader.specs.Text.{Row, two_and_more}
use Rattle.minelib_reader.specs.Number.{whole_of}
use Rattle.pit_model.specs.Size.{most_pairs}
use Rattle.minelib_reader.specs.Prec.{in_precedence, needs_from, front_of, needs_line, pairs_of_line, pairs_from}
use Rattle.minelib_reader.specs.PrecFault.{number_or_zero, first_number, second_number, from_behind, total_behind, needs_line_fault, fault_behind}
use Rattle.minelib_reader.proofs.CheckLemmas.{passed, stopped, passing, same_value, value_there, test_holds}
use Rattle.std.proofs.lemmas.Option.{same_Some}
use Rattle.minelib_reader.proofs.FirstFaultLemmas.{no_fault, that_fault, none_before_next}
use Rattle.minelib_reader.proofs.PrecLineLemmas.{length_needs}

-- what the checks of a line's front tell, where it passes them
pub record FrontFound (n from total : ℕ) (r : Row) (front : ℕ × ℕ × List (List ℕ)) : Type 0 where
  pub id_field : List ℕ
  pub count_field : List ℕ
  pub fields : r.fields ≡ id_field ∷ count_field ∷ front.2
  pub is_id : whole_of id_field ≡ Some front.0
  pub known : front.0 < n
  pub rising : from ≤ front.0
  pub is_count : whole_of count_field ≡ Some front.1
  pub named : length front.2 ≡ front.1
  pub few : total + front.1 ≤ most_pairs

three : (fs : List (List ℕ)) (p : List ℕ × List ℕ × List (List ℕ)) → two_and_more fs ≡ Some p → fs ≡ p.0 ∷ p.1 ∷ p.2
three [] p e = absurd cc
three (a ∷ []) p e = absurd cc
three (a ∷ b ∷ fs) p e = ap (λ (x : List ℕ × List ℕ × List (List ℕ)). x.0 ∷ x.1 ∷ x.2) (same_Some (a, b, fs) p e)

pub front_found : (n from total : ℕ) (r : Row) (front : ℕ × ℕ × List (List ℕ)) → front_of n from total r ≡ Ok front → FrontFound n from total r front
unfolding front_of
front_found n from total r front e =
    let Parts = List ℕ × List ℕ × List (List ℕ) in
    let limit = λ (p : Parts) (id count : ℕ) (u : Unit {0}). ok_if (leb (total + count) most_pairs) (in_precedence OverLimit r.line) >>= λ few. passing (id, count, p.2) in
    let number = λ (p : Parts) (id count : ℕ). ok_if (eqb (length p.2) count) (in_precedence WrongFieldCount r.line) >>= limit p id count in
    let counted = λ (p : Parts) (id : ℕ) (u : Unit {0}). ok_or (whole_of p.1) (in_precedence NotWhole r.line) >>= number p id in
    let placed = λ (p : Parts) (id : ℕ). ok_if (ltb id n && leb from id) (in_precedence IdOutOfPlace r.line) >>= counted p id in
    let named = λ (p : Parts). ok_or (whole_of p.0) (in_precedence NotWhole r.line) >>= placed p in
    let a = passed (ok_or (two_and_more r.fields) (in_precedence WrongFieldCount r.line)) named front e in
    let b = passed (ok_or (whole_of a.value.0) (in_precedence NotWhole r.line)) (placed a.value) front a.behind in
    let c = passed (ok_if (ltb b.value n && leb from b.value) (in_precedence IdOutOfPlace r.line)) (counted a.value b.value) front b.behind in
    let d = passed (ok_or (whole_of a.value.1) (in_precedence NotWhole r.line)) (number a.value b.value) front c.behind in
    let f = passed (ok_if (eqb (length a.value.2) d.value) (in_precedence WrongFieldCount r.line)) (limit a.value b.value d.value) front d.behind in
    let g = passed (ok_if (leb (total + d.value) most_pairs) (in_precedence OverLimit r.line)) (λ few. passing (b.value, d.value, a.value.2)) front f.behind in
    let place = and_parts (ltb b.value n) (leb from b.value) (test_holds (ltb b.value n && leb from b.value) (in_precedence IdOutOfPlace r.line) c.value c.here) in
    let all : FrontFound n from total r (b.value, d.value, a.value.2) = record {
      id_field = a.value.0;
      count_field = a.value.1;
      fields = three r.fields a.value (value_there (two_and_more r.fields) (in_precedence WrongFieldCount r.line) a.value a.here);
      is_id = value_there (whole_of a.value.0) (in_precedence NotWhole r.line) b.value b.here;
      known = ltb-true b.value n place.0;
      rising = leb-true from b.value place.1;
      is_count = value_there (whole_of a.value.1) (in_precedence NotWhole r.line) d.value d.here;
      named = eqb-true (length a.value.2) d.value (test_holds (eqb (length a.value.2) d.value) (in_precedence WrongFieldCount r.line) f.value f.here);
      few = leb-true (total + d.value) most_pairs (test_holds (leb (total + d.value) most_pairs) (in_precedence OverLimit r.line) g.value g.here);
    } in
    subst (λ (x : ℕ × ℕ × List (List ℕ)). FrontFound n from total r x) (same_value (b.value, d.value, a.value.2) front g.behind) all

-- a line that was read: its front, and its predecessors
pub record LineFound (n from total : ℕ) (r : Row) (line : ℕ × List ℕ) : Type 0 where
  pub count : ℕ
  pub fields : List (List ℕ)
  pub front : FrontFound n from total r (line.0, count, fields)
  pub needs : needs_from n line.0 r.line [] fields ≡ Ok line.1
  pub counted : count ≡ length line.1

pub line_found : (n from total : ℕ) (r : Row) (line : ℕ × List ℕ) → needs_line n from total r ≡ Ok line → LineFound n from total r line
unfolding needs_line
line_found n from total r line e =
    let a = passed (front_of n from total r) (λ front. needs_from n front.0 r.line [] front.2 >>= λ needs. passing (front.0, needs)) line e in
    let b = passed (needs_from n a.value.0 r.line [] a.value.2) (λ needs. passing (a.value.0, needs)) line a.behind in
    let front = front_found n from total r a.value a.here in
    let all : LineFound n from total r (a.value.0, b.value) = record {
      count = a.value.1;
      fields = a.value.2;
      front = front;
      needs = b.here;
      counted = sym front.named ∙ sym (length_needs n a.value.0 r.line [] a.value.2 b.value b.here);
    } in
    subst (λ (x : ℕ × List ℕ). LineFound n from total r x) (same_value (a.value.0, b.value) line b.behind) all

-- so the next line is checked against what this one names
id_is : (n from total : ℕ) (r : Row) (line : ℕ × List ℕ) → LineFound n from total r line → first_number r.fields ≡ line.0
id_is n from total r line f = ap first_number f.front.fields ∙ ap number_or_zero f.front.is_id

count_is : (n from total : ℕ) (r : Row) (line : ℕ × List ℕ) → LineFound n from total r line → second_number r.fields ≡ length line.1
count_is n from total r line f = ap second_number f.front.fields ∙ ap number_or_zero f.front.is_count ∙ f.counted

behind_line : (n from total : ℕ) (r : Row) (rows : List Row) (line : ℕ × List ℕ) → needs_line n from total r ≡ Ok line → (k : ℕ) → fault_behind n from total (r ∷ rows) (suc k) ≡ fault_behind n (line.0 + 1) (total + length line.1) rows k
behind_line n from total r rows line h k =
    let f = line_found n from total r line h in
    ap (λ (i : ℕ). needs_line_fault n (from_behind (i + 1) (take k rows)) (total_behind (total + second_number r.fields) (take k rows)) (slice_get rows k)) (id_is n from total r line f)
    ∙ ap (λ (c : ℕ). needs_line_fault n (from_behind (line.0 + 1) (take k rows)) (total_behind (total + c) (take k rows)) (slice_get rows k)) (count_is n from total r line f)

abbrev with_line : ℕ × List ℕ → List (ℕ × ℕ) → Result (List (ℕ × ℕ)) Fault
with_line line others = passing (pairs_of_line line.0 line.1 ++ others)

pub fails_first : (n from total : ℕ) (rows : List Row) (e : Fault) → pairs_from n from total rows ≡ Err e → IsFirstFault (fault_behind n from total rows) e
unfolding pairs_from
fails_first n from total [] e h = absurd cc
fails_first n from total (r ∷ rows) e h =
    elim (stopped (needs_line n from total r) (λ line. pairs_from n (line.0 + 1) (total + length line.1) rows >>= with_line line) e h) [
      | inl stop ↦ record { place = 0; none_before = λ j lt. absurd (omega (arith, lt)); here = that_fault (needs_line n from total r) e stop }
      | inr go ↦
          let line = go.value in
          elim (stopped (pairs_from n (line.0 + 1) (total + length line.1) rows) (with_line line) e go.behind) [
            | inl stop ↦
                let first = fails_first n (line.0 + 1) (total + length line.1) rows e stop in
                let same = behind_line n from total r rows line go.here in
                record {
                  place = suc first.place;
                  none_before = none_before_next (fault_behind n from total (r ∷ rows)) (fault_behind n (line.0 + 1) (total + length line.1) rows) first.place (no_fault (needs_line n from total r) line go.here) same first.none_before;
                  here = same first.place ∙ first.here;
                }
            | inr end ↦ absurd (let no = end.behind in cc)
          ]
    ]

pub clear_where_read : (n from total : ℕ) (rows : List Row) (pairs : List (ℕ × ℕ)) → pairs_from n from total rows ≡ Ok pairs → (k : ℕ) → fault_behind n from total rows k ≡ None
unfolding pairs_from
clear_where_read n from total [] pairs h zero = refl
clear_where_read n from total [] pairs h (suc k) = refl
clear_where_read n from total (r ∷ rows) pairs h k =
    let a = passed (needs_line n from total r) (λ line. pairs_from n (line.0 + 1) (total + length line.1) rows >>= with_line line) pairs h in
    let b = passed (pairs_from n (a.value.0 + 1) (total + length a.value.1) rows) (with_line a.value) pairs a.behind in
    let behind = clear_where_read n (a.value.0 + 1) (total + length a.value.1) rows b.value b.here in
    none_before_next (fault_behind n from total (r ∷ rows)) (fault_behind n (a.value.0 + 1) (total + length a.value.1) rows) k (no_fault (needs_line n from total r) a.value a.here) (behind_line n from total r rows a.value a.here) (λ j lt. behind j) k (omega arith)
