-- The reading of a file of fixed blocks fails by the fault of the least line that breaks a check, and only where one does.
-- Its idea: the id of a line that was read is the number that its second field writes, so that the next line is checked
-- against it.
use Rattle.std.proofs.Common.{◌≡◌, ℕ, zero, suc, ◌+◌, Bool, List, [], ◌∷◌, take, Result, Ok, Err, None, refl, ap, ◌∙◌, arith, inl, inr}
use Rattle.std.specs.List.{slice_get}
use Rattle.faults.specs.declared.fault.Fault.{Fault}
use Rattle.pit_model.specs.Fixed.{FixedLists}
use Rattle.minelib_reader.specs.Checks.{◌>>=◌}
use Rattle.faults.specs.FirstFault.{IsFirstFault}
use Rattle.minelib_reader.specs.Text.{Row}
use Rattle.minelib_reader.specs.PrecFault.{number_or_zero, second_number}
use Rattle.minelib_reader.specs.Fixed.{fixed_line, fixed_from, with_block}
use Rattle.minelib_reader.specs.FixedFault.{from_behind, fixed_line_fault, fault_behind}
use Rattle.minelib_reader.proofs.CheckLemmas.{passed, stopped, passing}
use Rattle.minelib_reader.proofs.FirstFaultLemmas.{no_fault, that_fault, none_before_next}
use Rattle.minelib_reader.proofs.FixedGrammarLemmas.{line_found}

behind_line : (n from : ℕ) (r : Row) (rows : List Row) (line : Bool × ℕ) → fixed_line n from r ≡ Ok line → (k : ℕ) → fault_behind n from (r ∷ rows) (suc k) ≡ fault_behind n (line.1 + 1) rows k
behind_line n from r rows line h k =
    let f = line_found n from r line h in
    let id_is : second_number r.fields ≡ line.1 = ap second_number f.fields ∙ ap number_or_zero f.is_id in
    ap (λ (id : ℕ). fixed_line_fault n (from_behind (id + 1) (take k rows)) (slice_get rows k)) id_is

abbrev onto : Bool × ℕ → FixedLists → Result FixedLists Fault
onto line others = passing (with_block line.0 line.1 others)

pub fails_first : (n from : ℕ) (rows : List Row) (e : Fault) → fixed_from n from rows ≡ Err e → IsFirstFault (fault_behind n from rows) e
unfolding fixed_from
fails_first n from [] e h = absurd cc
fails_first n from (r ∷ rows) e h =
    elim (stopped (fixed_line n from r) (λ line. fixed_from n (line.1 + 1) rows >>= onto line) e h) [
      | inl stop ↦ record { place = 0; none_before = λ j lt. absurd (omega (arith, lt)); here = that_fault (fixed_line n from r) e stop }
      | inr go ↦
          let line = go.value in
          elim (stopped (fixed_from n (line.1 + 1) rows) (onto line) e go.behind) [
            | inl stop ↦
                let first = fails_first n (line.1 + 1) rows e stop in
                let same = behind_line n from r rows line go.here in
                record {
                  place = suc first.place;
                  none_before = none_before_next (fault_behind n from (r ∷ rows)) (fault_behind n (line.1 + 1) rows) first.place (no_fault (fixed_line n from r) line go.here) same first.none_before;
                  here = same first.place ∙ first.here;
                }
            | inr end ↦ absurd (let no = end.behind in cc)
          ]
    ]

pub clear_where_read : (n from : ℕ) (rows : List Row) (lists : FixedLists) → fixed_from n from rows ≡ Ok lists → (k : ℕ) → fault_behind n from rows k ≡ None
unfolding fixed_from
clear_where_read n from [] lists h zero = refl
clear_where_read n from [] lists h (suc k) = refl
clear_where_read n from (r ∷ rows) lists h k =
    let a = passed (fixed_line n from r) (λ line. fixed_from n (line.1 + 1) rows >>= onto line) lists h in
    let b = passed (fixed_from n (a.value.1 + 1) rows) (onto a.value) lists a.behind in
    let behind = clear_where_read n (a.value.1 + 1) rows b.value b.here in
    none_before_next (fault_behind n from (r ∷ rows)) (fault_behind n (a.value.1 + 1) rows) k (no_fault (fixed_line n from r) a.value a.here) (behind_line n from r rows a.value a.here) (λ j lt. behind j) k (omega arith)
