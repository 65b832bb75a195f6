-- A line of the budget, of the count or of an entry that is spelled passes its checks, and one that passes them is spelled.
use Rattle.std.proofs.Common.{◌≡◌, ℕ, ◌^◌, Bool, true, false, cond, eqb, leb, ltb, List, [], ◌∷◌, Option, Some, None, Result, Ok, refl, sym, ap, subst, ◌∙◌, ⊎_elim}
use Rattle.std.specs.Prelude.{codes}
use Rattle.std.specs.Str.{bytes_eq}
use Rattle.std.specs.Option.{ok_or}
use Rattle.std.proofs.lemmas.Bool.{eqb-true, leb-true, ltb-true, le-leb, lt-ltb, cases_Bool}
use Rattle.std.proofs.lemmas.Option.{same_Some, none-some}
use Rattle.std.proofs.lemmas.Slice.Eq.{bytes_eq-Decides}
use Rattle.faults.specs.declared.fault.Fault.{Fault}
use Rattle.faults.specs.declared.refusal.Refusal.TheVariants.{OverLimit, NotWhole, IdOutOfPlace, WrongFieldCount}
use Rattle.faults.specs.declared.source.Source.TheVariants.{Journal}
use Rattle.minelib_reader.specs.Checks.{◌>>=◌, ok_if}
use Rattle.minelib_reader.specs.Text.{Row}
use Rattle.minelib_reader.specs.Number.{whole_of, digits_of}
use Rattle.minelib_reader.proofs.CheckLemmas.{passed, passing, same_value, value_there, test_holds}
use Rattle.pit_model.specs.declared.journal.Entry.{Entry}
use Rattle.pit_model.specs.declared.journal.Verdict.{Verdict}
use Rattle.pit_model.specs.declared.journal.Verdict.TheVariants.{Applied, Stale, Spent}
use Rattle.pit_model.specs.JournalText.{most_seat, verdict_number}
use Rattle.report.specs.HeadLines.{three_of, field_line}
use Rattle.report.specs.JournalLines.{in_journal, wide_field, budget_field, budget_line, entry_count_line, verdict_of, decision_line}
use Rattle.report.specs.JournalGrammar.{SpellsWide, SpellsBudget, SpellsEntry}
use Rattle.report.proofs.HeadRead.{three_fields, reads_field, field_found}

-- ---- numbers of 64 bits, and the budget

reads_wide : (line : ℕ) (field : List ℕ) (n : ℕ) → SpellsWide field n → wide_field line field ≡ Ok n
unfolding wide_field
reads_wide line field n s = rw (s.0, lt-ltb n (2 ^ 64) s.1) refl

wide_found : (line : ℕ) (field : List ℕ) (n : ℕ) → wide_field line field ≡ Ok n → SpellsWide field n
unfolding wide_field
wide_found line field n e =
    let few = λ (m : ℕ). ok_if (ltb m (2 ^ 64)) (in_journal OverLimit line) in
    let a = passed (ok_or (digits_of 20 field) (in_journal NotWhole line)) (λ m. few m >>= λ u. passing m) n e in
    let b = passed (few a.value) (λ u. passing a.value) n a.behind in
    let all : SpellsWide field a.value = (
      value_there (digits_of 20 field) (in_journal NotWhole line) a.value a.here,
      ltb-true a.value (2 ^ 64) (test_holds (ltb a.value (2 ^ 64)) (in_journal OverLimit line) b.value b.here),
    ) in
    subst (SpellsWide field) (same_value a.value n b.behind) all

no_digits : digits_of 20 (codes "none") ≡ None
unfolding digits_of
no_digits = refl

abbrev with_some : ℕ → Result (Option ℕ) Fault
with_some n = Ok (Some n)

abbrev budget_by : Bool → ℕ → List ℕ → Result (Option ℕ) Fault
budget_by is_none line field = cond is_none (Ok None) (wide_field line field >>= with_some)

-- a field of digits is not the word for none
is_no_word : (field : List ℕ) (n : ℕ) → digits_of 20 field ≡ Some n → bytes_eq field (codes "none") ≡ false
is_no_word field n s = ⊎_elim
    (λ (h : bytes_eq field (codes "none") ≡ true). absurd (none-some n (sym no_digits ∙ ap (digits_of 20) (sym ((bytes_eq-Decides field (codes "none")).0 h)) ∙ s)))
    (λ (h : bytes_eq field (codes "none") ≡ false). h)
    (cases_Bool (bytes_eq field (codes "none")))

reads_budget_field : (line : ℕ) (field : List ℕ) (budget : Option ℕ) → SpellsBudget field budget → budget_field line field ≡ Ok budget
unfolding budget_field
reads_budget_field line field None s = ap (λ (v : Bool). budget_by v line field) ((bytes_eq-Decides field (codes "none")).1 s)
reads_budget_field line field (Some n) s =
    let number : (wide_field line field >>= with_some) ≡ Ok (Some n) = rw (reads_wide line field n s) refl in
    ap (λ (v : Bool). budget_by v line field) (is_no_word field n s.0) ∙ number

budget_field_found : (line : ℕ) (field : List ℕ) (budget : Option ℕ) → budget_field line field ≡ Ok budget → SpellsBudget field budget
unfolding budget_field
budget_field_found line field budget e = ⊎_elim
    (λ (h : bytes_eq field (codes "none") ≡ true).
    let is : None ≡ budget = same_value None budget (sym (ap (λ (v : Bool). budget_by v line field) h) ∙ e) in
    subst (SpellsBudget field) is ((bytes_eq-Decides field (codes "none")).0 h))
    (λ (h : bytes_eq field (codes "none") ≡ false).
    let a = passed (wide_field line field) with_some budget (sym (ap (λ (v : Bool). budget_by v line field) h) ∙ e) in
    subst (SpellsBudget field) (same_value (Some a.value) budget a.behind) (wide_found line field a.value a.here))
    (cases_Bool (bytes_eq field (codes "none")))

pub reads_budget : (field : List ℕ) (budget : Option ℕ) (r : Row) → r.fields ≡ codes "BUDGET:" ∷ field ∷ [] → SpellsBudget field budget → budget_line r ≡ Ok budget
unfolding budget_line
reads_budget field budget r is s = rw (reads_field Journal (codes "BUDGET:") field r is) (reads_budget_field r.line field budget s)

pub reads_count : (field : List ℕ) (n : ℕ) (r : Row) → r.fields ≡ codes "ENTRIES:" ∷ field ∷ [] → SpellsWide field n → entry_count_line r ≡ Ok n
unfolding entry_count_line
reads_count field n r is s = rw (reads_field Journal (codes "ENTRIES:") field r is) (reads_wide r.line field n s)

-- what a line of a word and a field tells
pub record BudgetFound (r : Row) (budget : Option ℕ) : Type 0 where
  pub field : List ℕ
  pub fields : r.fields ≡ codes "BUDGET:" ∷ field ∷ []
  pub is_budget : SpellsBudget field budget

pub record CountFound (r : Row) (n : ℕ) : Type 0 where
  pub field : List ℕ
  pub fields : r.fields ≡ codes "ENTRIES:" ∷ field ∷ []
  pub is_count : SpellsWide field n

pub budget_found : (r : Row) (budget : Option ℕ) → budget_line r ≡ Ok budget → BudgetFound r budget
unfolding budget_line
budget_found r budget e =
    let a = passed (field_line Journal (codes "BUDGET:") r) (λ field. budget_field r.line field) budget e in
    record { field = a.value; fields = field_found Journal (codes "BUDGET:") a.value r a.here; is_budget = budget_field_found r.line a.value budget a.behind }

pub count_found : (r : Row) (n : ℕ) → entry_count_line r ≡ Ok n → CountFound r n
unfolding entry_count_line
count_found r n e =
    let a = passed (field_line Journal (codes "ENTRIES:") r) (λ field. wide_field r.line field) n e in
    record { field = a.value; fields = field_found Journal (codes "ENTRIES:") a.value r a.here; is_count = wide_found r.line a.value n a.behind }

-- ---- verdicts and entries

verdict_there : (v : Verdict) → verdict_of (verdict_number v) ≡ Some v
verdict_there Applied = refl
verdict_there Stale = refl
verdict_there Spent = refl

abbrev verdict_by : Bool → Bool → Bool → Option Verdict
verdict_by one two three = cond one (Some Applied) (cond two (Some Stale) (cond three (Some Spent) None))

verdict_is : (n : ℕ) (v : Verdict) → verdict_of n ≡ Some v → n ≡ verdict_number v
verdict_is n v e = ⊎_elim
    (λ (one : eqb n 1 ≡ true). eqb-true n 1 one ∙ ap verdict_number (same_Some Applied v (sym (ap (λ (b : Bool). verdict_by b (eqb n 2) (eqb n 3)) one) ∙ e)))
    (λ (not_one : eqb n 1 ≡ false).
    let rest = sym (ap (λ (b : Bool). verdict_by b (eqb n 2) (eqb n 3)) not_one) ∙ e in
    ⊎_elim
    (λ (two : eqb n 2 ≡ true). eqb-true n 2 two ∙ ap verdict_number (same_Some Stale v (sym (ap (λ (b : Bool). verdict_by false b (eqb n 3)) two) ∙ rest)))
    (λ (not_two : eqb n 2 ≡ false).
    let last = sym (ap (λ (b : Bool). verdict_by false b (eqb n 3)) not_two) ∙ rest in
    ⊎_elim
    (λ (three : eqb n 3 ≡ true). eqb-true n 3 three ∙ ap verdict_number (same_Some Spent v (sym (ap (λ (b : Bool). verdict_by false false b) three) ∙ last)))
    (λ (not_three : eqb n 3 ≡ false). absurd (none-some v (sym (ap (λ (b : Bool). verdict_by false false b) not_three) ∙ last)))
    (cases_Bool (eqb n 3)))
    (cases_Bool (eqb n 2)))
    (cases_Bool (eqb n 1))

pub reads_entry : (m : ℕ) (r : Row) (entry : Entry) → SpellsEntry m r entry → decision_line m r ≡ Ok entry
unfolding decision_line
reads_entry m r entry s =
    rw (s.fields, s.is_seat, le-leb entry.seat most_seat s.seated, s.is_arc, lt-ltb entry.arc m s.known, s.is_verdict, verdict_there entry.verdict) refl

abbrev Three : Type 0
Three = List ℕ × List ℕ × List ℕ

abbrev decision : ℕ → ℕ → Verdict → Entry
decision seat arc verdict = record { seat = seat; arc = arc; verdict = verdict }

pub entry_found : (m : ℕ) (r : Row) (entry : Entry) → decision_line m r ≡ Ok entry → SpellsEntry m r entry
unfolding decision_line
entry_found m r entry e =
    let verdict = λ (seat arc n : ℕ). ok_or (verdict_of n) (in_journal OverLimit r.line) >>= λ v. passing (decision seat arc v) in
    let number = λ (p : Three) (seat arc : ℕ) (u : Unit {0}). ok_or (whole_of p.2) (in_journal NotWhole r.line) >>= verdict seat arc in
    let known = λ (p : Three) (seat arc : ℕ). ok_if (ltb arc m) (in_journal IdOutOfPlace r.line) >>= number p seat arc in
    let arc = λ (p : Three) (seat : ℕ) (u : Unit {0}). ok_or (whole_of p.1) (in_journal NotWhole r.line) >>= known p seat in
    let seated = λ (p : Three) (seat : ℕ). ok_if (leb seat most_seat) (in_journal OverLimit r.line) >>= arc p seat in
    let a = passed (ok_or (three_of r.fields) (in_journal WrongFieldCount r.line)) (λ p. ok_or (whole_of p.0) (in_journal NotWhole r.line) >>= seated p) entry e in
    let b = passed (ok_or (whole_of a.value.0) (in_journal NotWhole r.line)) (seated a.value) entry a.behind in
    let c = passed (ok_if (leb b.value most_seat) (in_journal OverLimit r.line)) (arc a.value b.value) entry b.behind in
    let d = passed (ok_or (whole_of a.value.1) (in_journal NotWhole r.line)) (known a.value b.value) entry c.behind in
    let f = passed (ok_if (ltb d.value m) (in_journal IdOutOfPlace r.line)) (number a.value b.value d.value) entry d.behind in
    let g = passed (ok_or (whole_of a.value.2) (in_journal NotWhole r.line)) (verdict b.value d.value) entry f.behind in
    let h = passed (ok_or (verdict_of g.value) (in_journal OverLimit r.line)) (λ v. passing (decision b.value d.value v)) entry g.behind in
    let is = verdict_is g.value h.value (value_there (verdict_of g.value) (in_journal OverLimit r.line) h.value h.here) in
    let all : SpellsEntry m r (decision b.value d.value h.value) = record {
      seat = a.value.0;
      arc = a.value.1;
      verdict = a.value.2;
      fields = three_fields r.fields a.value (value_there (three_of r.fields) (in_journal WrongFieldCount r.line) a.value a.here);
      is_seat = value_there (whole_of a.value.0) (in_journal NotWhole r.line) b.value b.here;
      seated = leb-true b.value most_seat (test_holds (leb b.value most_seat) (in_journal OverLimit r.line) c.value c.here);
      is_arc = value_there (whole_of a.value.1) (in_journal NotWhole r.line) d.value d.here;
      known = ltb-true d.value m (test_holds (ltb d.value m) (in_journal IdOutOfPlace r.line) f.value f.here);
      is_verdict = value_there (whole_of a.value.2) (in_journal NotWhole r.line) g.value g.here ∙ ap (λ (n : ℕ). Some n) is;
    } in
    subst (SpellsEntry m r) (same_value (decision b.value d.value h.value) entry h.behind) all
