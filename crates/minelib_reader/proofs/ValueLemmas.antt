-- The values of a model are read one a turn: behind each, the values of the blocks behind it are left.
use Rattle.std.proofs.Common.{◌≡◌, ℕ, ℤ, suc, ◌-◌, ◌+◌, ◌≤◌, ◌<◌, List, [], ◌∷◌, ◌++◌, Result, Ok, Err, refl, sym, ap, subst, ◌∙◌, append_assoc, arith}
use Rattle.std.proofs.lemmas.List.{append-nil}
use Rattle.faults.specs.declared.fault.Fault.{Fault}
use Rattle.minelib_reader.specs.Checks.{◌>>=◌}
use Rattle.minelib_reader.specs.Text.{Row}
use Rattle.minelib_reader.specs.Upit.{due, value_line, values_from}
use Rattle.minelib_reader.proofs.Continues.{Continues, behind_check, fails_here, before_change}

abbrev pub ValuesAndRows : Type 0
ValuesAndRows = List ℤ × List Row

abbrev pub behind_values : List ℤ → ValuesAndRows → ValuesAndRows
behind_values read others = (read ++ others.0, others.1)

-- the values of the blocks from i on are left to be read, behind those that were
abbrev pub AreLeft : List ℤ → ℕ → ℕ → ℕ → List Row → Result ValuesAndRows Fault → Type 0
AreLeft read count i left rows whole = Continues (behind_values read) (values_from count i left rows) whole

-- the checks of block i and of those behind it
abbrev onto : ℤ → ValuesAndRows → ValuesAndRows
onto value others = (value ∷ others.0, others.1)

abbrev value_and_others : ℕ → ℕ → ℕ → Row × List Row → Result ValuesAndRows Fault
value_and_others count i left next = value_line i next.0 >>= λ value. values_from count (i + 1) left next.1 >>= λ others. Ok (onto value others)

one_more : (read : List ℤ) (count n i : ℕ) (rows : List Row) (whole : Result ValuesAndRows Fault) → i < n → AreLeft read count i (n - i) rows whole
    → Continues (behind_values read) (due count rows >>= value_and_others count i (n - (i + 1))) whole
unfolding values_from
one_more read count n i rows whole lt c =
    let some : n - i ≡ suc (n - (i + 1)) = omega arith in subst (λ (k : ℕ). Continues (behind_values read) (values_from count i k rows) whole) some c

pub value_read : (read : List ℤ) (count n i : ℕ) (rows : List Row) (next : Row) (rest : List Row) (value : ℤ) (whole : Result ValuesAndRows Fault) → i < n → due count rows ≡ Ok (next, rest) → value_line i next ≡ Ok value
    → AreLeft read count i (n - i) rows whole → AreLeft (read ++ value ∷ []) count (i + 1) (n - (i + 1)) rest whole
value_read read count n i rows next rest value whole lt is_due is_value c =
    let left = n - (i + 1) in
    let line = behind_check (behind_values read) (due count rows) (value_and_others count i left) whole (next, rest) is_due (one_more read count n i rows whole lt c) in
    let others = behind_check (behind_values read) (value_line i next) (λ v. values_from count (i + 1) left rest >>= λ others. Ok (onto v others)) whole value is_value line in
    before_change (behind_values read) (onto value) (behind_values (read ++ value ∷ [])) (values_from count (i + 1) left rest) whole
    (λ x. ap (λ (vs : List ℤ). (vs, x.1)) (sym (append_assoc read (value ∷ []) x.0))) others

pub no_line_due : (fault : Fault) (read : List ℤ) (count n i : ℕ) (rows : List Row) (whole : Result ValuesAndRows Fault) → i < n → AreLeft read count i (n - i) rows whole → due count rows ≡ Err fault → whole ≡ Err fault
no_line_due fault read count n i rows whole lt c stops =
    fails_here (behind_values read) (due count rows) (value_and_others count i (n - (i + 1))) whole fault stops (one_more read count n i rows whole lt c)

pub no_value : (fault : Fault) (read : List ℤ) (count n i : ℕ) (rows : List Row) (next : Row) (rest : List Row) (whole : Result ValuesAndRows Fault) → i < n → due count rows ≡ Ok (next, rest)
    → AreLeft read count i (n - i) rows whole → value_line i next ≡ Err fault → whole ≡ Err fault
no_value fault read count n i rows next rest whole lt is_due c stops =
    let left = n - (i + 1) in
    let line = behind_check (behind_values read) (due count rows) (value_and_others count i left) whole (next, rest) is_due (one_more read count n i rows whole lt c) in
    fails_here (behind_values read) (value_line i next) (λ v. values_from count (i + 1) left rest >>= λ others. Ok (onto v others)) whole fault stops line

pub all_read : (read : List ℤ) (count n i : ℕ) (rows : List Row) (whole : Result ValuesAndRows Fault) → n ≤ i → AreLeft read count i (n - i) rows whole → whole ≡ Ok (read, rows)
unfolding values_from
all_read read count n i rows whole le c =
    let none : n - i ≡ 0 = omega arith in
    let end : Continues (behind_values read) (values_from count i 0 rows) whole = subst (λ (k : ℕ). AreLeft read count i k rows whole) none c in
    end.gives ([], rows) refl ∙ ap (λ (vs : List ℤ). Ok (vs, rows)) (append-nil read)
