-- The lines of a section are read one a turn: behind each, the lines behind it are left.
use Rattle.std.proofs.Common.{◌≡◌, ℕ, ℤ, suc, ◌-◌, ◌+◌, ◌≤◌, ◌<◌, List, [], ◌∷◌, ◌++◌, Result, Ok, Err, refl, sym, ap, subst, ◌∙◌, append_assoc, arith}
use Rattle.std.proofs.lemmas.List.{append-nil}
use Rattle.faults.specs.declared.fault.Fault.{Fault}
use Rattle.minelib_reader.specs.Checks.{◌>>=◌}
use Rattle.minelib_reader.specs.Text.{Row}
use Rattle.minelib_reader.proofs.Continues.{Continues, behind_check, fails_here, before_change}
use Rattle.schedule_texts.specs.declared.section.Columns.{Columns}
use Rattle.schedule_texts.specs.declared.word.Word.{Word}
use Rattle.schedule_texts.specs.Section.{due_row, lines_from, section_line}

abbrev pub NumbersAndRows : Type 0
NumbersAndRows = List ℤ × List Row

abbrev pub behind_numbers : List ℤ → NumbersAndRows → NumbersAndRows
behind_numbers read others = (read ++ others.0, others.1)

-- `left` lines are to be read from a place on, after the numbers of those that were
abbrev pub AreLeft : Word → Columns → List ℤ → ℕ → ℕ → ℕ → List Row → Result NumbersAndRows Fault → Type 0
AreLeft word columns read count place left rows whole = Continues (behind_numbers read) (lines_from count word columns place left rows) whole

abbrev onto : List ℤ → NumbersAndRows → NumbersAndRows
onto own others = (own ++ others.0, others.1)

-- the checks of a line and of those behind it
abbrev line_and_others : Word → Columns → ℕ → ℕ → ℕ → Row × List Row → Result NumbersAndRows Fault
line_and_others word columns count place left next = section_line word columns place next.0 >>= λ own. lines_from count word columns (place + 1) left next.1 >>= λ others. Ok (onto own others)

one_more : (word : Word) (columns : Columns) (read : List ℤ) (count n i : ℕ) (rows : List Row) (whole : Result NumbersAndRows Fault) → i < n → AreLeft word columns read count i (n - i) rows whole
    → Continues (behind_numbers read) (due_row count rows >>= line_and_others word columns count i (n - (i + 1))) whole
unfolding lines_from
one_more word columns read count n i rows whole lt c =
    let some : n - i ≡ suc (n - (i + 1)) = omega arith in subst (λ (k : ℕ). Continues (behind_numbers read) (lines_from count word columns i k rows) whole) some c

pub line_read : (word : Word) (columns : Columns) (read : List ℤ) (count n i : ℕ) (rows : List Row) (next : Row) (rest : List Row) (own : List ℤ) (whole : Result NumbersAndRows Fault) → i < n
    → due_row count rows ≡ Ok (next, rest) → section_line word columns i next ≡ Ok own
    → AreLeft word columns read count i (n - i) rows whole → AreLeft word columns (read ++ own) count (i + 1) (n - (i + 1)) rest whole
line_read word columns read count n i rows next rest own whole lt is_due is_own c =
    let left = n - (i + 1) in
    let line = behind_check (behind_numbers read) (due_row count rows) (line_and_others word columns count i left) whole (next, rest) is_due (one_more word columns read count n i rows whole lt c) in
    let others = behind_check (behind_numbers read) (section_line word columns i next) (λ v. lines_from count word columns (i + 1) left rest >>= λ others. Ok (onto v others)) whole own is_own line in
    before_change (behind_numbers read) (onto own) (behind_numbers (read ++ own)) (lines_from count word columns (i + 1) left rest) whole
    (λ x. ap (λ (vs : List ℤ). (vs, x.1)) (sym (append_assoc read own x.0))) others

pub no_line_due : (fault : Fault) (word : Word) (columns : Columns) (read : List ℤ) (count n i : ℕ) (rows : List Row) (whole : Result NumbersAndRows Fault) → i < n
    → AreLeft word columns read count i (n - i) rows whole → due_row count rows ≡ Err fault → whole ≡ Err fault
no_line_due fault word columns read count n i rows whole lt c stops =
    fails_here (behind_numbers read) (due_row count rows) (line_and_others word columns count i (n - (i + 1))) whole fault stops (one_more word columns read count n i rows whole lt c)

pub no_line : (fault : Fault) (word : Word) (columns : Columns) (read : List ℤ) (count n i : ℕ) (rows : List Row) (next : Row) (rest : List Row) (whole : Result NumbersAndRows Fault) → i < n
    → due_row count rows ≡ Ok (next, rest) → AreLeft word columns read count i (n - i) rows whole → section_line word columns i next ≡ Err fault → whole ≡ Err fault
no_line fault word columns read count n i rows next rest whole lt is_due c stops =
    let left = n - (i + 1) in
    let line = behind_check (behind_numbers read) (due_row count rows) (line_and_others word columns count i left) whole (next, rest) is_due (one_more word columns read count n i rows whole lt c) in
    fails_here (behind_numbers read) (section_line word columns i next) (λ v. lines_from count word columns (i + 1) left rest >>= λ others. Ok (onto v others)) whole fault stops line

pub all_read : (word : Word) (columns : Columns) (read : List ℤ) (count n i : ℕ) (rows : List Row) (whole : Result NumbersAndRows Fault) → n ≤ i → AreLeft word columns read count i (n - i) rows whole → whole ≡ Ok (read, rows)
unfolding lines_from
all_read word columns read count n i rows whole le c =
    let none : n - i ≡ 0 = omega arith in
    let end : Continues (behind_numbers read) (lines_from count word columns i 0 rows) whole = subst (λ (k : ℕ). AreLeft word columns read count i k rows whole) none c in
    end.gives ([], rows) refl ∙ ap (λ (vs : List ℤ). Ok (vs, rows)) (append-nil read)
