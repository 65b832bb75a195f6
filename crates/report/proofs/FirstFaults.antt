-- A reading line by line fails by the fault of the least line that breaks a check, and only where one does.
-- Its idea: a line that passes leads to the state that the next line is checked in, so places shift by one.
use Rattle.std.proofs.Common.{◌≡◌, ℕ, zero, suc, ◌<◌, List, [], ◌∷◌, take, None, Result, Ok, Err, ap, ◌∙◌, arith, inl, inr}
use Rattle.std.specs.List.{slice_get}
use Rattle.faults.specs.declared.fault.Fault.{Fault}
use Rattle.faults.specs.FirstFault.{IsFirstFault}
use Rattle.minelib_reader.specs.Text.{Row}
use Rattle.minelib_reader.proofs.CheckLemmas.{passed, stopped}
use Rattle.minelib_reader.proofs.FirstFaultLemmas.{no_fault, that_fault}
use Rattle.report.specs.LineByLine.{read_from, state_or, state_behind, line_fault, line_fault_after}

module _ {S Y : Type 0} (step : S → Row → Result S Fault) (end : S → Result Y Fault) where
  -- behind a line that passes, the places of the others
  behind : (s t : S) (r : Row) (rows : List Row) (k : ℕ) → step s r ≡ Ok t → line_fault_after step end s (r ∷ rows) (suc k) ≡ line_fault_after step end t rows k
  behind s t r rows k h = ap (λ (x : Result S Fault). line_fault step end (state_behind step (state_or s x) (take k rows)) (slice_get rows k)) h

  before : (s : S) (r : Row) (rows : List Row) (t : S) → step s r ≡ Ok t → (place : ℕ) → ((k : ℕ) → k < place → line_fault_after step end t rows k ≡ None)
      → (k : ℕ) → k < suc place → line_fault_after step end s (r ∷ rows) k ≡ None
  before s r rows t h place none zero l = no_fault (step s r) t h
  before s r rows t h place none (suc k) l = behind s t r rows k h ∙ none k (omega arith)

  pub fails_first : (s : S) (rows : List Row) (e : Fault) → read_from step end s rows ≡ Err e → IsFirstFault (line_fault_after step end s rows) e
  unfolding read_from
  fails_first s [] e h = record { place = 0; none_before = λ k l. absurd (omega (arith, l)); here = that_fault (end s) e h }
  fails_first s (r ∷ rows) e h = elim (stopped (step s r) (λ t. read_from step end t rows) e h) [
    | inl stop ↦ record { place = 0; none_before = λ k l. absurd (omega (arith, l)); here = that_fault (step s r) e stop }
    | inr go ↦
        let later = fails_first go.value rows e go.behind in
        record {
          place = suc later.place;
          none_before = before s r rows go.value go.here later.place later.none_before;
          here = behind s go.value r rows later.place go.here ∙ later.here;
        }
  ]

  pub clear_where_read : (s : S) (rows : List Row) (y : Y) → read_from step end s rows ≡ Ok y → (k : ℕ) → line_fault_after step end s rows k ≡ None
  unfolding read_from
  clear_where_read s [] y h zero = no_fault (end s) y h
  clear_where_read s [] y h (suc k) = no_fault (end s) y h
  clear_where_read s (r ∷ rows) y h zero =
      let a = passed (step s r) (λ t. read_from step end t rows) y h in
      no_fault (step s r) a.value a.here
  clear_where_read s (r ∷ rows) y h (suc k) =
      let a = passed (step s r) (λ t. read_from step end t rows) y h in
      behind s a.value r rows k a.here ∙ clear_where_read a.value rows y a.behind k
