-- Reading lines one after the other, as a loop does, and what a whole reading tells of its first line.
use Rattle.std.proofs.Common.{◌≡◌, List, [], ◌∷◌, Ok, Err, Result, refl, sym, ◌∙◌}
use Rattle.faults.specs.declared.fault.Fault.{Fault}
use Rattle.minelib_reader.specs.Text.{Row}
use Rattle.minelib_reader.proofs.CheckLemmas.{passed}
use Rattle.report.specs.LineByLine.{read_from}

module _ {S Y : Type 0} (step : S → Row → Result S Fault) (end : S → Result Y Fault) where
  -- a line that passes
  pub read_on : (s t : S) (r : Row) (rows : List Row) → step s r ≡ Ok t → read_from step end s (r ∷ rows) ≡ read_from step end t rows
  unfolding read_from
  read_on s t r rows h = rw h refl

  pub read_stops : (s : S) (r : Row) (rows : List Row) (e : Fault) → step s r ≡ Err e → read_from step end s (r ∷ rows) ≡ Err e
  unfolding read_from
  read_stops s r rows e h = rw h refl

  pub read_ends : (s : S) → read_from step end s [] ≡ end s
  unfolding read_from
  read_ends s = refl

  pub read_back : (s : S) (r : Row) (rows : List Row) (y : Y) → read_from step end s (r ∷ rows) ≡ Ok y
      → (t : S) × (step s r ≡ Ok t) × (read_from step end t rows ≡ Ok y)
  unfolding read_from
  read_back s r rows y e = let line = passed (step s r) (λ t. read_from step end t rows) y e in (line.value, line.here, line.behind)

  module _ (s : S) (rows rest : List Row) (all : Result Y Fault) (so_far : read_from step end s rows ≡ all) where
    pub go_on : (r : Row) (t : S) → rows ≡ r ∷ rest → step s r ≡ Ok t → read_from step end t rest ≡ all
    go_on r t are h =
        let one : read_from step end s rows ≡ read_from step end t rest = rw are (read_on s t r rest h) in
        sym one ∙ so_far

    pub stop : (r : Row) (e : Fault) → rows ≡ r ∷ rest → step s r ≡ Err e → all ≡ Err e
    stop r e are h =
        let one : read_from step end s rows ≡ Err e = rw are (read_stops s r rest e h) in
        sym so_far ∙ one

    pub finish : rows ≡ [] → all ≡ end s
    finish none =
        let one : read_from step end s rows ≡ end s = rw none (read_ends s) in
        sym so_far ∙ one
