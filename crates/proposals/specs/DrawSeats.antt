-- What a counter is before a type names it, and what a seat at the counter keeps beside what it knows.
use Rattle.std.specs.Prelude.{◌≡◌, ℕ, Bool, []}
use base.Stored.{Coded, coded×, coded_ℕ, coded_via}
use Rattle.atomic_table.specs.Seated.{TableId, table_id_coded}
use Rattle.atomic_table.specs.declared.shared.Seat.{Seat}
use Rattle.proposals.specs.declared.draw_ledger.DrawLedger.{DrawLedger}
use Rattle.proposals.specs.Drawn.{one_if, past}

-- a table of one word, and how many chunks and seats it is for
pub record NewCounter : Type 0 where
  pub table : TableId
  pub chunks : ℕ
  pub seats : ℕ

abbrev pub new_counter : TableId → ℕ → ℕ → NewCounter
new_counter z c n = record { table = z; chunks = c; seats = n }

abbrev pub new_counter_coded : Coded NewCounter
new_counter_coded = coded_via (coded× table_id_coded (coded× coded_ℕ coded_ℕ)) (λ (k : NewCounter). (k.table, (k.chunks, k.seats))) (λ x y e i. record { table = (e i).0; chunks = (e i).1.0; seats = (e i).1.1 })

pub record IsDrawer (z : TableId) (chunks : ℕ) (ended : Bool) (s : Seat (Unit {0}) DrawLedger) : Type 0 where
  pub table : s.table_id ≡ z
  pub empty : s.me.1 ≡ []
  pub chunks_are : s.me.0.chunks ≡ chunks
  pub one : s.me.0.seats ≡ 1
  pub ended_is : past s.me.0.chunks s.me.0.drawn ≡ one_if ended
