-- Where the arcs of a mine alone are asked for, each entry is of an arc of the mine.
use Rattle.std.proofs.Common.{◌≡◌, ℕ, zero, suc, ◌<◌, ◌≤◌, refl, arith, List, [], ◌∷◌}
use Rattle.std.proofs.lemmas.List.Elements.{All-cons, All-head, All-tail, All-nil}
use Rattle.pit_model.specs.declared.journal.Entry.{Entry}
use Rattle.pit_model.specs.Mine.{Instance, arcs}
use Rattle.pit_model.specs.Journal.{AreSeated}
use Rattle.tree_lock.specs.Served.{IsUnderSeat, AreUnderSeats}

below : (seat a m : ℕ) → (seat ≡ 0 → a < m) → (0 < seat → a < m) → a < m
below zero a m driver worker = driver refl
below (suc seat) a m driver worker = worker (omega arith)

pub are_seated : (mine : Instance) (workers : ℕ) (es : List Entry) → AreUnderSeats mine workers (arcs mine) es → AreSeated mine workers es
are_seated mine workers [] under = All-nil (λ e. (e.seat ≤ workers) × (e.arc < arcs mine))
are_seated mine workers (e ∷ es) under =
    let first = All-head (IsUnderSeat mine workers (arcs mine)) e es under in
    All-cons (λ e. (e.seat ≤ workers) × (e.arc < arcs mine)) e es (first.0, below e.seat e.arc (arcs mine) first.1 first.2)
    (are_seated mine workers es (All-tail (IsUnderSeat mine workers (arcs mine)) e es under))
