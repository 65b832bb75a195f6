-- The table, phase by phase: a row is what its phase says, and the seats know what the row says.
use Rattle.std.proofs.Common.{ℕ, List, sym, refl, subst, inl, inr, get_or}
use Rattle.atomic_table.specs.Table.{State}
use Rattle.pit_model.specs.declared.journal.Verdict.{Verdict}
use Rattle.pit_model.specs.declared.journal.Verdict.TheVariants.{Applied, Stale, Spent}
use Rattle.proposals.specs.declared.verdict.Reply.{Reply}
use Rattle.proposals.specs.declared.seat_state.Served.{Served}
use Rattle.proposals.specs.declared.seat_state.SeatState.{SeatState}
use Rattle.proposals.specs.Ledger.{code, Phase, idle, asks, claims, gave, took, SmallAt, word_at, cell_word, asked_at, answered_at, collected_at, claimed_at, asked, collected, served_of, nothing_served, Boarded}
use Rattle.proposals.specs.Law.{IsWordOf, Stands, LedgerStands}
use Rattle.proposals.proofs.Turns.{word_is}
use Rattle.proposals.proofs.Holders.{row_of}

code_is_word : (v : Verdict) → IsWordOf v (code v)
code_is_word Applied = refl
code_is_word Stale = refl
code_is_word Spent = refl

by_phase : (done : List Reply) (p : Phase) → SmallAt p → Stands (word_at p) (asked_at done p) (answered_at done p) (collected_at done p) (claimed_at p)
by_phase done idle small = inl (refl, refl, refl, refl)
by_phase done (gave r) small = inr (inl (r.verdict, done, r, code_is_word r.verdict, refl, refl, refl, refl, inr refl))
by_phase done (took r) small = inr (inl (r.verdict, done, r, code_is_word r.verdict, refl, refl, refl, refl, inl refl))
by_phase done (asks a) small = inr (inr (inl (a, small, refl, refl, refl, refl)))
by_phase done (claims a) small = inr (inr (inr (a, small, refl, refl, refl, refl)))

pub ledger_stands : (n : ℕ) (s : State (Unit {0}) SeatState) → Boarded n s → LedgerStands s
ledger_stands n s b j h v u d q at is there has =
    let f = b.workers j v d at is in
    let w = word_is n s b d.cell f.at f.is in
    let e = row_of n s b h d.cell u q f.at there has f.is in
    let row : Stands (cell_word f.at) (asked f.at) (served_of f.at).answered (collected f.at) (served_of f.at).claimed = by_phase f.at.done f.at.phase (b.small d.cell f.at f.is) in
    subst (λ (x : ℕ). Stands x d.asked (get_or q.served d.cell nothing_served).answered d.collected (get_or q.served d.cell nothing_served).claimed) (sym w)
    (subst (λ (x : Served). Stands (cell_word f.at) d.asked x.answered d.collected x.claimed) (sym e)
    (subst (λ (x : List ℕ). Stands (cell_word f.at) x (served_of f.at).answered d.collected (served_of f.at).claimed) (sym f.asks)
    (subst (λ (x : List Reply). Stands (cell_word f.at) (asked f.at) (served_of f.at).answered x (served_of f.at).claimed) (sym f.takes) row)))
