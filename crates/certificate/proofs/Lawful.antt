-- A certificate that is spelled may be checked: its blocks rise below n, and its amounts are from 0 to 10^30.
use Rattle.std.proofs.Common.{◌≡◌, ℕ, zero, suc, ◌+◌, ◌<◌, ◌≤◌, ◌^◌, List, [], ◌∷◌, get_or, length, ap, ◌∙◌, arith, ⊎_elim}
use Rattle.std.specs.Prelude.{ℤ, pos}
use Rattle.std.specs.List.{All}
use Rattle.std.proofs.lemmas.Int.{ints}
use Rattle.std.proofs.lemmas.Bool.{cases_eq, cases_lt}
use Rattle.std.proofs.lemmas.List.Elements.{All-cons, All-nil}
use Rattle.minelib_reader.specs.Text.{Row}
use Rattle.pit_model.specs.Fixed.{FixedLists}
use Rattle.pit_model.specs.Graph.{Graph}
use Rattle.pit_model.specs.Limits.{Between}
use Rattle.optimality.specs.Check.{amount, most_amount, AreAscending, IsCandidate}
use Rattle.certificate.specs.CertificateLines.{PitAndFlow}
use Rattle.certificate.specs.CertificateGrammar.{SpellsPitBlocks, SpellsFlow, SpellsCertificateRows}

blocks_below : (n from : ℕ) (rows : List Row) (ids : List ℕ) → SpellsPitBlocks n from rows ids → All (λ u. u < n) ids
blocks_below n from [] [] s = All-nil (λ u. u < n)
blocks_below n from [] (id ∷ ids) s = absurd s
blocks_below n from (r ∷ rows) [] s = absurd s
blocks_below n from (r ∷ rows) (id ∷ ids) s = All-cons (λ u. u < n) id ids s.0.known (blocks_below n (id + 1) rows ids s.1)

blocks_from : (n from : ℕ) (rows : List Row) (ids : List ℕ) → SpellsPitBlocks n from rows ids → (i : ℕ) → i < length ids → from ≤ get_or ids i 0
blocks_from n from [] [] s i l = absurd (omega arith)
blocks_from n from [] (id ∷ ids) s i l = absurd s
blocks_from n from (r ∷ rows) [] s i l = absurd s
blocks_from n from (r ∷ rows) (id ∷ ids) s zero l = s.0.rising
blocks_from n from (r ∷ rows) (id ∷ ids) s (suc i) l = let h = blocks_from n (id + 1) rows ids s.1 i (omega arith) in let up = s.0.rising in omega arith

blocks_rise : (n from : ℕ) (rows : List Row) (ids : List ℕ) → SpellsPitBlocks n from rows ids → AreAscending ids
blocks_rise n from [] [] s i j lt l = absurd (omega arith)
blocks_rise n from [] (id ∷ ids) s i j lt l = absurd s
blocks_rise n from (r ∷ rows) [] s i j lt l = absurd s
blocks_rise n from (r ∷ rows) (id ∷ ids) s i zero lt l = absurd (omega arith)
blocks_rise n from (r ∷ rows) (id ∷ ids) s zero (suc j) lt l = let h = blocks_from n (id + 1) rows ids s.1 j (omega arith) in omega arith
blocks_rise n from (r ∷ rows) (id ∷ ids) s (suc i) (suc j) lt l = blocks_rise n (id + 1) rows ids s.1 i j (omega arith) (omega arith)

zero_between : (x : ℤ) → x ≡ pos 0 → Between (pos 0) x most_amount
zero_between x e = (omega (arith, ints), omega (arith, ints))

size_between : (x : ℤ) (n : ℕ) → x ≡ pos n → n ≤ 10 ^ 30 → Between (pos 0) x most_amount
size_between x n e l = (omega (arith, ints), omega (arith, ints))

flow_between : (pairs : List (ℕ × ℕ)) (from : ℕ) (rows : List Row) (flow : List ℤ) → SpellsFlow pairs from rows flow → (k : ℕ) → from ≤ k → Between (pos 0) (amount flow k) most_amount
flow_between pairs from [] flow s k l = zero_between (amount flow k) (s k l)
flow_between pairs from (r ∷ rows) flow s k l = ⊎_elim
    (λ (h : k < s.0). zero_between (amount flow k) (s.2 k l h))
    (λ (h : s.0 ≤ k). ⊎_elim
    (λ (e : k ≡ s.0). size_between (amount flow k) s.1.size (ap (amount flow) e ∙ s.1.is_amount) s.1.within)
    (λ (ne : k ≡ s.0 → ⊥). flow_between pairs (s.0 + 1) rows flow s.3 k (omega arith))
    (cases_eq k s.0))
    (cases_lt k s.0)

pub lawful : (graph : Graph) (lists : FixedLists) (rows : List Row) (c : PitAndFlow) → SpellsCertificateRows graph lists rows c → IsCandidate graph.blocks (length graph.pairs) c.pit c.flow
lawful graph lists rows c s = record {
  below = blocks_below graph.blocks 0 s.pit.blocks c.pit s.pit.spelled;
  rising = blocks_rise graph.blocks 0 s.pit.blocks c.pit s.pit.spelled;
  counted = s.counted;
  amounts = λ k l. flow_between graph.pairs 0 s.amounts c.flow s.flow k (omega arith);
}
