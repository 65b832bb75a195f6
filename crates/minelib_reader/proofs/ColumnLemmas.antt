-- A column block by block, as a loop takes it.
use Rattle.std.proofs.Common.{◌≡◌, ℕ, ℤ, ◌+◌, ◌^◌, ◌<◌, List, [], ◌∷◌, ◌++◌, length, get_or, ap, subst, ◌∙◌, arith, inl, inr, length-append}
use Rattle.std.specs.Prelude.{pos, ◌≤ℤ◌}
use Rattle.std.specs.List.{All}
use Rattle.std.proofs.lemmas.Bool.{cases_lt}
use Rattle.std.proofs.lemmas.List.{get_or_append_left}
use Rattle.std.proofs.Math.Seq.{get_or-append_seam}
use Rattle.std.proofs.lemmas.List.Elements.{All-nil, All-cons, All-append}
use Rattle.minelib_reader.specs.Number.{IsBounded}
use Rattle.minelib_reader.specs.Table.{Table, attribute_in}
use Rattle.minelib_reader.specs.Column.{IsLawfulBelow, IsColumn}

-- the values are those of the blocks before n, and none is negative
pub record IsColumnBelow (t : Table) (k n : ℕ) (values : List ℤ) : Type 0 where
  pub count : length values ≡ n
  pub each : (u : ℕ) → u < n → get_or values u (pos 0) ≡ attribute_in t u k
  pub lawful : IsLawfulBelow t k n
  pub small : All (IsBounded (10 ^ 18)) values

pub starts : (t : Table) (k : ℕ) → IsColumnBelow t k 0 []
starts t k = record { count = omega arith; each = λ u lt. absurd (omega (arith, lt)); lawful = λ u lt. absurd (omega (arith, lt)); small = All-nil (IsBounded (10 ^ 18)) }

pub goes_on : (t : Table) (k n : ℕ) (values : List ℤ) (v : ℤ) → IsColumnBelow t k n values → v ≡ attribute_in t n k → pos 0 ≤ℤ v → IsBounded (10 ^ 18) v → IsColumnBelow t k (n + 1) (values ++ v ∷ [])
goes_on t k n values v so_far is positive small = record {
  count = length-append values (v ∷ []) ∙ ap (λ (i : ℕ). i + 1) so_far.count;
  each = λ u lt. elim (cases_lt u n) [
    | inl below ↦ let inside : u < length values = omega (arith, below, so_far.count) in get_or_append_left values (v ∷ []) (pos 0) u inside ∙ so_far.each u below
    | inr le ↦
        let here : length values ≡ u = omega (arith, lt, le, so_far.count) in
        let block : n ≡ u = omega (arith, lt, le) in
        subst (λ (i : ℕ). get_or (values ++ v ∷ []) i (pos 0) ≡ attribute_in t u k) here (get_or-append_seam values v [] (pos 0) ∙ is ∙ ap (λ (i : ℕ). attribute_in t i k) block)
  ];
  lawful = λ u lt. elim (cases_lt u n) [
    | inl below ↦ so_far.lawful u below
    | inr le ↦ let block : n ≡ u = omega (arith, lt, le) in subst (λ (i : ℕ). pos 0 ≤ℤ attribute_in t i k) block (subst (λ (x : ℤ). pos 0 ≤ℤ x) is positive)
  ];
  small = All-append (IsBounded (10 ^ 18)) values (v ∷ []) so_far.small (All-cons (IsBounded (10 ^ 18)) v [] small (All-nil (IsBounded (10 ^ 18))));
}

pub is_whole : (t : Table) (k n : ℕ) (values : List ℤ) → IsColumnBelow t k n values → n ≡ length t.places → k < t.width → IsColumn t k values
is_whole t k n values so_far all known =
    let whole = subst (λ (m : ℕ). IsColumnBelow t k m values) all so_far in
    record { known = known; count = whole.count; each = whole.each; lawful = whole.lawful; small = whole.small }
