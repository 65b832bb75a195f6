-- Rows one behind the other, and the pairs that they encode.
use Rattle.std.proofs.Common.{◌≡◌, ℕ, ◌+◌, ◌<◌, ◌≤◌, List, length, get_or, sym, ap, subst, arith, ⊎_elim}
use Rattle.std.proofs.lemmas.Bool.{cases_lt}
use Rattle.std.proofs.lemmas.List.{get_or_past}
use Rattle.pit_model.specs.Graph.{first_of, second_of, AreInRange}
use Rattle.csr.specs.Rows.{pairs_of, IsCsr}
use Rattle.csr.proofs.Begun.{begun_rise, csr_grows, csr_rise, csr_row}
use Rattle.csr.proofs.Spelled.{length-pairs_of, pairs_of-at, row_at-begins, row_at-ends, second_at}
use Rattle.arrays.specs.Encoded.{IsInRow, EncodesPairs}

-- a row ends within the places
pub ends_within : (n m : ℕ) (starts : List ℕ) → IsCsr n m starts → (u : ℕ) → u ≤ n → get_or starts u 0 ≤ m
ends_within n m starts rows u l = let r = csr_rise starts n m rows u n l (omega arith) in let e = rows.last in omega arith

-- a block in whose row a place lies is one that there is
pub row_exists : (n m : ℕ) (starts : List ℕ) → IsCsr n m starts → (u k : ℕ) → IsInRow starts u k → u < n
row_exists n m starts rows u k row = ⊎_elim
    (λ (l : u < n). l)
    (λ (l : n ≤ u).
    let size : length starts ≡ n + 1 = rows.count in
    let past : get_or starts (u + 1) 0 ≡ 0 = get_or_past starts (u + 1) 0 (omega arith) in
    let high : k < get_or starts (u + 1) 0 = row.1 in
    absurd (omega arith))
    (cases_lt u n)

-- a place of the row of u lies in no later row
not_later : (n m : ℕ) (starts : List ℕ) → IsCsr n m starts → (u v k : ℕ) → IsInRow starts u k → IsInRow starts v k → v ≤ u
not_later n m starts rows u v k here there = ⊎_elim
    (λ (later : u < v).
    let exists : v < n = row_exists n m starts rows v k there in
    let between = csr_rise starts n m rows (u + 1) v (omega arith) (omega arith) in
    let high : k < get_or starts (u + 1) 0 = here.1 in
    let low : get_or starts v 0 ≤ k = there.0 in
    absurd (omega arith))
    (λ (l : v ≤ u). l)
    (cases_lt u v)

pub one_row : (n m : ℕ) (starts : List ℕ) → IsCsr n m starts → (u v k : ℕ) → IsInRow starts u k → IsInRow starts v k → u ≡ v
one_row n m starts rows u v k here there =
    let a = not_later n m starts rows u v k here there in
    let b = not_later n m starts rows v u k there here in
    omega arith

pub in_range : (n : ℕ) (starts needs : List ℕ) (pairs : List (ℕ × ℕ)) → IsCsr n (length needs) starts → EncodesPairs starts needs pairs
    → ((k : ℕ) → k < length needs → get_or needs k 0 < n) → AreInRange pairs n
in_range n starts needs pairs rows is below k l =
    let less : k < length needs = let size = is.count in omega arith in (
      row_exists n (length needs) starts rows (first_of pairs k) k (is.block k less),
      subst (λ v. v < n) (sym (is.needed k less)) (below k less),
    )

-- the pairs that rows encode
module _ (n : ℕ) (starts needs : List ℕ) (rows : IsCsr n (length needs) starts) where
  pub spell : EncodesPairs starts needs (pairs_of starts needs)
  spell =
      let size = rows.count in
      let zero_begins = rows.first in
      let rise = begun_rise starts (length needs) (csr_grows starts n (length needs) rows) in
      record {
        count = length-pairs_of starts needs;
        block = λ k l.
            let first = ap (λ (q : ℕ × ℕ). q.0) (pairs_of-at starts needs k l) in
            let below = csr_row starts n (length needs) rows k l in
            subst (λ u. IsInRow starts u k) (sym first) (row_at-begins starts rise k (omega arith) (omega arith), row_at-ends starts rise k (omega arith));
        needed = λ k l. second_at starts needs k l;
      }

  pub rows_in_range : ((k : ℕ) → k < length needs → get_or needs k 0 < n) → AreInRange (pairs_of starts needs) n
  rows_in_range below = in_range n starts needs (pairs_of starts needs) rows spell below
