-- What is spelled keeps the limits: few pairs, in range, of two blocks each, and none twice.
-- Its idea: ids rise from line to line, so pairs of two lines differ by their block, and those of one line by what it needs.
use Rattle.std.proofs.Common.{◌≡◌, ◌≢◌, ℕ, zero, suc, ◌+◌, ◌<◌, ◌≤◌, List, [], ◌∷◌, ◌++◌, length, get_or, sym, ap, subst, arith, length-append}
use Rattle.std.proofs.lemmas.List.{length-map}
use Rattle.std.proofs.lemmas.List.Elements.{All-nil, All-append, All-head, All-tail, All-map}
use Rattle.std.specs.List.{All}
use Rattle.minelib_reader.specs.Text.{Row}
use Rattle.pit_model.specs.Size.{most_pairs}
use Rattle.minelib_reader.specs.Prec.{pairs_of_line}
use Rattle.minelib_reader.specs.PrecGrammar.{AreDistinct, SpellsLine, SpellsPairs}
use Rattle.minelib_reader.specs.PrecLimits.{ArePrecedences}

-- of two blocks below n, the first at least from
pub record IsGood (n from : ℕ) (x : ℕ × ℕ) : Type 0 where
  pub from_is : from ≤ x.0
  pub below : (x.0 < n) × (x.1 < n)
  pub of_two : x.0 ≢ x.1

distinct-append : {A : Type 0} (xs ys : List A) → AreDistinct xs → AreDistinct ys → All (λ x. All (λ y. y ≢ x) ys) xs → AreDistinct (xs ++ ys)
distinct-append [] ys dx dy apart = dy
distinct-append {A = A} (x ∷ xs) ys dx dy apart = (
  All-append (λ y. y ≢ x) xs ys dx.0 (All-head (λ x'. All (λ y. y ≢ x') ys) x xs apart),
  distinct-append xs ys dx.1 dy (All-tail (λ x'. All (λ y. y ≢ x') ys) x xs apart),
)

distinct-pairs_of : (id : ℕ) (ps : List ℕ) → AreDistinct ps → AreDistinct (pairs_of_line id ps)
distinct-pairs_of id [] d = tt
distinct-pairs_of id (p ∷ ps) d = (
  All-map (λ y. y ≢ (id, p)) (λ q. (id, q)) ps (λ k e lt same. d.0 k e lt (ap (λ (x : ℕ × ℕ). x.1) same)),
  distinct-pairs_of id ps d.1,
)

distinct_at : (xs : List (ℕ × ℕ)) → AreDistinct xs → (k l : ℕ) → k < l → l < length xs → get_or xs k (0, 0) ≡ get_or xs l (0, 0) → ⊥
distinct_at [] d k l lt in-list same = absurd (omega (arith, in-list))
distinct_at (x ∷ xs) d zero zero lt in-list same = absurd (omega (arith, lt))
distinct_at (x ∷ xs) d zero (suc l) lt in-list same = d.0 l (0, 0) (omega (arith, in-list)) (sym same)
distinct_at (x ∷ xs) d (suc k) zero lt in-list same = absurd (omega (arith, lt))
distinct_at (x ∷ xs) d (suc k) (suc l) lt in-list same = distinct_at xs d.1 k l (omega (arith, lt)) (omega (arith, in-list)) same

good_line : (n from total : ℕ) (r : Row) (id : ℕ) (needs : List ℕ) → SpellsLine n from total r id needs → All (IsGood n from) (pairs_of_line id needs)
good_line n from total r id needs s = All-map (IsGood n from) (λ p. (id, p)) needs (λ k d lt. record {
  from_is = s.rising;
  below = (s.known, s.below k d lt);
  of_two = λ same. s.others k d lt (sym same);
})

-- what holds of the pairs of all lines
pub record AllGood (n from total : ℕ) (pairs : List (ℕ × ℕ)) : Type 0 where
  pub few : total + length pairs ≤ most_pairs
  pub good : All (IsGood n from) pairs
  pub distinct : AreDistinct pairs

lower : (n from from' : ℕ) (pairs : List (ℕ × ℕ)) → from ≤ from' → All (IsGood n from') pairs → All (IsGood n from) pairs
lower n from from' pairs le h = λ k d lt. let g = h k d lt in let more = g.from_is in record { from_is = omega (arith, le, more); below = g.below; of_two = g.of_two }

pub all_good : (n from total : ℕ) (rows : List Row) (pairs : List (ℕ × ℕ)) → total ≤ most_pairs → SpellsPairs n from total rows pairs → AllGood n from total pairs
all_good n from total [] pairs le s =
    let none : AllGood n from total [] = record { few = omega (arith, le); good = All-nil (IsGood n from); distinct = tt } in
    subst (λ (x : List (ℕ × ℕ)). AllGood n from total x) (sym s) none
all_good n from total (r ∷ rows) pairs le s =
    let id = s.0 in let needs = s.1 in let behind = s.2 in let line = s.3 in
    let ih = all_good n (id + 1) (total + length needs) rows behind line.few s.5 in
    let rising = line.rising in
    let count = ih.few in
    let pair_with : ℕ → ℕ × ℕ = λ p. (id, p) in
    let size : length (pairs_of_line id needs) ≡ length needs = length-map needs pair_with in
    let apart : All (λ x. All (λ y. y ≢ x) behind) (pairs_of_line id needs) =
    All-map (λ x. All (λ y. y ≢ x) behind) (λ p. (id, p)) needs (λ k d lt j e in-list same.
    let more = (ih.good j e in-list).from_is in
    let first = ap (λ (x : ℕ × ℕ). x.0) same in
    omega (arith, more, first)) in
    let all : AllGood n from total (pairs_of_line id needs ++ behind) = record {
      few = omega (arith, count, length-append (pairs_of_line id needs) behind, size);
      good = All-append (IsGood n from) (pairs_of_line id needs) behind (good_line n from total r id needs line) (lower n from (id + 1) behind (omega (arith, rising)) ih.good);
      distinct = distinct-append (pairs_of_line id needs) behind (distinct-pairs_of id needs line.distinct) ih.distinct apart;
    } in
    subst (λ (x : List (ℕ × ℕ)). AllGood n from total x) (sym s.4) all

pub lawful : (n : ℕ) (rows : List Row) (pairs : List (ℕ × ℕ)) → SpellsPairs n 0 0 rows pairs → ArePrecedences n pairs
lawful n rows pairs s =
    let g = all_good n 0 0 rows pairs (omega arith) s in
    let count = g.few in
    record {
      few = omega (arith, count);
      in_range = λ k lt. (g.good k (0, 0) lt).below;
      apart = distinct_at pairs g.distinct;
      of_two = λ k lt. (g.good k (0, 0) lt).of_two;
    }
