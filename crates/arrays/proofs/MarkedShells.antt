-- The numbers of blocks tell the pits: a block has a number up to that of a factor exactly where the factor's pit holds it.
use Rattle.std.proofs.Common.{◌≡◌, ℕ, ◌<◌, ◌≤◌, true, List, [], ◌∷◌, length, get_or, map, pos, sym, ap, subst, ◌∙◌, arith, ⊎_elim}
use Rattle.std.specs.Prelude.{ℤ}
use Rattle.std.specs.List.{All}
use Rattle.std.proofs.lemmas.Bool.{cases_eq, cases_lt}
use Rattle.std.proofs.lemmas.List.{get_or-map, length-map}
use Rattle.std.proofs.lemmas.List.Kept.{AllPairs-from_increasing}
use Rattle.pit_model.specs.declared.direction.Direction.TheVariants.{Least}
use Rattle.pit_model.specs.declared.shell.Shell.{Shell}
use Rattle.pit_model.specs.Deposit.{Deposit, IsPriced, mine_at}
use Rattle.pit_model.specs.Pit.{IsPit, no_blocks_fixed}
use Rattle.pit_model.specs.Graph.{AreSamePairs, Graph}
use Rattle.pit_model.specs.Mine.{members, worth}
use Rattle.pit_model.specs.Shells.{AreFactors, AreShells, IsShell, factor_of}
use Rattle.pit_model.proofs.Members.{members_each, members_place}
use Rattle.pit_model.proofs.SamePairs.{pit_knows_no_order, turned}
use Rattle.pit_model.proofs.Shells.{shells_nest}
use Rattle.nesting.specs.Prices.{Prices, deposit_of}
use Rattle.arrays.specs.Firsts.{AreFirsts, Holds}
use Rattle.arrays.specs.Nested.{IsMarkedShell, MarkShells}
use Rattle.csr.specs.Rows.{IsCsr}
use Rattle.arrays.specs.Encoded.{PricedRows, EncodesGraph}
use Rattle.arrays.proofs.Marking.{listed_below}
use Rattle.arrays.proofs.Taking.{holds_by}

module _ (deposit : Deposit) (factors firsts : List ℕ) (shells : List Shell) (priced : IsPriced deposit) (are : AreFactors factors)
    (found : AreShells Least deposit factors shells) (numbered : AreFirsts shells deposit.blocks firsts (length shells)) where
  pub many : length shells ≡ length factors
  many = sym (length-map shells (λ (shell : Shell). shell.factor)) ∙ ap (λ (xs : List ℕ). length xs) found.factors_are

  pub factor_at : (k : ℕ) (d : Shell) → k < length shells → (get_or shells k d).factor ≡ factor_of factors k
  factor_at k d l = sym (get_or-map (λ (shell : Shell). shell.factor) shells k d 0 l) ∙ ap (λ (xs : List ℕ). get_or xs k 0) found.factors_are

  rises : (j k : ℕ) → j ≤ k → k < length shells → factor_of factors j ≤ factor_of factors k
  rises j k l inside =
      let size = many in
      ⊎_elim
      (λ (e : j ≡ k). let same = ap (factor_of factors) e in omega arith)
      (λ (ne : j ≡ k → ⊥). let less = AllPairs-from_increasing factors are.rising j k 0 (omega arith) (omega arith) in omega arith)
      (cases_eq j k)

  -- a pit that holds a block has it in its set
  in_set : (k u : ℕ) (d : Shell) (l : k < length shells) → Holds shells k u → (found.each k d l).set u ≡ true
  in_set k u d l holds =
      let is = found.each k d l in
      let listed = holds d in
      let each = members_each deposit.blocks is.set listed.0 (subst (λ (xs : List ℕ). listed.0 < length xs) is.listed listed.1) in
      let same : get_or (members deposit.blocks is.set) listed.0 0 ≡ u = ap (λ (xs : List ℕ). get_or xs listed.0 0) (sym is.listed) ∙ listed.2 in
      sym (ap is.set same) ∙ each.1

  -- and the other way round
  holds_in : (k u : ℕ) (d : Shell) (l : k < length shells) → u < deposit.blocks → (found.each k d l).set u ≡ true → Holds shells k u
  holds_in k u d l below inside =
      let is = found.each k d l in
      let place = members_place deposit.blocks is.set u below inside in
      holds_by shells k u d l (place.0, subst (λ (xs : List ℕ). place.0 < length xs) (sym is.listed) place.1, ap (λ (xs : List ℕ). get_or xs place.0 0) is.listed ∙ place.2)

  up_to : (k u : ℕ) (d : Shell) (l : k < length shells) → u < deposit.blocks → (found.each k d l).set u ≡ true → get_or firsts u 0 ≤ k
  up_to k u d l below inside =
      let holds = holds_in k u d l below inside in
      ⊎_elim
      (λ (first : (get_or firsts u 0 < length shells) × Holds shells (get_or firsts u 0) u × ((j : ℕ) → j < get_or firsts u 0 → Holds shells j u → ⊥)). ⊎_elim
      (λ (later : k < get_or firsts u 0). absurd (first.2 k later holds))
      (λ (le : get_or firsts u 0 ≤ k). le)
      (cases_lt k (get_or firsts u 0)))
      (λ (none : (get_or firsts u 0 ≡ length shells) × ((j : ℕ) → j < length shells → Holds shells j u → ⊥)). absurd (none.1 k l holds))
      (numbered.each u below)

  from_first : (k u : ℕ) (d : Shell) (l : k < length shells) → u < deposit.blocks → get_or firsts u 0 ≤ k → (found.each k d l).set u ≡ true
  from_first k u d l below le = ⊎_elim
      (λ (first : (get_or firsts u 0 < length shells) × Holds shells (get_or firsts u 0) u × ((j : ℕ) → j < get_or firsts u 0 → Holds shells j u → ⊥)).
      let a = found.each (get_or firsts u 0) d first.0 in
      let b = found.each k d l in
      let here = factor_at (get_or firsts u 0) d first.0 in
      let there = factor_at k d l in
      let more = rises (get_or firsts u 0) k le l in
      shells_nest Least deposit (get_or shells (get_or firsts u 0) d).factor (get_or shells k d).factor a.set b.set priced (omega arith) a.is_pit b.is_pit u below
      (in_set (get_or firsts u 0) u d first.0 first.1))
      (λ (none : (get_or firsts u 0 ≡ length shells) × ((j : ℕ) → j < length shells → Holds shells j u → ⊥)). let all = none.0 in absurd (omega arith))
      (numbered.each u below)

  pub marked_shell : (k : ℕ) (d : Shell) → k < length shells → IsMarkedShell deposit (factor_of factors k) k firsts (get_or shells k d).worth
  marked_shell k d l =
      let is = found.each k d l in
      let at = factor_at k d l in
      record {
        set = is.set;
        is_pit = subst (λ f. IsPit Least (mine_at deposit f) no_blocks_fixed is.set) at is.is_pit;
        held = λ u below. (λ inside. up_to k u d l below inside, λ le. from_first k u d l below le);
        worth_is = is.worth_is ∙ ap (λ f. worth (mine_at deposit f) is.set) at;
      }

  -- a block of no pit has the number of factors
  pub none_is_last : (u : ℕ) → u < deposit.blocks → ((k : ℕ) → k < length factors → k < get_or firsts u 0) → get_or firsts u 0 ≡ length factors
  none_is_last u below later =
      let size = many in
      ⊎_elim
      (λ (first : (get_or firsts u 0 < length shells) × Holds shells (get_or firsts u 0) u × ((j : ℕ) → j < get_or firsts u 0 → Holds shells j u → ⊥)).
      let inside = first.0 in
      let own = later (get_or firsts u 0) (omega arith) in
      absurd (omega arith))
      (λ (none : (get_or firsts u 0 ≡ length shells) × ((j : ℕ) → j < length shells → Holds shells j u → ⊥)). none.0 ∙ many)
      (numbered.each u below)

-- the blocks of shells are blocks of the deposit
pub shells_below : (deposit : Deposit) (n : ℕ) (shells : List Shell) → deposit.blocks ≡ n → All (IsShell Least deposit) shells → All (λ (shell : Shell). All (λ u. u < n) shell.pit.items) shells
shells_below deposit n shells same each = subst (λ m. All (λ (shell : Shell). All (λ u. u < m) shell.pit.items) shells) same
    (λ k d l. listed_below deposit.blocks (get_or shells k d).pit.items (each k d l).set (each k d l).listed)

-- the pairs in the order of the rows
abbrev in_order : Deposit → List (ℕ × ℕ) → Deposit
in_order deposit pairs = record { blocks = deposit.blocks; revenues = deposit.revenues; costs = deposit.costs; pairs = pairs }

in_rows : (deposit : Deposit) (pairs : List (ℕ × ℕ)) (factor k : ℕ) (firsts : List ℕ) (amount : ℤ) → AreSamePairs pairs deposit.pairs → IsMarkedShell deposit factor k firsts amount
    → IsMarkedShell (in_order deposit pairs) factor k firsts amount
in_rows deposit pairs factor k firsts amount same is = record {
  set = is.set;
  is_pit = pit_knows_no_order Least deposit.blocks (mine_at deposit factor).values deposit.pairs pairs no_blocks_fixed is.set (turned pairs deposit.pairs same) is.is_pit;
  held = is.held;
  worth_is = is.worth_is;
}

-- the shell with a number is some shell of the list
worth_of_some : (deposit : Deposit) (pairs : List (ℕ × ℕ)) (factors firsts : List ℕ) (shells : List Shell) (worths : List ℤ) → AreSamePairs pairs deposit.pairs → IsPriced deposit → AreFactors factors
    → AreShells Least deposit factors shells → AreFirsts shells deposit.blocks firsts (length shells) → worths ≡ map (λ (shell : Shell). shell.worth) shells → (k : ℕ) → k < length shells
    → IsMarkedShell (in_order deposit pairs) (factor_of factors k) k firsts (get_or worths k (pos 0))
worth_of_some deposit pairs factors firsts [] worths same priced are found numbered summed k l = absurd (omega (arith, l))
worth_of_some deposit pairs factors firsts (x ∷ xs) worths same priced are found numbered summed k l =
    in_rows deposit pairs (factor_of factors k) k firsts (get_or worths k (pos 0)) same
    (subst (λ amount. IsMarkedShell deposit (factor_of factors k) k firsts amount)
    (sym (ap (λ (ws : List ℤ). get_or ws k (pos 0)) summed ∙ get_or-map (λ (shell : Shell). shell.worth) (x ∷ xs) k x (pos 0) l))
    (marked_shell deposit factors firsts (x ∷ xs) priced are found numbered k x l))

pub are_marked : (rows : PricedRows) (prices : Prices) (graph : Graph) (factors firsts : List ℕ) (shells : List Shell) (worths : List ℤ) → EncodesGraph (length rows.revenues) rows.starts rows.needs graph
    → prices.revenues ≡ rows.revenues → prices.costs ≡ rows.costs → IsPriced (deposit_of prices graph) → AreFactors factors → AreShells Least (deposit_of prices graph) factors shells
    → worths ≡ map (λ (shell : Shell). shell.worth) shells → AreFirsts shells graph.blocks firsts (length shells) → MarkShells rows factors firsts worths
are_marked rows prices graph factors firsts shells worths encoded revenues costs priced are found summed numbered =
    let many_factors = many (deposit_of prices graph) factors firsts shells priced are found numbered in
    let size = length-map shells (λ (shell : Shell). shell.worth) in
    let sized : length worths ≡ length shells = ap (λ (ws : List ℤ). length ws) summed ∙ size in
    record {
      deposit = in_order (deposit_of prices graph) encoded.pairs;
      encoded = record {
        blocks = encoded.count;
        revenues_are = revenues;
        costs_are = costs;
        rows_are = subst (λ n. IsCsr n (length rows.needs) rows.starts) (sym encoded.count) encoded.rows;
        pairs_are = encoded.pairs_are;
      };
      rise = are;
      count = numbered.size;
      counted = sized ∙ many_factors;
      each = λ k l. worth_of_some (deposit_of prices graph) encoded.pairs factors firsts shells worths encoded.same priced are found numbered summed k (omega arith);
      in_none = none_is_last (deposit_of prices graph) factors firsts shells priced are found numbered;
    }
