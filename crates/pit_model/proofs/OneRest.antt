-- What must be dug and what must be left is one set each, so the open blocks are one list, and the pairs among them in order too.
use Rattle.std.proofs.Common.{◌≡◌, ℕ, ◌<◌, ◌≤◌, ◌||◌, Bool, sym, ap, subst, ◌∙◌, arith, ⊎_elim, List, get_or, length}
use Rattle.std.specs.Prelude.{map, IsTrue}
use Rattle.std.proofs.lemmas.Bool.{cases_eq, cases_lt, true≢false}
use Rattle.pit_model.specs.Graph.{Graph, IsGraph, first_of, second_of}
use Rattle.pit_model.specs.Mine.{instance_of, value}
use Rattle.pit_model.specs.Part.{IsPart}
use Rattle.pit_model.specs.Fixed.IsRestOf.{all_open, some_fixed}
use Rattle.pit_model.specs.Pit.{Fixed}
use Rattle.pit_model.specs.Fixed.{IsNothingFixed, graph_of_mine, is_open}
use Rattle.pit_model.specs.Uniqueness.{RestIsOne}
use Rattle.pit_model.proofs.Members.{members_ext, members_rise}
use Rattle.pit_model.proofs.Fixed.{closure_is_one}
use Rattle.pit_model.proofs.OneOrder.{rising_are_one}
use Rattle.pit_model.proofs.Rest.{part_each}

-- a block stands once in the list of a part
pub part_once : (whole part : Graph) (set : ℕ → Bool) (blocks : List ℕ) → IsPart whole set blocks part → (i j : ℕ) → i < length blocks → j < length blocks
    → get_or blocks i 0 ≡ get_or blocks j 0 → i ≡ j
part_once whole part set blocks is i j inside there same =
    let listed = is.blocks_are in
    let rise : (a b : ℕ) → a < b → b < length blocks → get_or blocks a 0 < get_or blocks b 0 =
    subst (λ (xs : List ℕ). (a b : ℕ) → a < b → b < length xs → get_or xs a 0 < get_or xs b 0) (sym listed) (members_rise whole.blocks set) in
    ⊎_elim
    (λ (l : i < j). let up = rise i j l there in omega arith)
    (λ (m : j ≤ i). ⊎_elim
    (λ (e : i ≡ j). e)
    (λ (ne : i ≡ j → ⊥). let up = rise j i (omega arith) inside in omega arith)
    (cases_eq i j))
    (cases_lt i j)

-- a pair of one part on a list of blocks stands in each other part on it
pair_in : (whole part other : Graph) (set test : ℕ → Bool) (blocks : List ℕ) → IsPart whole set blocks part → IsGraph part.blocks part.pairs
    → IsPart whole test blocks other → IsGraph other.blocks other.pairs
    → (k : ℕ) → k < length part.pairs → (l : ℕ) × (l < length other.pairs) × (get_or other.pairs l (0, 0) ≡ get_or part.pairs k (0, 0))
pair_in whole part other set test blocks is graph is_other other_graph k inside =
    let size = is.count in
    let size_too = is_other.count in
    let ends = graph.in_range k inside in
    let at = is.inside k inside in
    let names = at.2 in
    let first_in : first_of part.pairs k < length blocks = let e = ends.0 in omega arith in
    let second_in : second_of part.pairs k < length blocks = let e = ends.1 in omega arith in
    let first_open = (part_each whole other test blocks is_other (first_of part.pairs k) first_in).1 in
    let second_open = (part_each whole other test blocks is_other (second_of part.pairs k) second_in).1 in
    let there = is_other.all at.0 at.1 (subst (λ v. IsTrue (test v)) names.0 first_open) (subst (λ v. IsTrue (test v)) names.1 second_open) in
    let ends_too = other_graph.in_range there.0 there.1 in
    let first_too : first_of other.pairs there.0 < length blocks = let e = ends_too.0 in omega arith in
    let second_too : second_of other.pairs there.0 < length blocks = let e = ends_too.1 in omega arith in
    let one = part_once whole part set blocks is (first_of other.pairs there.0) (first_of part.pairs k) first_too first_in (there.2.0 ∙ sym names.0) in
    let two = part_once whole part set blocks is (second_of other.pairs there.0) (second_of part.pairs k) second_too second_in (there.2.1 ∙ sym names.1) in
    (there.0, there.1, ap (λ (u : ℕ). (u, second_of other.pairs there.0)) one ∙ ap (λ (p : ℕ). (first_of part.pairs k, p)) two)

-- the parts on one list of blocks are one graph
pub one_part : (whole part other : Graph) (set test : ℕ → Bool) (blocks others : List ℕ) → blocks ≡ others → IsPart whole set blocks part → IsGraph part.blocks part.pairs
    → IsPart whole test others other → IsGraph other.blocks other.pairs → (part.blocks ≡ other.blocks) × (part.pairs ≡ other.pairs)
one_part whole part other set test blocks others same is graph is_other other_graph =
    let here : IsPart whole test blocks other = subst (λ (xs : List ℕ). IsPart whole test xs other) (sym same) is_other in (
      is.count ∙ sym here.count,
      rising_are_one part.pairs other.pairs graph.rising other_graph.rising
          (pair_in whole part other set test blocks is graph here other_graph)
          (pair_in whole other part test set blocks here other_graph is graph),
    )

nothing_is_fixed : (fixed : Fixed) → IsNothingFixed fixed → (u : ℕ) → IsTrue (fixed.forced u || fixed.barred u) → ⊥
nothing_is_fixed fixed none u some =
    true≢false (sym some ∙ ap (λ b. b || fixed.barred u) (none.none_forced u) ∙ none.none_barred u)

pub rest_is_one : RestIsOne
rest_is_one mine fixed rest other (all_open none is) (all_open none_too is_too) = is ∙ sym is_too
rest_is_one mine fixed rest other (all_open none is) (some_fixed u some dug left blocks part is_rest is_too) = absurd (nothing_is_fixed fixed none u some)
rest_is_one mine fixed rest other (some_fixed u some dug left blocks part is_rest is) (all_open none is_too) = absurd (nothing_is_fixed fixed none u some)
rest_is_one mine fixed rest other (some_fixed u some dug left blocks part is_rest is) (some_fixed v some_too dug_too left_too blocks_too part_too is_rest_too is_too) =
    let settled = is_rest.settled in
    let settled_too = is_rest_too.settled in
    let same_open : (w : ℕ) → is_open dug left w ≡ is_open dug_too left_too w = λ w.
    ap (λ b. is_open (λ x. b) left w) (closure_is_one mine.pairs fixed.forced dug dug_too settled.dug_is settled_too.dug_is w)
    ∙ ap (λ b. is_open dug_too (λ x. b) w) (closure_is_one _ fixed.barred left left_too settled.left_is settled_too.left_is w) in
    let same_blocks : blocks ≡ blocks_too = is_rest.is_part.blocks_are ∙ members_ext mine.blocks (is_open dug left) (is_open dug_too left_too) (λ w l. same_open w) ∙ sym is_rest_too.is_part.blocks_are in
    let one = one_part (graph_of_mine mine) part part_too (is_open dug left) (is_open dug_too left_too) blocks blocks_too same_blocks is_rest.is_part is_rest.is_graph is_rest_too.is_part is_rest_too.is_graph in
    is
    ∙ ap (λ (n : ℕ). instance_of n (map (value mine) blocks) part.pairs) one.0
    ∙ ap (λ (xs : List ℕ). instance_of part_too.blocks (map (value mine) xs) part.pairs) same_blocks
    ∙ ap (λ (ps : List (ℕ × ℕ)). instance_of part_too.blocks (map (value mine) blocks_too) ps) one.1
    ∙ sym is_too
