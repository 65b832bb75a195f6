-- Marks on the blocks from which an open pair leads, while labels change and while they are looked through.
use Rattle.std.proofs.Common.{◌≡◌, ℕ, ◌<◌, ◌≤◌, nat_lt, Bool, true, false, not, ◌&&◌, refl, sym, ap, subst, ◌∙◌, arith, ⊎_elim, List, set, length, get_or}
use Rattle.std.specs.Bool.{beq}
use Rattle.std.proofs.lemmas.Bool.{cases_eq, cases_lt, cases_Bool, true≢false, ltb-true, and_parts, not-true}
use Rattle.std.proofs.lemmas.List.{get_or-set_other, get_or-set_same, set-set, set-get_or}
use Rattle.pit_model.specs.Direction.{IsReversed}
use Rattle.pit_model.specs.Graph.{Graph, first_of, second_of, IsGraph}
use Rattle.pit_model.proofs.Fixed.{transposed_at, transposed_count}
use Rattle.norm_tree.specs.Labelled.{Labelled, label, with_labels, is_candidate, AreSourcesMarked, IsClosedBelow}

not_other : (a b : Bool) → beq a b ≡ false → not b ≡ a
not_other true true ne = absurd (true≢false ne)
not_other true false ne = refl
not_other false true ne = refl
not_other false false ne = absurd (true≢false ne)

-- a changed label, changed back
pub label_back : (strong : List Bool) (block : ℕ) (to : Bool) → block < length strong → beq (label strong block) to ≡ false
    → set (set strong block to) block (not (label (set strong block to) block)) ≡ strong
label_back strong block to inside ne =
    ap (λ b. set (set strong block to) block (not b)) (get_or-set_same strong block to false inside)
    ∙ ap (set (set strong block to) block) (not_other (label strong block) to ne)
    ∙ set-set strong block to (label strong block) ∙ set-get_or strong block false

-- what an open pair is
open_parts : (l : Labelled) (k : ℕ) → is_candidate l k ≡ true → (k < length l.graph.pairs) × (label l.strong (first_of l.graph.pairs k) ≡ true) × (label l.strong (second_of l.graph.pairs k) ≡ false)
open_parts l k is =
    let parts = and_parts (nat_lt k (length l.graph.pairs) && label l.strong (first_of l.graph.pairs k)) (not (label l.strong (second_of l.graph.pairs k))) is in
    let from = and_parts (nat_lt k (length l.graph.pairs)) (label l.strong (first_of l.graph.pairs k)) parts.0 in
    (ltb-true k (length l.graph.pairs) from.0, from.1, not-true (label l.strong (second_of l.graph.pairs k)) parts.1)

not_open : (l : Labelled) (k : ℕ) → (is_candidate l k ≡ true → ⊥) → is_candidate l k ≡ false
not_open l k never = ⊎_elim (λ (e : is_candidate l k ≡ true). absurd (never e)) (λ (e : is_candidate l k ≡ false). e) (cases_Bool (is_candidate l k))

-- past the end no pair is open
not_open_inside : (l : Labelled) (k : ℕ) → (k < length l.graph.pairs → is_candidate l k ≡ false) → is_candidate l k ≡ false
not_open_inside l k off = not_open l k (λ is. true≢false (sym is ∙ off (open_parts l k is).0))

-- blocks without a mark have no open pair
pub unmarked_closed : (l : Labelled) (marks : List Bool) (from block : ℕ) → AreSourcesMarked l marks → IsClosedBelow l from
    → ((v : ℕ) → from ≤ v → v < block → get_or marks v false ≡ false) → IsClosedBelow l block
unmarked_closed l marks from block marked closed off k below = ⊎_elim
    (λ (low : first_of l.graph.pairs k < from). closed k low)
    (λ (high : from ≤ first_of l.graph.pairs k). not_open l k (λ is. true≢false (sym (marked k is) ∙ off (first_of l.graph.pairs k) high below)))
    (cases_lt (first_of l.graph.pairs k) from)

-- the first open pair of a block below which none is open is the first of all
pub first_is_least : (l : Labelled) (block k : ℕ) → IsGraph l.graph.blocks l.graph.pairs → IsClosedBelow l block → is_candidate l k ≡ true → first_of l.graph.pairs k ≡ block
    → ((i : ℕ) → i < k → first_of l.graph.pairs i ≡ block → is_candidate l i ≡ false) → (i : ℕ) → i < k → is_candidate l i ≡ false
first_is_least l block k graph closed is of own i less = ⊎_elim
    (λ (low : first_of l.graph.pairs i < first_of l.graph.pairs k). closed i (omega arith))
    (λ (rest : (first_of l.graph.pairs i ≡ first_of l.graph.pairs k) × (second_of l.graph.pairs i < second_of l.graph.pairs k)). own i less (rest.0 ∙ of))
    (graph.rising i k less (open_parts l k is).0)

-- below the block of the first open pair none is open
pub closed_below_first : (l : Labelled) (k : ℕ) → IsGraph l.graph.blocks l.graph.pairs → ((i : ℕ) → i < k → is_candidate l i ≡ false) → IsClosedBelow l (first_of l.graph.pairs k)
closed_below_first l k graph least i below = not_open_inside l i (λ inside. ⊎_elim
    (λ (less : i < k). least i less)
    (λ (more : k ≤ i). ⊎_elim
    (λ (e : k ≡ i). let same = ap (first_of l.graph.pairs) e in absurd (omega arith))
    (λ (ne : k ≡ i → ⊥). ⊎_elim
    (λ (low : first_of l.graph.pairs k < first_of l.graph.pairs i). absurd (omega arith))
    (λ (rest : (first_of l.graph.pairs k ≡ first_of l.graph.pairs i) × (second_of l.graph.pairs k < second_of l.graph.pairs i)). let same = rest.0 in absurd (omega arith))
    (graph.rising k i (omega arith) inside))
    (cases_eq k i))
    (cases_lt i k))

-- marks on the strong users of a block that turned weak are all that its index lacks
module _ (graph users : Graph) (strong : List Bool) (block : ℕ) (weak : label strong block ≡ false) (reversed : IsReversed graph users) where
  before : List Bool
  before = set strong block (not (label strong block))

  -- a pair that does not touch the block is open before if it is open now
  open_before : (k : ℕ) → (first_of graph.pairs k ≡ block → ⊥) → (second_of graph.pairs k ≡ block → ⊥) → is_candidate (with_labels graph strong) k ≡ true → is_candidate (with_labels graph before) k ≡ true
  unfolding before
  open_before k from to is =
      ap (λ b. nat_lt k (length graph.pairs) && b && not (label before (second_of graph.pairs k))) (get_or-set_other strong block (first_of graph.pairs k) (not (label strong block)) false from)
      ∙ ap (λ b. nat_lt k (length graph.pairs) && label strong (first_of graph.pairs k) && not b) (get_or-set_other strong block (second_of graph.pairs k) (not (label strong block)) false to)
      ∙ is

  pub marked_after : (old new : List Bool) → AreSourcesMarked (with_labels graph (set strong block (not (label strong block)))) old
      → ((u : ℕ) → get_or old u false ≡ true → get_or new u false ≡ true)
      → ((k : ℕ) → k < length users.pairs → first_of users.pairs k ≡ block → label strong (second_of users.pairs k) ≡ true → get_or new (second_of users.pairs k) false ≡ true)
      → AreSourcesMarked (with_labels graph strong) new
  unfolding before
  marked_after old new was kept marked k is =
      let parts = open_parts (with_labels graph strong) k is in
      ⊎_elim
      (λ (e : second_of graph.pairs k ≡ block).
      let size = transposed_count graph.pairs in
      let inside = parts.0 in
      let there = reversed.pairs_are.forth k (omega arith) in
      let at = there.2 ∙ transposed_at graph.pairs k inside in
      let to : second_of users.pairs there.0 ≡ first_of graph.pairs k = ap (λ (q : ℕ × ℕ). q.1) at in
      subst (λ u. get_or new u false ≡ true) to (marked there.0 there.1 (ap (λ (q : ℕ × ℕ). q.0) at ∙ e) (ap (label strong) to ∙ parts.1)))
      (λ (ne : second_of graph.pairs k ≡ block → ⊥).
      kept (first_of graph.pairs k) (was k (open_before k (λ e. true≢false (sym parts.1 ∙ ap (label strong) e ∙ weak)) ne is)))
      (cases_eq (second_of graph.pairs k) block)
