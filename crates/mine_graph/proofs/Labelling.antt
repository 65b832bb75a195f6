-- The blocks that a search visited get a label: one class more.
use Rattle.std.proofs.Common.{◌≡◌, ℕ, ◌+◌, ◌-◌, ◌<◌, ◌≤◌, true, false, eqb, refl, sym, ap, ◌∙◌, arith, subst, inl, inr, ⊎_elim, List, get_or, length}
use Rattle.std.specs.Prelude.{◌⊎◌, IsTrue}
use Rattle.std.proofs.lemmas.Bool.{cases_Bool, cases_eq, cases_lt, eq-eqb, eqb-true, false≢true}
use Rattle.pit_model.specs.Graph.{Graph, first_of, second_of, AreInRange}
use Rattle.pit_model.specs.Part.{AreNeighbours, IsClass}
use Rattle.mine_graph.specs.Renumbered.{has_label}
use Rattle.mine_graph.specs.BreadthFirst.{IsAt, IsJoinedWith, VisitsExactly, is_visited, queued}
use Rattle.mine_graph.specs.Components.{label_of, IsUnlabelled, HaveComponents, AreComponents}
use Rattle.mine_graph.specs.declared.breadth_first.BreadthFirst.{BreadthFirst}
use Rattle.mine_graph.proofs.Neighbours.{joined_on, neighbours_still, swapped}

-- the blocks of some places of a list have the label, and all others what they had
pub record AreLabelled (blocks : List ℕ) (label : ℕ) (before after : List ℕ) : Type 0 where
  pub size : length after ≡ length before
  pub given : (x : ℕ) → x < length blocks → label_of after (get_or blocks x 0) ≡ label
  pub kept : (u : ℕ) → (IsAt (λ x. get_or blocks x 0) 0 (length blocks) u → ⊥) → label_of after u ≡ label_of before u

-- one class more: a block that is not in, with all that pairs join with it
module _ (graph : Graph) (before : List ℕ) (label root : ℕ) (range : AreInRange graph.pairs graph.blocks)
    (classes : AreComponents graph before label root) (inside : root < graph.blocks)
    (search spread : BreadthFirst) (have : HaveComponents graph.pairs search before label) (fresh : is_visited search root ≡ false)
    (takes : VisitsExactly (IsJoinedWith graph.pairs root) search spread)
    (labels blocks : List ℕ) (count : search.tail + length blocks ≡ spread.tail)
    (row : (x : ℕ) → x < length blocks → get_or blocks x 0 ≡ queued spread (search.tail + x))
    (given : AreLabelled blocks label before labels) where
  small : label < length before
  small = let f = classes.few in let s = classes.size in omega arith

  -- the row holds the blocks that were taken in, and these alone
  is_new : (u : ℕ) → IsAt (λ x. get_or blocks x 0) 0 (length blocks) u → (is_visited spread u ≡ true) × (is_visited search u ≡ true → ⊥)
  is_new u at =
      let here : queued spread (search.tail + at.0) ≡ u = sym (row at.0 at.2) ∙ at.3 in
      let below : search.tail + at.0 < spread.tail = omega (arith, at.2, count) in (
        ap (is_visited spread) (sym here) ∙ (takes.trail.marked (search.tail + at.0) below).1,
        λ old.
            let f = have.trail.found u old in
            takes.trail.apart f.0 (search.tail + at.0) (omega (arith, f.1)) below (takes.kept f.0 f.1 ∙ f.2 ∙ sym here),
      )

  new_is : (u : ℕ) → is_visited spread u ≡ true → (is_visited search u ≡ true → ⊥) → label_of labels u ≡ label
  new_is u now new =
      let f = takes.trail.found u now in
      ⊎_elim
      (λ (early : f.0 < search.tail). absurd (new (ap (is_visited search) (sym (sym (takes.kept f.0 early) ∙ f.2)) ∙ (have.trail.marked f.0 early).1)))
      (λ (late : search.tail ≤ f.0).
      let x : ℕ = f.0 - search.tail in
      let l : x < length blocks = omega (arith, f.1, count) in
      let at : search.tail + x ≡ f.0 = omega (arith, late) in
      ap (label_of labels) (sym (row x l ∙ ap (queued spread) at ∙ f.2)) ∙ given.given x l)
      (cases_lt f.0 search.tail)

  old_stays : (u : ℕ) → is_visited search u ≡ true → label_of labels u ≡ label_of before u
  old_stays u old = given.kept u (λ at. (is_new u at).1 old)

  rest_stays : (u : ℕ) → is_visited spread u ≡ false → label_of labels u ≡ label_of before u
  rest_stays u out = given.kept u (λ at. false≢true (sym out ∙ (is_new u at).0))

  below_all : (u : ℕ) → u < graph.blocks → u < length before
  below_all u l = let s = classes.size in omega arith

  only : (u : ℕ) → u < length before → (label_of labels u ≡ label_of before u) ⊎ (IsUnlabelled before u × (label_of labels u ≡ label))
  only u l = ⊎_elim
      (λ (now : is_visited spread u ≡ true). ⊎_elim
      (λ (old : is_visited search u ≡ true). inl (old_stays u old))
      (λ (new : is_visited search u ≡ false). inr (have.none u l new, new_is u now (λ old. false≢true (sym new ∙ old))))
      (cases_Bool (is_visited search u)))
      (λ (out : is_visited spread u ≡ false). inl (rest_stays u out))
      (cases_Bool (is_visited spread u))

  -- a block that was in has another label
  not_old : (u : ℕ) → label_of labels u ≡ label → is_visited search u ≡ true → ⊥
  not_old u e old = let low = have.some u old in let s = old_stays u old in omega (arith, low, s, e)

  joined : (u : ℕ) → u < length before → label_of labels u ≡ label → IsJoinedWith graph.pairs root u
  joined u l e = ⊎_elim
      (λ (now : is_visited spread u ≡ true). ⊎_elim
      (λ (old : is_visited search u ≡ true). absurd (not_old u e old))
      (λ (w : IsJoinedWith graph.pairs root u). w)
      (takes.only u now))
      (λ (out : is_visited spread u ≡ false). absurd (
      let s = rest_stays u out in
      let new : is_visited search u ≡ false = ⊎_elim (λ (old : is_visited search u ≡ true). absurd (not_old u e old)) (λ (new : is_visited search u ≡ false). new) (cases_Bool (is_visited search u)) in
      let free = have.none u l new in
      let few = small in
      let z : ⊥ = omega (arith, s, free, few, e) in
      z))
      (cases_Bool (is_visited spread u))

  root_labelled : label_of labels root ≡ label
  root_labelled = new_is root (takes.all root (0, refl)) (λ old. false≢true (sym fresh ∙ old))

  spreads : (a u : ℕ) → a < graph.blocks → label_of labels a ≡ label → AreNeighbours graph.pairs a u → label_of labels u ≡ label
  spreads a u l e next = new_is u
      (takes.all u (joined_on graph.pairs root a u (joined a (below_all a l) e) next))
      (λ old. not_old a e (have.whole u a old (swapped graph.pairs a u next)))

  -- a label that stood before stands
  held : (u : ℕ) → u < graph.blocks → label_of before u < label → label_of labels u ≡ label_of before u
  held u l low = ⊎_elim
      (λ (e : label_of labels u ≡ label_of before u). e)
      (λ (w : IsUnlabelled before u × (label_of labels u ≡ label)). absurd (let f = w.0 in let s = small in omega arith))
      (only u (below_all u l))

  -- another label stood before
  stood : (u : ℕ) → u < graph.blocks → (label_of labels u ≡ label → ⊥) → label_of labels u ≡ label_of before u
  stood u l ne = ⊎_elim
      (λ (e : label_of labels u ≡ label_of before u). e)
      (λ (w : IsUnlabelled before u × (label_of labels u ≡ label)). absurd (ne w.1))
      (only u (below_all u l))

  pub together_still : (k : ℕ) → k < length graph.pairs → label_of labels (first_of graph.pairs k) ≡ label_of labels (second_of graph.pairs k)
  together_still k l =
      let f : ℕ = first_of graph.pairs k in
      let s : ℕ = second_of graph.pairs k in
      let r = range k l in
      ⊎_elim
      (λ (e : label_of labels f ≡ label). e ∙ sym (spreads f s r.0 e (k, l, inl (refl, refl))))
      (λ (ne : label_of labels f ≡ label → ⊥).
      let other : label_of labels s ≡ label → ⊥ = λ e. ne (spreads s f r.1 e (k, l, inr (refl, refl))) in
      stood f r.0 ne ∙ classes.together k l ∙ sym (stood s r.1 other))
      (cases_eq (label_of labels f) label)

  first_is_root : (u : ℕ) → u < graph.blocks → label_of labels u ≡ label → root ≤ u
  first_is_root u l e = ⊎_elim
      (λ (low : u < root). absurd (let p = classes.passed u low in let h = held u l p in omega arith))
      (λ (high : root ≤ u). high)
      (cases_lt u root)

  new_class : IsClass graph (has_label labels label) root
  new_class = record {
    inside = inside;
    member = eq-eqb (label_of labels root) label root_labelled;
    least = λ u l e. first_is_root u l (eqb-true (label_of labels u) label e);
    connected = λ u l e. joined u (below_all u l) (eqb-true (label_of labels u) label e);
    together = λ k l. ap (λ x. eqb x label) (together_still k l);
  }

  old_class : (i r : ℕ) → i < label → IsClass graph (has_label before i) r → IsClass graph (has_label labels i) r
  old_class i r low is =
      let back : (u : ℕ) → u < graph.blocks → IsTrue (has_label labels i u) → IsTrue (has_label before i u) =
      λ u l e. let at = eqb-true (label_of labels u) i e in eq-eqb (label_of before u) i (sym (stood u l (λ z. omega arith)) ∙ at) in
      let at_root = eqb-true (label_of before r) i is.member in
      record {
        inside = is.inside;
        member = eq-eqb (label_of labels r) i (held r is.inside (omega arith) ∙ at_root);
        least = λ u l e. is.least u l (back u l e);
        connected = λ u l e. is.connected u l (back u l e);
        together = λ k l. ap (λ x. eqb x i) (together_still k l);
      }

  pub class_more : AreComponents graph labels (label + 1) (root + 1)
  class_more = record {
    size = given.size ∙ classes.size;
    few = (let f = classes.few in omega arith);
    passed = λ u h. ⊎_elim
        (λ (e : u ≡ root). let s : label_of labels u ≡ label = ap (label_of labels) e ∙ root_labelled in omega arith)
        (λ (ne : u ≡ root → ⊥). let p = classes.passed u (omega arith) in let s = held u (omega arith) p in omega arith)
        (cases_eq u root);
    either = λ u l. ⊎_elim
        (λ (e : label_of labels u ≡ label_of before u). ⊎_elim
        (λ (f : IsUnlabelled before u). inl (e ∙ f ∙ sym given.size))
        (λ (f : label_of before u < label). inr (omega arith))
        (classes.either u l))
        (λ (w : IsUnlabelled before u × (label_of labels u ≡ label)). inr (omega (arith, w.1)))
        (only u (below_all u l));
    together = together_still;
    rooted = λ i l. ⊎_elim
        (λ (e : i ≡ label). (root, omega arith, subst (λ x. IsClass graph (has_label labels x) root) (sym e) new_class))
        (λ (ne : i ≡ label → ⊥). let c = classes.rooted i (omega arith) in (c.0, omega (arith, c.1), old_class i c.0 (omega arith) c.2))
        (cases_eq i label);
    rising = λ i u low l few. ⊎_elim
        (λ (e : label_of labels u ≡ label).
        let c = classes.rooted i (omega arith) in
        let class = c.2 in
        let at = eqb-true (label_of before c.0) i class.member in
        let above = first_is_root u l e in
        (c.0, omega (arith, c.1), held c.0 class.inside (omega arith) ∙ at))
        (λ (ne : label_of labels u ≡ label → ⊥).
        let same = stood u l ne in
        let v = classes.rising i u (omega arith) l (omega arith) in
        (v.0, v.1, held v.0 (omega (arith, v.1)) (omega (arith, v.2)) ∙ v.2))
        (cases_eq (label_of labels u) label);
  }

  pub classes_had : HaveComponents graph.pairs spread labels (label + 1)
  classes_had = record {
    trail = takes.trail;
    whole = neighbours_still graph.pairs root search spread have.whole takes;
    size = takes.size ∙ have.size ∙ sym given.size;
    some = λ u now. ⊎_elim
        (λ (old : is_visited search u ≡ true). let low = have.some u old in let s = old_stays u old in omega (arith, low, s))
        (λ (new : is_visited search u ≡ false). let e = new_is u now (λ old. false≢true (sym new ∙ old)) in omega (arith, e))
        (cases_Bool (is_visited search u));
    none = λ u l out.
        let new : is_visited search u ≡ false = ⊎_elim (λ (old : is_visited search u ≡ true). absurd (false≢true (sym out ∙ takes.grows u old))) (λ (new : is_visited search u ≡ false). new) (cases_Bool (is_visited search u)) in
        rest_stays u out ∙ have.none u (let s = given.size in omega (arith, s, l)) new ∙ sym given.size;
  }

-- a block that has its class already is passed over
pub class_passed : (graph : Graph) (labels : List ℕ) (count next : ℕ) → AreComponents graph labels count next → next < graph.blocks → (IsUnlabelled labels next → ⊥)
    → AreComponents graph labels count (next + 1)
class_passed graph labels count next was inside held = record {
  size = was.size;
  few = (let f = was.few in omega arith);
  passed = λ u h. ⊎_elim
      (λ (e : u ≡ next). ⊎_elim
      (λ (f : IsUnlabelled labels next). absurd (held f))
      (λ (f : label_of labels next < count). subst (λ x. label_of labels x < count) (sym e) f)
      (was.either next inside))
      (λ (ne : u ≡ next → ⊥). was.passed u (omega arith))
      (cases_eq u next);
  either = was.either;
  together = was.together;
  rooted = λ i l. let c = was.rooted i l in (c.0, omega (arith, c.1), c.2);
  rising = was.rising;
}
