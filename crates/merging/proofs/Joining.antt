-- The answers of the parts of an instance, written where their blocks and pairs stand in the whole, are an answer for the whole.
use Rattle.std.proofs.Common.{◌≡◌, ℕ, zero, suc, ◌+◌, ◌<◌, ◌≤◌, Bool, true, false, eqb, refl, sym, ap, ◌∙◌, arith, subst, inl, inr, ⊎_elim, List, [], ◌∷◌, set, get_or, length}
use Rattle.std.specs.Prelude.{◌⊎◌, ℤ, pos}
use Rattle.std.specs.List.{All, AllZip}
use Rattle.std.proofs.lemmas.Bool.{cases_eq, cases_lt, cases_order, cases_Bool, eq-eqb, eqb-true, false≢true}
use Rattle.std.proofs.lemmas.List.{get_or-set_same, get_or-set_other, length-set, get_or_default}
use Rattle.pit_model.specs.Graph.{Graph, first_of, second_of, AreRising, IsGraph}
use Rattle.pit_model.specs.Mine.{Instance, value, arcs, source, target, members}
use Rattle.pit_model.specs.Limits.{Between, IsInstance}
use Rattle.pit_model.specs.Part.{IsPart, IsRenumbered, StandsAt}
use Rattle.pit_model.specs.Certificate.{Certifies, IsCertificate}
use Rattle.pit_model.specs.Joined.{IsCarried, IsCertifiedAt}
use Rattle.pit_model.proofs.Joined.{certificates_join}
use Rattle.mine_graph.specs.declared.part.Part.{Part}
use Rattle.mine_graph.specs.Parts.{AreParts}
use Rattle.pit_model.proofs.Members.{members_below, members_each, members_place, members_rise}
use Rattle.optimality.specs.Check.{IsCandidate, has, amount, most_amount}
use Rattle.merging.specs.declared.solved_part.SolvedPart.{SolvedPart}
use Rattle.merging.specs.Parts.{graph_of_instance, IsSolvedPart, AreSolved, named, ArePitMarks, AreCarried, IsListed, ArePlaced}

-- ---- marks
pub none_marked : (blocks pit : List ℕ) (marks : List Bool) → ArePitMarks blocks pit 0 marks marks
none_marked blocks pit marks = record { size = refl; grows = λ v e. e; only = λ v e. inl e; all = λ i l. absurd (omega arith) }

-- ---- flow
-- pairs in order: no two are the same
rising_once : (pairs : List (ℕ × ℕ)) → AreRising pairs → (k l : ℕ) → k < length pairs → l < length pairs → first_of pairs k ≡ first_of pairs l → second_of pairs k ≡ second_of pairs l → k ≡ l
rising_once pairs rising k l a b first second =
    let clash : (i j : ℕ) → i < j → j < length pairs → first_of pairs i ≡ first_of pairs j → second_of pairs i ≡ second_of pairs j → ⊥ = λ i j h m f s. ⊎_elim
    (λ (w : first_of pairs i < first_of pairs j). let z : ⊥ = omega arith in z)
    (λ (w : (first_of pairs i ≡ first_of pairs j) × (second_of pairs i < second_of pairs j)). let up = w.1 in let z : ⊥ = omega arith in z)
    (rising i j h m) in
    ⊎_elim
    (λ (e : k ≡ l). e)
    (λ (apart : (k < l) ⊎ (l < k)). absurd (⊎_elim
    (λ (h : k < l). clash k l h b first second)
    (λ (h : l < k). clash l k h a (sym first) (sym second))
    apart))
    (cases_order k l)

abbrev pub Rises : List ℕ → Type 0
Rises blocks = (u v : ℕ) → u < v → v < length blocks → get_or blocks u 0 < get_or blocks v 0

pub rises_once : (blocks : List ℕ) → Rises blocks → (u v : ℕ) → u < length blocks → v < length blocks → get_or blocks u 0 ≡ get_or blocks v 0 → u ≡ v
rises_once blocks rises u v a b e = ⊎_elim
    (λ (s : u ≡ v). s)
    (λ (apart : (u < v) ⊎ (v < u)). absurd (⊎_elim
    (λ (h : u < v). let up = rises u v h b in let z : ⊥ = omega arith in z)
    (λ (h : v < u). let up = rises v u h a in let z : ⊥ = omega arith in z)
    apart))
    (cases_order u v)

module _ (whole : Graph) (blocks : List ℕ) (part : Graph) (is_whole : IsGraph whole.blocks whole.pairs) (is_part : IsGraph part.blocks part.pairs) (count : part.blocks ≡ length blocks) (rises : Rises blocks) where
  -- a pair of the part stands in one place, and no other pair of it stands there
  pub one_place : (k a b : ℕ) → a < length whole.pairs → b < length whole.pairs → IsRenumbered whole blocks part k a → IsRenumbered whole blocks part k b → a ≡ b
  one_place k a b l m r s = rising_once whole.pairs is_whole.rising a b l m (sym r.0 ∙ s.0) (sym r.1 ∙ s.1)

  pub one_pair : (k l a : ℕ) → k < length part.pairs → l < length part.pairs → IsRenumbered whole blocks part k a → IsRenumbered whole blocks part l a → k ≡ l
  one_pair k l a below under r s =
      let at = is_part.in_range k below in
      let to = is_part.in_range l under in
      rising_once part.pairs is_part.rising k l below under
      (rises_once blocks rises (first_of part.pairs k) (first_of part.pairs l) (omega (arith, at.0)) (omega (arith, to.0)) (r.0 ∙ sym s.0))
      (rises_once blocks rises (second_of part.pairs k) (second_of part.pairs l) (omega (arith, at.1)) (omega (arith, to.1)) (r.1 ∙ sym s.1))

  pub carry_more : (amounts : List ℤ) (k : ℕ) (before flow : List ℤ) (a : ℕ) → AreCarried whole blocks part amounts k before flow → k < length part.pairs
      → a < length whole.pairs → length before ≡ length whole.pairs → IsRenumbered whole blocks part k a
      → AreCarried whole blocks part amounts (k + 1) before (set flow a (amount amounts k))
  carry_more amounts k before flow a was below inside size at = record {
    size = length-set flow a (amount amounts k) ∙ was.size;
    placed = λ l b low under r. ⊎_elim
        (λ (e : b ≡ a).
        let same : l ≡ k = one_pair l k a (omega arith) below (subst (λ x. IsRenumbered whole blocks part l x) e r) at in
        ap (amount (set flow a (amount amounts k))) e ∙ get_or-set_same flow a (amount amounts k) (pos 0) (let s = was.size in omega arith) ∙ ap (amount amounts) (sym same))
        (λ (ne : b ≡ a → ⊥).
        let other : l ≡ k → ⊥ = λ e. ne (one_place k b a under inside (subst (λ x. IsRenumbered whole blocks part x b) e r) at) in
        get_or-set_other flow a b (amount amounts k) (pos 0) ne ∙ was.placed l b (omega arith) under r)
        (cases_eq b a);
    rest = λ b none.
        let ne : b ≡ a → ⊥ = λ e. none k (omega arith) (subst (λ x. IsRenumbered whole blocks part k x) (sym e) at) in
        get_or-set_other flow a b (amount amounts k) (pos 0) ne ∙ was.rest b (λ l low. none l (omega arith));
  }

-- ---- the list of parts
standing : {A : Type 0} (xs : List A) (i : ℕ) → i < length xs → (x : A) × StandsAt xs i x
standing [] i l = absurd (omega arith)
standing (x ∷ xs) zero l = (x, (l, refl))
standing (x ∷ xs) (suc i) l = let r = standing xs i (omega arith) in (r.0, (l, r.1.1))

stands_once : (parts : List SolvedPart) (i : ℕ) (p q : SolvedPart) → StandsAt parts i p → StandsAt parts i q → p ≡ q
stands_once parts i p q at to = sym at.1 ∙ get_or_default parts i p q at.0 ∙ to.1

module _ (mine : Instance) (parts : List SolvedPart) (is : IsInstance mine) (are : AreSolved mine parts) where
  module _ (i : ℕ) (p : SolvedPart) (at : StandsAt parts i p) where
    abbrev test : ℕ → Bool
    test u = eqb (are.label u) i

    part_is : IsPart (graph_of_instance mine) test p.blocks.items (graph_of_instance p.mine)
    part_is = are.each i p at

    pub blocks_rise : Rises p.blocks.items
    blocks_rise = subst Rises (sym part_is.blocks_are) (members_rise mine.blocks test)

    pub blocks_count : p.mine.blocks ≡ length p.blocks.items
    blocks_count = part_is.count

    -- a block of the part lies in it
    lies : (u : ℕ) → u < p.mine.blocks → (get_or p.blocks.items u 0 < mine.blocks) × (are.label (get_or p.blocks.items u 0) ≡ i)
    lies u l =
        let each = members_each mine.blocks test u (subst (λ (xs : List ℕ). u < length xs) part_is.blocks_are (let c = blocks_count in omega arith)) in
        let same = ap (λ xs. get_or xs u 0) part_is.blocks_are in
        (subst (λ x. x < mine.blocks) (sym same) each.0, ap are.label same ∙ eqb-true _ _ each.1)

    -- and a block that lies in it is one of it
    found : (v : ℕ) → v < mine.blocks → are.label v ≡ i → (u : ℕ) × (u < p.mine.blocks) × (get_or p.blocks.items u 0 ≡ v)
    found v l e =
        let r = members_place mine.blocks test v l (eq-eqb (are.label v) i e) in
        let inside : r.0 < length p.blocks.items = subst (λ (xs : List ℕ). r.0 < length xs) (sym part_is.blocks_are) r.1 in
        (r.0, (let c = blocks_count in omega arith), ap (λ xs. get_or xs r.0 0) part_is.blocks_are ∙ r.2)

    block_once : (u v : ℕ) → u < p.mine.blocks → v < p.mine.blocks → get_or p.blocks.items u 0 ≡ get_or p.blocks.items v 0 → u ≡ v
    block_once u v l m e = let c = blocks_count in rises_once p.blocks.items blocks_rise u v (omega arith) (omega arith) e

    pit_below : (x : ℕ) → x < length p.certificate.pit.items → get_or p.certificate.pit.items x 0 < p.mine.blocks
    pit_below x l = (are.answers i p at).candidate.below x 0 l

  -- at the start nothing is placed
  pub nothing_placed : (marks : List Bool) (flow : List ℤ) → length marks ≡ mine.blocks → length flow ≡ arcs mine → ((v : ℕ) → has marks v ≡ false) → ArePlaced mine parts marks flow 0
  nothing_placed marks flow size count none = record {
    marks_size = size;
    flow_size = count;
    marked = λ j q l. absurd (omega arith);
    listed = λ j q l. absurd (omega arith);
    owned = λ v e. absurd (false≢true (sym (none v) ∙ e));
    placed = λ j q l. absurd (omega arith);
  }

  -- one part more
  module _ (i : ℕ) (p : SolvedPart) (at : StandsAt parts i p) (marks marks1 : List Bool) (flow flow1 : List ℤ)
      (was : ArePlaced mine parts marks flow i)
      (marked_more : ArePitMarks p.blocks.items p.certificate.pit.items (length p.certificate.pit.items) marks marks1)
      (carried : AreCarried (graph_of_instance mine) p.blocks.items (graph_of_instance p.mine) p.certificate.flow.items (arcs p.mine) flow flow1) where
    -- a block of another part isn't named by the pit of this one
    apart : (j : ℕ) (q : SolvedPart) (to : StandsAt parts j q) (u x : ℕ) → j < i → u < q.mine.blocks → x < length p.certificate.pit.items
        → named p.blocks.items p.certificate.pit.items x ≡ get_or q.blocks.items u 0 → ⊥
    apart j q to u x less l m e =
        let one = (lies i p at (get_or p.certificate.pit.items x 0) (pit_below i p at x m)).1 in
        let two = (lies j q to u l).1 in
        let same = ap are.label e in
        omega arith

    marked_still : (j : ℕ) (q : SolvedPart) → j < i + 1 → StandsAt parts j q → (u : ℕ) → u < q.mine.blocks → has marks1 (get_or q.blocks.items u 0) ≡ true → IsListed q.certificate.pit.items u
    marked_still j q low to u l e = ⊎_elim
        (λ (s : j ≡ i).
        let same : p ≡ q = stands_once parts i p q at (subst (λ x. StandsAt parts x q) s to) in
        let below : u < p.mine.blocks = subst (λ (r : SolvedPart). u < r.mine.blocks) (sym same) l in
        let mark : has marks1 (get_or p.blocks.items u 0) ≡ true = subst (λ (r : SolvedPart). has marks1 (get_or r.blocks.items u 0) ≡ true) (sym same) e in
        subst (λ (r : SolvedPart). IsListed r.certificate.pit.items u) same (⊎_elim
        (λ (h : has marks (get_or p.blocks.items u 0) ≡ true).
        let o = was.owned (get_or p.blocks.items u 0) h in
        let other = (lies o.0 o.1 o.3 o.4 o.5).1 in
        let here = (lies i p at u below).1 in
        let joined = ap are.label o.6 in
        let less = o.2 in
        absurd (omega arith))
        (λ (w : (x : ℕ) × (x < length p.certificate.pit.items) × (named p.blocks.items p.certificate.pit.items x ≡ get_or p.blocks.items u 0)).
        (w.0, w.1, block_once i p at (get_or p.certificate.pit.items w.0 0) u (pit_below i p at w.0 w.1) below w.2))
        (marked_more.only (get_or p.blocks.items u 0) mark)))
        (λ (ne : j ≡ i → ⊥). ⊎_elim
        (λ (h : has marks (get_or q.blocks.items u 0) ≡ true). was.marked j q (omega arith) to u l h)
        (λ (w : (x : ℕ) × (x < length p.certificate.pit.items) × (named p.blocks.items p.certificate.pit.items x ≡ get_or q.blocks.items u 0)).
        absurd (apart j q to u w.0 (omega arith) l w.1 w.2))
        (marked_more.only (get_or q.blocks.items u 0) e))
        (cases_eq j i)

    listed_still : (j : ℕ) (q : SolvedPart) → j < i + 1 → StandsAt parts j q → (u : ℕ) → IsListed q.certificate.pit.items u → has marks1 (get_or q.blocks.items u 0) ≡ true
    listed_still j q low to u listed = ⊎_elim
        (λ (s : j ≡ i).
        let same : p ≡ q = stands_once parts i p q at (subst (λ x. StandsAt parts x q) s to) in
        let x = subst (λ (r : SolvedPart). IsListed r.certificate.pit.items u) (sym same) listed in
        subst (λ (r : SolvedPart). has marks1 (get_or r.blocks.items u 0) ≡ true) same
        (ap (λ v. has marks1 (get_or p.blocks.items v 0)) (sym x.2) ∙ marked_more.all x.0 x.1))
        (λ (ne : j ≡ i → ⊥). marked_more.grows (get_or q.blocks.items u 0) (was.listed j q (omega arith) to u listed))
        (cases_eq j i)

    -- a pair of another part isn't one of this one
    placed_still : (j : ℕ) (q : SolvedPart) → j < i + 1 → StandsAt parts j q → (k a : ℕ) → k < arcs q.mine → a < arcs mine
        → IsRenumbered (graph_of_instance mine) q.blocks.items (graph_of_instance q.mine) k a → amount flow1 a ≡ amount q.certificate.flow.items k
    placed_still j q low to k a l m r = ⊎_elim
        (λ (s : j ≡ i).
        let same : p ≡ q = stands_once parts i p q at (subst (λ x. StandsAt parts x q) s to) in
        let below : k < arcs p.mine = subst (λ (x : SolvedPart). k < arcs x.mine) (sym same) l in
        let here : IsRenumbered (graph_of_instance mine) p.blocks.items (graph_of_instance p.mine) k a = subst (λ (x : SolvedPart). IsRenumbered (graph_of_instance mine) x.blocks.items (graph_of_instance x.mine) k a) (sym same) r in
        subst (λ (x : SolvedPart). amount flow1 a ≡ amount x.certificate.flow.items k) same (carried.placed k a below m here))
        (λ (ne : j ≡ i → ⊥).
        let none : (x : ℕ) → x < arcs p.mine → IsRenumbered (graph_of_instance mine) p.blocks.items (graph_of_instance p.mine) x a → ⊥ = λ x h s.
        let one = (lies i p at (source p.mine x) ((are.instances i p at).graph.in_range x h).0).1 in
        let two = (lies j q to (source q.mine k) ((are.instances j q to).graph.in_range k l).0).1 in
        let first = ap are.label (s.0 ∙ sym r.0) in
        let z : ⊥ = omega arith in z in
        carried.rest a none ∙ was.placed j q (omega arith) to k a l m r)
        (cases_eq j i)

    pub placed_more : ArePlaced mine parts marks1 flow1 (i + 1)
    placed_more = record {
      marks_size = marked_more.size ∙ was.marks_size;
      flow_size = carried.size ∙ was.flow_size;
      marked = marked_still;
      listed = listed_still;
      owned = λ v e. ⊎_elim
          (λ (h : has marks v ≡ true). let o = was.owned v h in (o.0, o.1, omega (arith, o.2), o.3, o.4, o.5, o.6))
          (λ (w : (x : ℕ) × (x < length p.certificate.pit.items) × (named p.blocks.items p.certificate.pit.items x ≡ v)).
          (i, p, omega arith, at, get_or p.certificate.pit.items w.0 0, pit_below i p at w.0 w.1, w.2))
          (marked_more.only v e);
      placed = placed_still;
    }

  -- all parts are placed
  module _ (marks : List Bool) (flow : List ℤ) (all : ArePlaced mine parts marks flow (length parts)) where
    module _ (i : ℕ) (p : SolvedPart) (at : StandsAt parts i p) where
      abbrev shown : IsCertificate p.mine p.certificate.pit.items p.certificate.flow.items
      shown = (are.answers i p at).certifies

      -- where a pair of the part stands in the whole
      place_of : (k : ℕ) → (k < arcs p.mine) ⊎ (arcs p.mine ≤ k) → ℕ
      place_of k (inl l) = ((part_is i p at).inside k l).0
      place_of k (inr l) = 0

      place_is : (k : ℕ) (c : (k < arcs p.mine) ⊎ (arcs p.mine ≤ k)) → k < arcs p.mine → (place_of k c < arcs mine) × IsRenumbered (graph_of_instance mine) p.blocks.items (graph_of_instance p.mine) k (place_of k c)
      unfolding place_of
      place_is k (inl l) h = let r = (part_is i p at).inside k l in (r.1, r.2)
      place_is k (inr l) h = absurd (omega arith)

      arc_at : ℕ → ℕ
      arc_at k = place_of k (cases_lt k (arcs p.mine))

      arc_is : (k : ℕ) → k < arcs p.mine → (arc_at k < arcs mine) × IsRenumbered (graph_of_instance mine) p.blocks.items (graph_of_instance p.mine) k (arc_at k)
      unfolding arc_at
      arc_is k l = place_is k (cases_lt k (arcs p.mine)) l

      same_set : (u : ℕ) → u < p.mine.blocks → shown.set u ≡ has marks (get_or p.blocks.items u 0)
      same_set u l = ⊎_elim
          (λ (on : shown.set u ≡ true).
          let r = members_place p.mine.blocks shown.set u l on in
          let listed : IsListed p.certificate.pit.items u = (r.0, subst (λ (xs : List ℕ). r.0 < length xs) (sym shown.listed) r.1, ap (λ xs. get_or xs r.0 0) shown.listed ∙ r.2) in
          on ∙ sym (all.listed i p at.0 at u listed))
          (λ (off : shown.set u ≡ false). ⊎_elim
          (λ (e : has marks (get_or p.blocks.items u 0) ≡ true).
          let x = all.marked i p at.0 at u l e in
          let each = members_each p.mine.blocks shown.set x.0 (subst (λ (xs : List ℕ). x.0 < length xs) shown.listed x.1) in
          let is_u : get_or (members p.mine.blocks shown.set) x.0 0 ≡ u = sym (ap (λ xs. get_or xs x.0 0) shown.listed) ∙ x.2 in
          absurd (false≢true (sym off ∙ ap shown.set (sym is_u) ∙ each.1)))
          (λ (e : has marks (get_or p.blocks.items u 0) ≡ false). off ∙ sym e)
          (cases_Bool (has marks (get_or p.blocks.items u 0))))
          (cases_Bool (shown.set u))

      of_part : (k : ℕ) → k < arcs mine → are.label (source mine k) ≡ i → (l : ℕ) × (l < arcs p.mine) × IsRenumbered (graph_of_instance mine) p.blocks.items (graph_of_instance p.mine) l k
      of_part k m e = (part_is i p at).all k m (eq-eqb (are.label (source mine k)) i e) (eq-eqb (are.label (target mine k)) i (sym (are.together k m) ∙ e))

      carried_is : IsCarried mine (has marks) (amount flow) p.mine shown.set (amount p.certificate.flow.items) (λ u. get_or p.blocks.items u 0) arc_at
      carried_is = record {
        block_inside = λ u l. (lies i p at u l).0;
        block_once = block_once i p at;
        same_value = are.values i p at;
        same_set = same_set;
        arc_inside = λ k l. (arc_is k l).0;
        arc_once = λ k l h m e.
            let r = (arc_is k h).1 in
            let s = subst (λ x. IsRenumbered (graph_of_instance mine) p.blocks.items (graph_of_instance p.mine) l x) (sym e) (arc_is l m).1 in
            one_pair (graph_of_instance mine) p.blocks.items (graph_of_instance p.mine) is.graph (are.instances i p at).graph (blocks_count i p at) (blocks_rise i p at) k l (arc_at k) h m r s;
        same_source = λ k l. (arc_is k l).1.0;
        same_target = λ k l. (arc_is k l).1.1;
        same_flow = λ k l. sym (all.placed i p at.0 at k (arc_at k) l (arc_is k l).0 (arc_is k l).1);
        all_pairs = λ u k l m end.
            let here = (lies i p at u l).1 in
            let label_is : are.label (source mine k) ≡ i = ⊎_elim
            (λ (e : source mine k ≡ get_or p.blocks.items u 0). ap are.label e ∙ here)
            (λ (e : target mine k ≡ get_or p.blocks.items u 0). are.together k m ∙ ap are.label e ∙ here)
            end in
            let f = of_part k m label_is in
            (f.0, f.1, one_place (graph_of_instance mine) p.blocks.items (graph_of_instance p.mine) is.graph (are.instances i p at).graph (blocks_count i p at) (blocks_rise i p at) f.0 (arc_at f.0) k (arc_is f.0 f.1).0 m (arc_is f.0 f.1).1 f.2);
      }

    certified_at : (u : ℕ) → u < mine.blocks → IsCertifiedAt mine (has marks) (amount flow) u
    certified_at u l =
        let s = standing parts (are.label u) (are.labelled u l) in
        let place = found (are.label u) s.0 s.1 u l refl in
        record {
          part = s.0.mine;
          part_set = (shown (are.label u) s.0 s.1).set;
          part_flow = amount s.0.certificate.flow.items;
          block = λ v. get_or s.0.blocks.items v 0;
          arc = arc_at (are.label u) s.0 s.1;
          carried = carried_is (are.label u) s.0 s.1;
          in_range = (are.instances (are.label u) s.0 s.1).graph.in_range;
          certifies = (shown (are.label u) s.0 s.1).certifies;
          place = place.0;
          inside = place.1;
          here = place.2;
        }

    pub answer_is : (listed : List ℕ) (amounts : List ℤ) → listed ≡ members mine.blocks (has marks) → amounts ≡ flow
        → IsCertificate mine listed amounts × IsCandidate mine.blocks (arcs mine) listed amounts
    answer_is listed amounts pit flows = (
      record {
        set = has marks;
        listed = pit;
        counted = ap (λ (xs : List ℤ). length xs) flows ∙ all.flow_size;
        certifies = subst (λ xs. Certifies mine (has marks) (amount xs)) (sym flows) (certificates_join mine (has marks) (amount flow) is.graph.in_range certified_at);
      },
      record {
        below = subst (All (λ u. u < mine.blocks)) (sym pit) (members_below mine.blocks (has marks));
        rising = subst Rises (sym pit) (members_rise mine.blocks (has marks));
        counted = ap (λ (xs : List ℤ). length xs) flows ∙ all.flow_size;
        amounts = λ k l.
            let size = ap (λ (xs : List ℤ). length xs) flows in
            let inside : k < arcs mine = let s = all.flow_size in omega arith in
            let u = source mine k in
            let below = (is.graph.in_range k inside).0 in
            let s = standing parts (are.label (source mine k)) (are.labelled (source mine k) below) in
            let f = of_part (are.label (source mine k)) s.0 s.1 k inside refl in
            let candidate = (are.answers (are.label (source mine k)) s.0 s.1).candidate in
            let same : amount amounts k ≡ amount s.0.certificate.flow.items f.0 = ap (λ xs. amount xs k) flows ∙ all.placed (are.label (source mine k)) s.0 s.1.0 s.1 f.0 k f.1 inside f.2 in
            subst (λ x. Between (pos 0) x most_amount) (sym same) (candidate.amounts f.0 (let n = candidate.counted in let m = f.1 in omega arith));
      },
    )

-- ---- what is solved of the parts that a graph falls into
zipped_at : (mine : Instance) (xs : List Part) (ys : List SolvedPart) → AllZip (IsSolvedPart mine) xs ys → (i : ℕ) (y : SolvedPart) → StandsAt ys i y
    → (x : Part) × StandsAt xs i x × IsSolvedPart mine x y
zipped_at mine [] [] h i y at = absurd (let l = at.0 in omega arith)
zipped_at mine [] (z ∷ ys) h i y at = absurd h
zipped_at mine (x ∷ xs) [] h i y at = absurd h
zipped_at mine (x ∷ xs) (z ∷ ys) h zero y at = (x, (omega arith, refl), subst (IsSolvedPart mine x) at.1 h.0)
zipped_at mine (x ∷ xs) (z ∷ ys) h (suc i) y at =
    let r = zipped_at mine xs ys h.1 i y (let l = at.0 in omega arith, at.1) in
    (r.0, (let l = r.1.0 in omega arith, r.1.1), r.2)

zipped_long : (mine : Instance) (xs : List Part) (ys : List SolvedPart) → AllZip (IsSolvedPart mine) xs ys → length ys ≡ length xs
zipped_long mine [] [] h = refl
zipped_long mine [] (y ∷ ys) h = absurd h
zipped_long mine (x ∷ xs) [] h = absurd h
zipped_long mine (x ∷ xs) (y ∷ ys) h = ap suc (zipped_long mine xs ys h.1)

pub are_solved : (mine : Instance) (parts : List Part) (solved : List SolvedPart) → IsInstance mine → AreParts (graph_of_instance mine) parts → AllZip (IsSolvedPart mine) parts solved → AreSolved mine solved
are_solved mine parts solved is fall by =
    let long = zipped_long mine parts solved by in
    record {
      label = fall.label;
      labelled = λ u l. let p = fall.labelled u l in omega arith;
      together = λ k l.
          let r = is.graph.in_range k l in
          let i : ℕ = fall.label (source mine k) in
          let p = standing parts (fall.label (source mine k)) (fall.labelled (source mine k) r.0) in
          let class = fall.classes (fall.label (source mine k)) p.0 p.1 in
          let same = class.together k l in
          sym (eqb-true (fall.label (target mine k)) (fall.label (source mine k)) (sym same ∙ eq-eqb (fall.label (source mine k)) (fall.label (source mine k)) refl));
      each = λ i p at.
          let x = zipped_at mine parts solved by i p at in
          let s = x.2 in
          subst (λ g. IsPart (graph_of_instance mine) (λ u. eqb (fall.label u) i) p.blocks.items g) (sym s.graph)
          (subst (λ bs. IsPart (graph_of_instance mine) (λ u. eqb (fall.label u) i) bs x.0.graph) (sym s.blocks) (fall.each i x.0 x.1));
      values = λ i p at u l.
          let s = (zipped_at mine parts solved by i p at).2 in
          s.values u l ∙ ap (λ bs. value mine (get_or bs u 0)) (sym s.blocks);
      instances = λ i p at. (zipped_at mine parts solved by i p at).2.instance;
      answers = λ i p at. (zipped_at mine parts solved by i p at).2.answer;
    }
