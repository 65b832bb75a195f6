-- What is found on the open blocks of a mine, by the numbers of the whole: its blocks with those that must be dug, and its flow.
use Rattle.std.proofs.Common.{rules, ◌≡◌, ℕ, ◌<◌, ◌≤◌, ◌||◌, ◌&&◌, Bool, true, false, not, refl, sym, ap, subst, ◌∙◌, arith, inl, inr, ⊎_elim, List, get_or, length}
use Rattle.std.specs.Prelude.{◌⊎◌, ℤ, pos, replicate}
use Rattle.std.specs.List.{All}
use Rattle.std.proofs.lemmas.Bool.{cases_Bool, cases_lt, and_parts, or_left, or_right, true≢false}
use Rattle.std.proofs.lemmas.List.{get_or-replicate, get_or_past, length-replicate}
use Rattle.pit_model.specs.Limits.{Between, IsInstance}
use Rattle.pit_model.specs.Mine.{Instance, arcs, source, target, members}
use Rattle.pit_model.specs.Certificate.{Certifies}
use Rattle.pit_model.specs.Fixed.{CertifiesOpen, IsFixedCertificate, IsIdle, IsSameFlow, fixed_of, graph_of_mine, mine_among}
use Rattle.pit_model.proofs.Fixed.{settled_are_apart}
use Rattle.pit_model.proofs.Members.{members_below, members_each, members_ext, members_place, members_rise}
use Rattle.pit_model.proofs.RestCertificates.{rest_certificate_is_open}
use Rattle.pit_model.proofs.Simple.{instance_is_simple}
use Rattle.mine_graph.specs.FixedBlocks.{FixedBlocks, IsFixedOf, forced_closure, barred_closure}
use Rattle.optimality.specs.Certificate.{IsCertificateOf}
use Rattle.optimality.specs.Check.{IsCandidate, amount, has, most_amount, open_in}
use Rattle.optimality.specs.declared.pit_with_flow.Certificate.{Certificate}
use Rattle.merging.specs.Parts.{AreCarried, ArePitMarks, named}
use Rattle.merging.specs.Reduced.{IsRestIn, ListsJoined}
use Rattle.merging.specs.declared.reduced_mine.ReducedMine.{ReducedMine}
use Rattle.merging.proofs.Joining.{Rises, rises_once}

plain_or : (b : Bool) → b || false ≡ b
plain_or true = refl
plain_or false = refl

-- no mark stands outside its list
none_outside : (marks : List Bool) (u : ℕ) → length marks ≤ u → has marks u ≡ true → ⊥
none_outside marks u far h = true≢false (sym h ∙ get_or_past marks u false far)

zero_between : Between (pos 0) (pos 0) most_amount
zero_between = search rules

-- a list of zeros has nothing but zeros
pub zeros : (flow : List ℤ) (n : ℕ) → flow ≡ replicate n (pos 0) → (a : ℕ) → amount flow a ≡ pos 0
zeros flow n is a = ap (λ (xs : List ℤ). get_or xs a (pos 0)) is ∙ ⊎_elim
    (λ (l : a < n). get_or-replicate n a (pos 0) (pos 0) l)
    (λ (far : n ≤ a). get_or_past (replicate n (pos 0)) a (pos 0) (let size = length-replicate n (pos 0) in omega arith))
    (cases_lt a n)

module _ (n : ℕ) (fixed : FixedBlocks) (blocks : List ℕ) (are : blocks ≡ members n (open_in fixed)) where
  blocks_rise : Rises blocks
  blocks_rise = subst Rises (sym are) (members_rise n (open_in fixed))

  -- a block of the rest is open
  pub is_open_block : (i : ℕ) → i < length blocks → (get_or blocks i 0 < n) × (open_in fixed (get_or blocks i 0) ≡ true)
  is_open_block i l =
      let each = members_each n (open_in fixed) i (subst (λ (xs : List ℕ). i < length xs) are l) in
      let same : get_or blocks i 0 ≡ get_or (members n (open_in fixed)) i 0 = ap (λ (xs : List ℕ). get_or xs i 0) are in
      (subst (λ v. v < n) (sym same) each.0, ap (open_in fixed) same ∙ each.1)

  -- so it need be neither dug nor left
  not_dug : (i : ℕ) → i < length blocks → forced_closure fixed (get_or blocks i 0) ≡ false
  not_dug i l = ⊎_elim
      (λ (d : forced_closure fixed (get_or blocks i 0) ≡ true). absurd (true≢false (sym (is_open_block i l).1 ∙ ap not (or_left (forced_closure fixed (get_or blocks i 0)) (barred_closure fixed (get_or blocks i 0)) d))))
      (λ (e : forced_closure fixed (get_or blocks i 0) ≡ false). e)
      (cases_Bool (forced_closure fixed (get_or blocks i 0)))

  not_left : (i : ℕ) → i < length blocks → barred_closure fixed (get_or blocks i 0) ≡ true → ⊥
  not_left i l h = true≢false (sym (is_open_block i l).1 ∙ ap not (or_right (forced_closure fixed (get_or blocks i 0)) (barred_closure fixed (get_or blocks i 0)) h))

  module _ (apart : (u : ℕ) → barred_closure fixed u ≡ true → forced_closure fixed u ≡ false) (found : List ℕ) (before marks : List Bool) (size : length before ≡ n) (dug : (u : ℕ) → u < n → has before u ≡ forced_closure fixed u)
      (was : ArePitMarks blocks found (length found) before marks) (set : ℕ → Bool) (listed : found ≡ members (length blocks) set) where
    abbrev after : ℕ → Bool
    after u = has marks u || forced_closure fixed u

    found_each : (j : ℕ) → j < length found → (get_or found j 0 < length blocks) × (set (get_or found j 0) ≡ true)
    found_each j l =
        let at = members_each (length blocks) set j (subst (λ (xs : List ℕ). j < length xs) listed l) in
        let same : get_or found j 0 ≡ get_or (members (length blocks) set) j 0 = ap (λ (xs : List ℕ). get_or xs j 0) listed in
        (subst (λ v. v < length blocks) (sym same) at.0, ap set same ∙ at.1)

    -- what is marked must be dug, or was found
    marked_so : (u : ℕ) → u < n → has marks u ≡ true → (forced_closure fixed u ≡ true) ⊎ ((i : ℕ) × (i < length blocks) × (set i ≡ true) × (get_or blocks i 0 ≡ u))
    marked_so u l h = ⊎_elim
        (λ (b : has before u ≡ true). inl (sym (dug u l) ∙ b))
        (λ (p : (j : ℕ) × (j < length found) × (named blocks found j ≡ u)).
        let each = found_each p.0 p.1 in
        inr (get_or found p.0 0, each.0, each.1, p.2))
        (was.only u h)

    -- and what was found is marked
    found_marked : (i : ℕ) → i < length blocks → set i ≡ true → has marks (get_or blocks i 0) ≡ true
    found_marked i l h =
        let place = members_place (length blocks) set i l h in
        let inside : place.0 < length found = subst (λ (xs : List ℕ). place.0 < length xs) (sym listed) place.1 in
        let at : get_or found place.0 0 ≡ i = ap (λ (xs : List ℕ). get_or xs place.0 0) listed ∙ place.2 in
        ap (λ j. has marks (get_or blocks j 0)) (sym at) ∙ was.all place.0 inside

    adds : (i : ℕ) → i < length blocks → after (get_or blocks i 0) ≡ set i
    adds i l =
        let u = get_or blocks i 0 in
        let plain : after u ≡ has marks u = ap (λ b. has marks u || b) (not_dug i l) ∙ plain_or (has marks u) in
        plain ∙ ⊎_elim
        (λ (t : set i ≡ true). found_marked i l t ∙ sym t)
        (λ (f : set i ≡ false). ⊎_elim
        (λ (m : has marks u ≡ true). absurd (⊎_elim
        (λ (d : forced_closure fixed u ≡ true). true≢false (sym d ∙ not_dug i l))
        (λ (p : (j : ℕ) × (j < length blocks) × (set j ≡ true) × (get_or blocks j 0 ≡ u)).
        true≢false (sym p.2 ∙ ap set (rises_once blocks blocks_rise p.0 i p.1 l p.3) ∙ f))
        (marked_so u (is_open_block i l).0 m)))
        (λ (none : has marks u ≡ false). none ∙ sym f)
        (cases_Bool (has marks u)))
        (cases_Bool (set i))

    misses : (u : ℕ) → barred_closure fixed u ≡ true → after u ≡ false
    misses u h = ap (λ b. has marks u || b) (apart u h) ∙ ⊎_elim
        (λ (t : has marks u ≡ true). absurd (⊎_elim
        (λ (b : has before u ≡ true). ⊎_elim
        (λ (l : u < n). true≢false (sym b ∙ dug u l ∙ apart u h))
        (λ (far : n ≤ u). none_outside before u (omega arith) b)
        (cases_lt u n))
        (λ (p : (j : ℕ) × (j < length found) × (named blocks found j ≡ u)).
        not_left (get_or found p.0 0) (found_each p.0 p.1).0 (ap (barred_closure fixed) p.2 ∙ h))
        (was.only u t)))
        (λ (f : has marks u ≡ false). ap (λ b. b || false) f)
        (cases_Bool (has marks u))

    pub lists_joined : ListsJoined n fixed blocks set (members (length marks) (has marks))
    lists_joined = record {
      after = after;
      listed =
          ap (λ m. members m (has marks)) (was.size ∙ size)
          ∙ members_ext n (has marks) after (λ u l. ⊎_elim
          (λ (d : forced_closure fixed u ≡ true). was.grows u (dug u l ∙ d) ∙ sym (or_right (has marks u) (forced_closure fixed u) d))
          (λ (none : forced_closure fixed u ≡ false). sym (ap (λ b. has marks u || b) none ∙ plain_or (has marks u)))
          (cases_Bool (forced_closure fixed u)));
      joined = record { keeps = λ u d. or_right (has marks u) (forced_closure fixed u) d; misses = misses; adds = adds };
    }

module _ (mine : Instance) (fixed : FixedBlocks) (rest : ReducedMine) (of : IsFixedOf (graph_of_mine mine) fixed) (is : IsRestIn mine fixed rest) where
  abbrev blocks : List ℕ
  blocks = rest.blocks.items

  is_open_in : (i : ℕ) → i < length blocks → (get_or blocks i 0 < mine.blocks) × (open_in fixed (get_or blocks i 0) ≡ true)
  is_open_in = is_open_block mine.blocks fixed blocks is.is_rest.is_part.blocks_are

  module _ (inst : IsInstance mine) (rest_inst : IsInstance rest.mine) (found : Certificate) (shown : IsCertificateOf rest.mine found) (nothing flow : List ℤ)
      (none : (a : ℕ) → amount nothing a ≡ pos 0) (size : length nothing ≡ arcs mine)
      (was : AreCarried (graph_of_mine mine) blocks (graph_of_mine rest.mine) found.flow.items (arcs rest.mine) nothing flow) where
    -- a pair that stands in the rest has open ends
    open_ends : (k a : ℕ) → k < arcs rest.mine → (get_or blocks (source rest.mine k) 0 ≡ source mine a) × (get_or blocks (target rest.mine k) 0 ≡ target mine a)
        → (open_in fixed (source mine a) && open_in fixed (target mine a)) ≡ true
    open_ends k a l names =
        let ends = is.is_rest.is_graph.in_range k l in
        let count = is.is_rest.is_part.count in
        let first : source rest.mine k < length blocks = let e = ends.0 in omega arith in
        let second : target rest.mine k < length blocks = let e = ends.1 in omega arith in
        let one : open_in fixed (source mine a) ≡ true = ap (open_in fixed) (sym names.0) ∙ (is_open_in (source rest.mine k) first).1 in
        let two : open_in fixed (target mine a) ≡ true = ap (open_in fixed) (sym names.1) ∙ (is_open_in (target rest.mine k) second).1 in
        ap (λ b. b && open_in fixed (target mine a)) one ∙ two

    idle : IsIdle mine (forced_closure fixed) (barred_closure fixed) (amount flow)
    idle a l closed = was.rest a (λ k m names. true≢false (sym (open_ends k a m names) ∙ closed)) ∙ none a

    same_flow : IsSameFlow mine blocks (graph_of_mine rest.mine) (amount flow) (amount found.flow.items)
    same_flow k a l m names = sym (was.placed k a l m names)

    amounts_within : (a : ℕ) → a < length flow → Between (pos 0) (amount flow a) most_amount
    amounts_within a l =
        let inside : a < arcs mine = let s = was.size in omega arith in
        let nought : amount flow a ≡ pos 0 → Between (pos 0) (amount flow a) most_amount = λ e. subst (λ x. Between (pos 0) x most_amount) (sym e) zero_between in
        ⊎_elim
        (λ (o : (open_in fixed (source mine a) && open_in fixed (target mine a)) ≡ true).
        let there = is.is_rest.is_part.all a inside (and_parts (open_in fixed (source mine a)) (open_in fixed (target mine a)) o).0 (and_parts (open_in fixed (source mine a)) (open_in fixed (target mine a)) o).1 in
        subst (λ x. Between (pos 0) x most_amount) (sym (was.placed there.0 a there.1 inside there.2)) (shown.candidate.amounts there.0 (let c = shown.candidate.counted in let b = there.1 in omega arith)))
        (λ (c : (open_in fixed (source mine a) && open_in fixed (target mine a)) ≡ false). nought (idle a inside c))
        (cases_Bool (open_in fixed (source mine a) && open_in fixed (target mine a)))

    pub certificate_of_whole : (pit : List ℕ) (amounts : List ℤ) → amounts ≡ flow
        → ((set : ℕ → Bool) → found.pit.items ≡ members (length blocks) set → ListsJoined mine.blocks fixed blocks set pit)
        → IsFixedCertificate mine (fixed_of fixed.lists) pit amounts × IsCandidate mine.blocks (arcs mine) pit amounts
    certificate_of_whole pit amounts same joined =
        let set = shown.certifies.set in
        let count = is.is_rest.is_part.count in
        let list = joined set (shown.certifies.listed ∙ ap (λ n. members n set) count) in
        let here : Certifies (mine_among mine blocks (graph_of_mine rest.mine)) set (amount found.flow.items) =
        subst (λ (m : Instance). Certifies m set (amount found.flow.items)) is.mine_is shown.certifies.certifies in
        let whole = (rest_certificate_is_open mine (fixed_of fixed.lists) (forced_closure fixed) (barred_closure fixed) blocks (graph_of_mine rest.mine) list.after set (amount flow) (amount found.flow.items)
        (instance_is_simple mine inst) is.is_rest list.joined idle same_flow).0 here in (
          record {
            dug = forced_closure fixed;
            left = barred_closure fixed;
            settled = of.settled;
            set = list.after;
            listed = list.listed;
            counted = ap (λ (xs : List ℤ). length xs) same ∙ was.size ∙ size;
            certifies = subst (λ (xs : List ℤ). CertifiesOpen mine (forced_closure fixed) (barred_closure fixed) list.after (amount xs)) (sym same) whole;
          },
          record {
            below = subst (All (λ u. u < mine.blocks)) (sym list.listed) (members_below mine.blocks list.after);
            rising = subst Rises (sym list.listed) (members_rise mine.blocks list.after);
            counted = ap (λ (xs : List ℤ). length xs) same ∙ was.size ∙ size;
            amounts = subst (λ (xs : List ℤ). (k : ℕ) → k < length xs → Between (pos 0) (amount xs k) most_amount) (sym same) amounts_within;
          },
        )

-- no block must be both dug and left
pub none_both : (mine : Instance) (fixed : FixedBlocks) → IsFixedOf (graph_of_mine mine) fixed → (u : ℕ) → barred_closure fixed u ≡ true → forced_closure fixed u ≡ false
none_both mine fixed of = settled_are_apart mine (fixed_of fixed.lists) (forced_closure fixed) (barred_closure fixed) of.settled of.clash_free
