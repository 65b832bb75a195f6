-- Rows that are built: the targets that they have, and what closing a row keeps.
use Rattle.std.proofs.Common.{◌≡◌, ℕ, ◌+◌, ◌-◌, ◌<◌, ◌≤◌, refl, sym, ap, subst, ◌∙◌, arith, ⊎_elim, List, [], ◌∷◌, ◌++◌, get_or, length, take, drop}
use Rattle.std.proofs.lemmas.Bool.{cases_lt}
use Rattle.std.proofs.lemmas.List.{append-nil, append_assoc, drop-append-le, drop-drop, drop_all, drop_at, get_or-append_right, get_or-drop, get_or-take, get_or_append_left, get_or_push, length-append, length-drop, length-take-le, length_push, nil_from_length, take-append-le, take_all}
use Rattle.pit_model.specs.Graph.{first_of}
use Rattle.csr.specs.Rows.{pairs_of, IsCsr, IsGrowing}
use Rattle.csr.specs.Shared.{shared_targets, target_after, AreShared, LeadTo}
use Rattle.csr.specs.Built.{built_targets, IsBuilt}
use Rattle.csr.proofs.Begun.{closed_csr, csr_rise, csr_row, csr_sized, pairs_kept}
use Rattle.csr.proofs.Patterns.{length-shared, shared-in, shared_is}
use Rattle.csr.proofs.Spelled.{length-pairs_of, pairs_of-at}

-- numbers that are all differences
pub whole_targets : (offsets patterns numbers : List ℕ) → built_targets offsets patterns numbers (length numbers) ≡ shared_targets offsets patterns numbers
unfolding built_targets
whole_targets offsets patterns numbers =
    ap (λ (q : List ℕ). shared_targets offsets patterns q ++ drop (length numbers) numbers) (take_all (length numbers) numbers (omega arith))
    ∙ ap (λ (q : List ℕ). shared_targets offsets patterns numbers ++ q) (drop_all (length numbers) numbers (omega arith))
    ∙ append-nil (shared_targets offsets patterns numbers)

-- a builder without arcs
pub none_built : (recent : List ℕ) → length recent ≡ 1024 → IsBuilt (0 ∷ []) [] [] 0 recent
none_built recent slots = record {
  shared = record {
    rows = record { count = refl; first = refl; rising = λ u l. absurd (omega arith); last = refl };
    inside = λ u l. absurd (omega arith);
  };
  within = omega arith;
  few = omega arith;
  slots = slots;
}

pub none_pairs : pairs_of (0 ∷ []) (built_targets (0 ∷ []) [] [] 0) ≡ []
none_pairs =
    let targets = built_targets (0 ∷ []) [] [] 0 in
    let none = ap (λ (q : List ℕ). length q) (whole_targets (0 ∷ []) [] []) in
    nil_from_length (pairs_of (0 ∷ []) targets) (omega (arith, length-pairs_of (0 ∷ []) targets, length-shared (0 ∷ []) [] []))

module _ (offsets patterns numbers : List ℕ) (used : ℕ) (recent : List ℕ) (built : IsBuilt offsets patterns numbers used recent) where
  pub length-built : length (built_targets offsets patterns numbers used) ≡ get_or offsets (length patterns) 0 + (length numbers - used)
  unfolding built_targets
  length-built =
      let closed = length-shared offsets patterns (take used numbers) in
      let tail = length-drop used numbers in
      omega (arith, length-append (shared_targets offsets patterns (take used numbers)) (drop used numbers))

  pub built_growing : IsGrowing offsets (length (built_targets offsets patterns numbers used))
  built_growing =
      let size = built.shared.rows.count in
      let e : length offsets - 1 ≡ length patterns = omega arith in
      let at = ap (λ v. get_or offsets v 0) e in
      record {
        closed = csr_sized offsets (length patterns) (get_or offsets (length patterns) 0) (get_or offsets (length offsets - 1) 0) built.shared.rows at;
        within = omega (arith, length-built);
      }

  -- a further number is a further target
  pub built_more : (t : ℕ) → built_targets offsets patterns (numbers ++ t ∷ []) used ≡ built_targets offsets patterns numbers used ++ t ∷ []
  unfolding built_targets
  built_more t =
      ap (λ (q : List ℕ). shared_targets offsets patterns q ++ drop used (numbers ++ t ∷ [])) (take-append-le used numbers (t ∷ []) built.within)
      ∙ ap (λ (q : List ℕ). shared_targets offsets patterns (take used numbers) ++ q) (drop-append-le used numbers (t ∷ []) built.within)
      ∙ sym (append_assoc (shared_targets offsets patterns (take used numbers)) (drop used numbers) (t ∷ []))

  pub more_built : (t : ℕ) → IsBuilt offsets patterns (numbers ++ t ∷ []) used recent
  more_built t = record {
    shared = subst (AreShared offsets patterns) (sym (take-append-le used numbers (t ∷ []) built.within)) built.shared;
    within = omega (arith, length_push numbers t, built.within);
    few = built.few;
    slots = built.slots;
  }

  -- the target of an arc of a closed row, and that of an arc of the open row
  pub built-closed : (u k : ℕ) → u < length patterns → get_or offsets u 0 ≤ k → k < get_or offsets (u + 1) 0
      → get_or (built_targets offsets patterns numbers used) k 0 ≡ target_after u (get_or numbers (get_or patterns u 0 + (k - get_or offsets u 0)) 0)
  unfolding built_targets
  built-closed u k below from to =
      let long = length-shared offsets patterns (take used numbers) in
      let rise = csr_rise offsets (length patterns) (get_or offsets (length patterns) 0) built.shared.rows (u + 1) (length patterns) (omega arith) (omega arith) in
      let inside = built.shared.inside u below in
      let some = length-take-le used numbers built.within in
      get_or_append_left (shared_targets offsets patterns (take used numbers)) (drop used numbers) 0 k (omega arith)
      ∙ shared-in offsets patterns (take used numbers) built.shared u k below from to
      ∙ ap (target_after u) (get_or-take used numbers (get_or patterns u 0 + (k - get_or offsets u 0)) 0 (omega arith))

  pub built-open : (j : ℕ) → get_or (built_targets offsets patterns numbers used) (get_or offsets (length patterns) 0 + j) 0 ≡ get_or numbers (used + j) 0
  unfolding built_targets
  built-open j =
      let closed : ℕ = get_or offsets (length patterns) 0 in
      let e : closed + j - closed ≡ j = omega arith in
      get_or-append_right (shared_targets offsets patterns (take used numbers)) (drop used numbers) closed (closed + j) 0 (length-shared offsets patterns (take used numbers)) (omega arith)
      ∙ ap (λ i. get_or (drop used numbers) i 0) e
      ∙ get_or-drop used numbers j 0

  -- the targets of the open row from one on
  pub built_from : (j : ℕ) → drop (get_or offsets (length patterns) 0 + j) (built_targets offsets patterns numbers used) ≡ drop (used + j) numbers
  unfolding built_targets
  built_from j =
      let closed : ℕ = get_or offsets (length patterns) 0 in
      sym (drop-drop j closed (shared_targets offsets patterns (take used numbers) ++ drop used numbers))
      ∙ ap (drop j) (drop_at (shared_targets offsets patterns (take used numbers)) (drop used numbers) closed (length-shared offsets patterns (take used numbers)))
      ∙ drop-drop j used numbers

  -- arcs of the open row stand after those of the closed ones
  pub open_after : (begin : ℕ) → begin ≤ length (pairs_of offsets (built_targets offsets patterns numbers used))
      → ((k : ℕ) → begin ≤ k → k < length (pairs_of offsets (built_targets offsets patterns numbers used)) → first_of (pairs_of offsets (built_targets offsets patterns numbers used)) k ≡ length patterns)
      → get_or offsets (length patterns) 0 ≤ begin
  open_after begin inside own = ⊎_elim
      (λ (before : begin < get_or offsets (length patterns) 0).
      let targets = built_targets offsets patterns numbers used in
      let long = length-pairs_of offsets targets in
      let size = length-built in
      let row = csr_row offsets (length patterns) (get_or offsets (length patterns) 0) built.shared.rows begin before in
      let first = ap (λ (q : ℕ × ℕ). q.0) (pairs_of-at offsets targets begin (omega arith)) in
      let is = own begin (omega arith) (omega arith) in
      absurd (omega arith))
      (λ (after : get_or offsets (length patterns) 0 ≤ begin). after)
      (cases_lt begin (get_or offsets (length patterns) 0))

  -- without an arc of the open row all numbers are differences
  pub all_used : ((k : ℕ) → k < length (pairs_of offsets (built_targets offsets patterns numbers used)) → first_of (pairs_of offsets (built_targets offsets patterns numbers used)) k < length patterns)
      → length numbers ≡ used
  all_used below =
      let targets = built_targets offsets patterns numbers used in
      let size = built.shared.rows.count in
      let e : length offsets - 1 ≡ length patterns = omega arith in
      let at = ap (λ v. get_or offsets v 0) e in
      let closed = closed_csr offsets (length targets) built_growing targets refl (λ k l. let own = below k l in omega arith) in
      let last = closed.last in
      omega (arith, length-built, built.within)

  pub used_shared : length numbers ≡ used → AreShared offsets patterns numbers
  used_shared all = subst (AreShared offsets patterns) (take_all used numbers (omega arith)) built.shared

  pub used_targets : length numbers ≡ used → built_targets offsets patterns numbers used ≡ shared_targets offsets patterns numbers
  used_targets all = ap (built_targets offsets patterns numbers) (sym all) ∙ whole_targets offsets patterns numbers

  -- the open row is closed: `more` are the numbers after that, and `place` is its pattern
  module _ (more : List ℕ) (place : ℕ) (leads : LeadTo more place (length patterns) numbers used (length numbers))
      (inside : place + (length numbers - used) ≤ length more) (kept : used ≤ length more) (upto : length more ≤ length numbers)
      (before : (k : ℕ) → k < used → get_or more k 0 ≡ get_or numbers k 0) where
    abbrev end : ℕ
    end = length (built_targets offsets patterns numbers used)

    offset_kept : (v : ℕ) → v ≤ length patterns → get_or (offsets ++ end ∷ []) v 0 ≡ get_or offsets v 0
    offset_kept v l = let size = built.shared.rows.count in get_or_append_left offsets (end ∷ []) 0 v (omega arith)

    offset_last : get_or (offsets ++ end ∷ []) (length patterns + 1) 0 ≡ end
    offset_last = get_or_push offsets end 0 (length patterns + 1) built.shared.rows.count

    pattern_kept : (u : ℕ) → u < length patterns → get_or (patterns ++ place ∷ []) u 0 ≡ get_or patterns u 0
    pattern_kept u l = get_or_append_left patterns (place ∷ []) 0 u l

    pattern_last : get_or (patterns ++ place ∷ []) (length patterns) 0 ≡ place
    pattern_last = get_or_push patterns place 0 (length patterns) refl

    closed_rows : IsCsr (length (patterns ++ place ∷ [])) end (offsets ++ end ∷ [])
    closed_rows =
        let size = built.shared.rows.count in
        let long = length_push patterns place in
        let most = length-built in
        record {
          count = omega (arith, length_push offsets end);
          first = offset_kept 0 (omega arith) ∙ built.shared.rows.first;
          rising = λ u l. ⊎_elim
              (λ (b : u < length patterns). let r = built.shared.rows.rising u b in omega (arith, offset_kept u (omega arith), offset_kept (u + 1) (omega arith)))
              (λ (b : length patterns ≤ u).
              let e : u ≡ length patterns = omega arith in
              let at = ap (λ v. get_or (offsets ++ end ∷ []) v 0) e in
              let next = ap (λ v. get_or (offsets ++ end ∷ []) (v + 1) 0) e in
              omega (arith, offset_kept (length patterns) (omega arith), offset_last))
              (cases_lt u (length patterns));
          last = ap (λ v. get_or (offsets ++ end ∷ []) v 0) long ∙ offset_last;
        }

    closed_leads : (u : ℕ) → u < length (patterns ++ place ∷ [])
        → LeadTo more (get_or (patterns ++ place ∷ []) u 0) u (built_targets offsets patterns numbers used) (get_or (offsets ++ end ∷ []) u 0) (get_or (offsets ++ end ∷ []) (u + 1) 0)
    closed_leads u l k from to =
        let size = built.shared.rows.count in
        let long = length_push patterns place in
        ⊎_elim
        (λ (b : u < length patterns).
        let begin = offset_kept u (omega arith) in
        let next = offset_kept (u + 1) (omega arith) in
        let pattern = pattern_kept u b in
        let fits = built.shared.inside u b in
        let some = length-take-le used numbers built.within in
        let at : get_or (patterns ++ place ∷ []) u 0 + (k - get_or (offsets ++ end ∷ []) u 0) ≡ get_or patterns u 0 + (k - get_or offsets u 0) = omega arith in
        ap (target_after u) (ap (λ i. get_or more i 0) at ∙ before (get_or patterns u 0 + (k - get_or offsets u 0)) (omega arith))
        ∙ sym (built-closed u k b (omega arith) (omega arith)))
        (λ (b : length patterns ≤ u).
        let e : length patterns ≡ u = omega arith in
        let closed : ℕ = get_or offsets (length patterns) 0 in
        let begin : get_or (offsets ++ end ∷ []) u 0 ≡ closed = ap (λ v. get_or (offsets ++ end ∷ []) v 0) (sym e) ∙ offset_kept (length patterns) (omega arith) in
        let next : get_or (offsets ++ end ∷ []) (u + 1) 0 ≡ end = ap (λ v. get_or (offsets ++ end ∷ []) (v + 1) 0) (sym e) ∙ offset_last in
        let pattern : get_or (patterns ++ place ∷ []) u 0 ≡ place = ap (λ v. get_or (patterns ++ place ∷ []) v 0) (sym e) ∙ pattern_last in
        let most = length-built in
        let j : ℕ = k - closed in
        let there : closed + j ≡ k = omega arith in
        let at : get_or (patterns ++ place ∷ []) u 0 + (k - get_or (offsets ++ end ∷ []) u 0) ≡ place + (used + j - used) = omega arith in
        ap (λ v. target_after v (get_or more (get_or (patterns ++ place ∷ []) u 0 + (k - get_or (offsets ++ end ∷ []) u 0)) 0)) (sym e)
        ∙ ap (λ i. target_after (length patterns) (get_or more i 0)) at
        ∙ leads (used + j) (omega arith) (omega arith)
        ∙ sym (built-open j)
        ∙ ap (λ i. get_or (built_targets offsets patterns numbers used) i 0) there)
        (cases_lt u (length patterns))

    closed_targets : built_targets (offsets ++ end ∷ []) (patterns ++ place ∷ []) more (length more) ≡ built_targets offsets patterns numbers used
    closed_targets =
        whole_targets (offsets ++ end ∷ []) (patterns ++ place ∷ []) more
        ∙ shared_is (offsets ++ end ∷ []) (patterns ++ place ∷ []) more (built_targets offsets patterns numbers used) closed_rows closed_leads

    pub closed_pairs : pairs_of (offsets ++ end ∷ []) (built_targets (offsets ++ end ∷ []) (patterns ++ place ∷ []) more (length more)) ≡ pairs_of offsets (built_targets offsets patterns numbers used)
    closed_pairs =
        let targets = built_targets offsets patterns numbers used in
        let size = built.shared.rows.count in
        let long = length_push offsets end in
        ap (pairs_of (offsets ++ end ∷ [])) closed_targets
        ∙ pairs_kept offsets (length targets) built_growing targets (offsets ++ end ∷ []) refl record {
          longer = omega arith;
          kept = λ v l. get_or_append_left offsets (end ∷ []) 0 v l;
          begin = λ v from to. get_or_push offsets end 0 v (omega arith);
        }

    pub closed_built : (after : List ℕ) → length after ≡ 1024 → IsBuilt (offsets ++ end ∷ []) (patterns ++ place ∷ []) more (length more) after
    closed_built after slots =
        let size = built.shared.rows.count in
        let long = length_push patterns place in
        let most = length-built in
        let last = closed_rows.last in
        let shared : AreShared (offsets ++ end ∷ []) (patterns ++ place ∷ []) more = record {
          rows = subst (λ places. IsCsr (length (patterns ++ place ∷ [])) places (offsets ++ end ∷ [])) (sym last) closed_rows;
          inside = λ u l. ⊎_elim
              (λ (b : u < length patterns).
              let fits = built.shared.inside u b in
              let some = length-take-le used numbers built.within in
              omega (arith, offset_kept u (omega arith), offset_kept (u + 1) (omega arith), pattern_kept u b))
              (λ (b : length patterns ≤ u).
              let e : u ≡ length patterns = omega arith in
              let begin = ap (λ v. get_or (offsets ++ end ∷ []) v 0) e in
              let next = ap (λ v. get_or (offsets ++ end ∷ []) (v + 1) 0) e in
              let pattern = ap (λ v. get_or (patterns ++ place ∷ []) v 0) e in
              omega (arith, offset_kept (length patterns) (omega arith), offset_last, pattern_last))
              (cases_lt u (length patterns));
        } in
        record {
          shared = subst (AreShared (offsets ++ end ∷ []) (patterns ++ place ∷ [])) (sym (take_all (length more) more (omega arith))) shared;
          within = omega arith;
          few = omega (arith, built.few, built.within);
          slots = slots;
        }
