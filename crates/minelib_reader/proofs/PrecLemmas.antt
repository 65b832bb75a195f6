-- Reading the predecessors of a block one after the other, with marks for those that were seen.
use Rattle.std.proofs.Common.{◌≡◌, ◌≢◌, ℕ, ◌+◌, ◌-◌, ◌<◌, drop, map, Bool, true, false, eqb, ◌||◌, List, [], ◌∷◌, ◌++◌, length, get_or, set, Result, Ok, Err, refl, sym, ap, ◌∙◌, append_assoc, arith, tests, rules, Some, ltb, ◌≤◌, get_or-set_same, get_or-set_other, eq-eqb}
use Rattle.std.proofs.lemmas.List.{append-nil, get_or-append_right, get_or-map, length-append, length-map, map-append}
use Rattle.std.proofs.Math.Seq.{drop-append_seam}
use Rattle.std.proofs.lemmas.Bool.{eqb-true, eqb-false, ne_eqb}
use Rattle.std.proofs.lemmas.List.Folds.{list_any-append, list_any_none}
use Rattle.std.proofs.lemmas.List.Elements.{All-push, All-weaker}
use Rattle.std.specs.List.{All}
use Rattle.faults.specs.declared.fault.Fault.{Fault}
use Rattle.minelib_reader.specs.Checks.{◌>>=◌}
use Rattle.minelib_reader.specs.Marks.{AddsFirst, AreMarked, with_seen}
use Rattle.pit_model.specs.Fixed.{is_among}
use Rattle.pit_model.specs.Graph.{first_of}
use Rattle.minelib_reader.specs.Number.{whole_of}
use Rattle.minelib_reader.specs.Prec.{need_of, needs_from, pairs_of_line}

abbrev Needs : Type 0
Needs = Result (List ℕ) Fault

-- what a loop over the fields keeps, behind the blocks that were seen first
pub record SoFar (n id line : ℕ) (first marks : List ℕ) (rest : List (List ℕ)) (total : Needs) (old now : List (ℕ × ℕ)) : Type 0 where
  pub seen : List ℕ
  pub read : with_seen seen (needs_from n id line (first ++ seen) rest) ≡ total
  pub marked : AreMarked n id marks (first ++ seen)
  pub pushed : now ≡ old ++ pairs_of_line id seen

regroup : (seen : List ℕ) (p : ℕ) (read : Needs) → with_seen seen (read >>= λ ps. Ok (p ∷ ps)) ≡ with_seen (seen ++ p ∷ []) read
regroup seen p (Ok ps) = ap (λ (xs : List ℕ). Ok xs) (simp append_assoc)
regroup seen p (Err e) = refl

or_true : (b : Bool) → (b || (true || false)) ≡ true
or_true true = refl
or_true false = refl

or_false : (b : Bool) → (b || (false || false)) ≡ b
or_false true = refl
or_false false = refl

-- one block more is marked
marked_by : (n id p : ℕ) (marks seen : List ℕ) → length marks ≡ n → p < n → AreMarked n id marks seen → (q : ℕ) → q < n → (v : Bool) → eqb p q ≡ v → eqb (get_or (set marks p (id + 1)) q 0) (id + 1) ≡ is_among (seen ++ p ∷ []) q
marked_by n id p marks seen len lt marked q below true e =
    let same : p ≡ q = eqb-true p q e in
    let here : p < length marks = omega arith in
    let left : eqb (get_or (set marks p (id + 1)) p 0) (id + 1) ≡ true = rw get_or-set_same (eq-eqb (id + 1) (id + 1) refl) in
    ap (λ (k : ℕ). eqb (get_or (set marks p (id + 1)) k 0) (id + 1)) (sym same) ∙ left
    ∙ sym (list_any-append (λ x. eqb x q) seen (p ∷ []) ∙ ap (λ (b : Bool). is_among seen q || (b || false)) e ∙ or_true (is_among seen q))
marked_by n id p marks seen len lt marked q below false e =
    let ne : q ≢ p = λ same. eqb-false p q e (sym same) in
    rw get_or-set_other (marked q below)
    ∙ sym (list_any-append (λ x. eqb x q) seen (p ∷ []) ∙ ap (λ (b : Bool). is_among seen q || (b || false)) e ∙ or_false (is_among seen q))

same : (r : Needs) → with_seen [] r ≡ r
same (Ok ps) = refl
same (Err e) = refl

module _ (n id line : ℕ) (first marks : List ℕ) where
  pub goes_on : (f : List ℕ) (rest : List (List ℕ)) (total : Needs) (old now : List (ℕ × ℕ)) (p : ℕ) → length marks ≡ n → p < n
      → (s : SoFar n id line first marks (f ∷ rest) total old now) → need_of n id line (first ++ s.seen) f ≡ Ok p
      → SoFar n id line first (set marks p (id + 1)) rest total old (now ++ (id, p) ∷ [])
  unfolding needs_from
  goes_on f rest total old now p len lt s h =
      let all : List ℕ = first ++ s.seen in
      let same : all ++ p ∷ [] ≡ first ++ (s.seen ++ p ∷ []) = append_assoc first s.seen (p ∷ []) in
      let one : with_seen s.seen (needs_from n id line all (f ∷ rest)) ≡ with_seen (s.seen ++ p ∷ []) (needs_from n id line (all ++ p ∷ []) rest) =
      rw h (regroup s.seen p (needs_from n id line (all ++ p ∷ []) rest)) in
      record {
        seen = s.seen ++ p ∷ [];
        read = ap (λ (xs : List ℕ). with_seen (s.seen ++ p ∷ []) (needs_from n id line xs rest)) (sym same) ∙ sym one ∙ s.read;
        marked = λ q below. marked_by n id p marks all len lt s.marked q below (eqb p q) refl ∙ ap (λ (xs : List ℕ). is_among xs q) same;
        pushed = ap (λ (ps : List (ℕ × ℕ)). ps ++ (id, p) ∷ []) s.pushed ∙ append_assoc old (pairs_of_line id s.seen) ((id, p) ∷ []) ∙ ap (λ (ps : List (ℕ × ℕ)). old ++ ps) (sym (map-append (λ (q : ℕ). (id, q)) s.seen (p ∷ [])));
      }

  pub stops : (e : Fault) (f : List ℕ) (rest : List (List ℕ)) (total : Needs) (old now : List (ℕ × ℕ)) → (s : SoFar n id line first marks (f ∷ rest) total old now)
      → need_of n id line (first ++ s.seen) f ≡ Err e → total ≡ Err e
  unfolding needs_from
  stops e f rest total old now s h =
      let one : with_seen s.seen (needs_from n id line (first ++ s.seen) (f ∷ rest)) ≡ Err e = rw h refl in sym s.read ∙ one

  pub ends : (total : Needs) (old now : List (ℕ × ℕ)) → (s : SoFar n id line first marks [] total old now) → total ≡ Ok s.seen
  unfolding needs_from
  ends total old now s = sym s.read ∙ ap (λ (xs : List ℕ). Ok xs) (append-nil s.seen)

  pub begins : (rest : List (List ℕ)) (old : List (ℕ × ℕ)) → AreMarked n id marks first → SoFar n id line first marks rest (needs_from n id line first rest) old old
  begins rest old marked =
      let none : first ++ [] ≡ first = append-nil first in
      record {
        seen = [];
        read = ap (λ (xs : List ℕ). with_seen [] (needs_from n id line xs rest)) none ∙ same (needs_from n id line first rest);
        marked = λ q below. marked q below ∙ ap (λ (xs : List ℕ). is_among xs q) (sym none);
        pushed = sym (append-nil old);
      }

-- behind the blocks that rise stand those that were marked
pub both_added : (n id line : ℕ) (fields left : List (List ℕ)) (old between new : List (ℕ × ℕ)) (ps : List ℕ) (first : AddsFirst n id fields left old between)
    → needs_from n id line first.seen left ≡ Ok ps → new ≡ between ++ pairs_of_line id ps
    → (qs : List ℕ) × (needs_from n id line [] fields ≡ Ok qs) × (new ≡ old ++ pairs_of_line id qs)
both_added n id line fields left old between new ps first behind pushed = (
  first.seen ++ ps,
  sym (first.read line) ∙ ap (with_seen first.seen) behind,
  pushed ∙ ap (λ (xs : List (ℕ × ℕ)). xs ++ pairs_of_line id ps) first.pairs ∙ append_assoc old (pairs_of_line id first.seen) (pairs_of_line id ps)
      ∙ ap (λ (xs : List (ℕ × ℕ)). old ++ xs) (sym (map-append (λ (p : ℕ). (id, p)) first.seen ps)),
)

pub first_alone : (n id line : ℕ) (fields : List (List ℕ)) (old new : List (ℕ × ℕ)) (first : AddsFirst n id fields [] old new)
    → (qs : List ℕ) × (needs_from n id line [] fields ≡ Ok qs) × (new ≡ old ++ pairs_of_line id qs)
unfolding needs_from
first_alone n id line fields old new first = (first.seen, sym (first.read line) ∙ ap (λ (xs : List ℕ). Ok xs) (append-nil first.seen), first.pairs)

pub first_stops : (n id line : ℕ) (fields left : List (List ℕ)) (old between : List (ℕ × ℕ)) (e : Fault) (first : AddsFirst n id fields left old between)
    → needs_from n id line first.seen left ≡ Err e → needs_from n id line [] fields ≡ Err e
first_stops n id line fields left old between e first behind = sym (first.read line) ∙ ap (with_seen first.seen) behind

-- a block that is none of those seen, nor the block itself, is read
pub need_new : (n id line : ℕ) (seen field : List ℕ) (p : ℕ) → whole_of field ≡ Some p → p < n → p ≢ id → All (λ q. q < p) seen → need_of n id line seen field ≡ Ok p
unfolding need_of
need_new n id line seen field p whole below other under =
    let a : ltb p n ≡ true = search (tests, rules) in
    let b : eqb p id ≡ false = ne_eqb p id other in
    let c : is_among seen p ≡ false = list_any_none (λ q. eqb q p) seen (All-weaker (λ q. q < p) (λ q. eqb q p ≡ false) (λ q lt. ne_eqb q p (λ same. omega (arith, lt, same))) seen under) in
    rw (whole, a, b, c) refl

-- what a loop over the fields keeps as long as the blocks rise
pub record Rises (n id : ℕ) (all rest : List (List ℕ)) (least : ℕ) (old now : List (ℕ × ℕ)) : Type 0 where
  pub adds : AddsFirst n id all rest old now
  pub under : All (λ q. q < least) adds.seen

pub rises_on : (n id : ℕ) (f : List ℕ) (rest all : List (List ℕ)) (least : ℕ) (old now : List (ℕ × ℕ)) (p : ℕ) → whole_of f ≡ Some p → p < n → p ≢ id → least ≤ p
    → Rises n id all (f ∷ rest) least old now → Rises n id all rest (p + 1) old (now ++ (id, p) ∷ [])
unfolding needs_from
rises_on n id f rest all least old now p whole below other le s =
    let seen = s.adds.seen in
    let under : All (λ q. q < p) seen = All-weaker (λ q. q < least) (λ q. q < p) (λ q lt. omega (arith, lt, le)) seen s.under in
    record {
      adds = record {
        seen = seen ++ p ∷ [];
        read = λ line.
            let h = need_new n id line seen f p whole below other under in
            let one : with_seen seen (needs_from n id line seen (f ∷ rest)) ≡ with_seen (seen ++ p ∷ []) (needs_from n id line (seen ++ p ∷ []) rest) = rw h (regroup seen p (needs_from n id line (seen ++ p ∷ []) rest)) in sym one ∙ s.adds.read line;
        below = All-push (λ q. q < n) seen p s.adds.below below;
        pairs = ap (λ (ps : List (ℕ × ℕ)). ps ++ (id, p) ∷ []) s.adds.pairs ∙ append_assoc old (pairs_of_line id seen) ((id, p) ∷ []) ∙ ap (λ (ps : List (ℕ × ℕ)). old ++ ps) (sym (map-append (λ (q : ℕ). (id, q)) seen (p ∷ [])));
      };
      under = All-push (λ q. q < p + 1) seen p (All-weaker (λ q. q < p) (λ q. q < p + 1) (λ q lt. omega (arith, lt)) seen under) (omega arith);
    }

pub rises_none : (n id : ℕ) (all : List (List ℕ)) (old : List (ℕ × ℕ)) → Rises n id all all 0 old old
rises_none n id all old = record {
  adds = record { seen = []; read = λ line. same (needs_from n id line [] all); below = λ k d l. absurd (omega (arith, l)); pairs = sym (append-nil old) };
  under = λ k d l. absurd (omega (arith, l));
}

needs_named : (id : ℕ) (needs : List ℕ) → map (λ pair. pair.1) (pairs_of_line id needs) ≡ needs
needs_named id [] = refl
needs_named id (p ∷ ps) = ap (λ (xs : List ℕ). p ∷ xs) (needs_named id ps)

-- the pairs that were added last are of this block
pub named_own : (id : ℕ) (old : List (ℕ × ℕ)) (needs : List ℕ) (new : List (ℕ × ℕ)) (count : ℕ) → count ≡ length old → new ≡ old ++ pairs_of_line id needs
    → (k : ℕ) → count ≤ k → k < length new → first_of new k ≡ id
named_own id old needs new count same is k from to =
    let pair : ℕ → ℕ × ℕ = λ p. (id, p) in
    let long = ap (λ (ps : List (ℕ × ℕ)). length ps) is in
    let mapped = length-map needs pair in
    ap (λ (ps : List (ℕ × ℕ)). first_of ps k) is
    ∙ ap (λ (q : ℕ × ℕ). q.0) (get_or-append_right old (map pair needs) (length old) k (0, 0) refl (omega arith)
    ∙ get_or-map pair needs (k - length old) 0 (0, 0) (omega (arith, length-append old (map pair needs))))

-- the blocks that the pairs name which were added last
pub named_last : (id : ℕ) (old : List (ℕ × ℕ)) (needs : List ℕ) (new : List (ℕ × ℕ)) (count : ℕ) (named : List ℕ) → count ≡ length old → new ≡ old ++ pairs_of_line id needs
    → named ≡ map (λ pair. pair.1) (drop count new) → named ≡ needs
named_last id old needs new count named same is are =
    are ∙ ap (λ (k : ℕ). map (λ (pair : ℕ × ℕ). pair.1) (drop k new)) same ∙ ap (λ (ps : List (ℕ × ℕ)). map (λ (pair : ℕ × ℕ). pair.1) (drop (length old) ps)) is
    ∙ ap (map (λ (pair : ℕ × ℕ). pair.1)) (drop-append_seam old (pairs_of_line id needs)) ∙ needs_named id needs
