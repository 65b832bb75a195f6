-- What the grammar of a precedence file spells is read, and what is read is spelled: predecessors, a line, all lines.
-- Its idea: reading keeps the list of what it saw on a line, so 'nothing twice' is 'each is new to what was seen before it'.
use Rattle.std.proofs.Common.{◌≡◌, ◌≢◌, ℕ, ◌+◌, ◌<◌, ◌≤◌, Bool, true, false, not, eqb, ltb, ◌||◌, List, [], ◌∷◌, ◌++◌, length, map, Option, Some, Ok, refl, sym, ap, subst, ◌∙◌, eq-eqb}
use Rattle.std.proofs.lemmas.Bool.{eqb-false, ne_eqb, le-leb, ltb-true, lt-ltb}
use Rattle.std.proofs.lemmas.List.{length-map}
use Rattle.std.proofs.lemmas.List.Folds.{list_any-append}
use Rattle.std.proofs.lemmas.List.Elements.{All-nil, All-cons, All-head, All-tail}
use Rattle.std.specs.List.{All}
use Rattle.faults.specs.declared.refusal.Refusal.TheVariants.{NotWhole, PredecessorOutOfRange, NeedsItself, PredecessorTwice}
use Rattle.minelib_reader.specs.Checks.{◌>>=◌, ok_if}
use Rattle.std.specs.Option.{ok_or}
use Rattle.minelib_reader.specs.Text.{Row}
use Rattle.minelib_reader.specs.Number.{whole_of}
use Rattle.pit_model.specs.Fixed.{is_among}
use Rattle.pit_model.specs.Size.{most_pairs}
use Rattle.minelib_reader.specs.Prec.{in_precedence, need_of, needs_from, front_of, needs_line, pairs_of_line, pairs_from}
use Rattle.minelib_reader.specs.PrecGrammar.{AreDistinct, numbers_of, SpellsLine, SpellsPairs}
use Rattle.minelib_reader.proofs.CheckLemmas.{passed, passing, same_value, value_there, test_holds}
use Rattle.minelib_reader.proofs.PrecFaultLemmas.{line_found}

-- none of them was seen
abbrev AreNew : List ℕ → List ℕ → Type 0
AreNew seen ps = All (λ q. is_among seen q ≡ false) ps

or_parts : (a b : Bool) → (a || (b || false)) ≡ false → (a ≡ false) × (b ≡ false)
or_parts true b e = absurd cc
or_parts false true e = absurd cc
or_parts false false e = (refl, refl)

or_false : (a b : Bool) → a ≡ false → b ≡ false → (a || (b || false)) ≡ false
or_false true b a-no b-no = absurd cc
or_false false true a-no b-no = absurd cc
or_false false false a-no b-no = refl

is_among-append : (seen : List ℕ) (p q : ℕ) → is_among (seen ++ p ∷ []) q ≡ (is_among seen q || (eqb p q || false))
is_among-append seen p q = list_any-append (λ x. eqb x q) seen (p ∷ [])

-- what is new behind one more that was seen is new, and other than that one
pub new_and_other : (seen ps : List ℕ) (p : ℕ) → AreNew (seen ++ p ∷ []) ps → AreNew seen ps × All (λ q. q ≢ p) ps
new_and_other seen ps p h = (
  (λ k d lt. (or_parts _ _ (sym (is_among-append seen p _) ∙ h k d lt)).0),
  (λ k d lt same. eqb-false p _ ((or_parts _ _ (sym (is_among-append seen p _) ∙ h k d lt)).1) (sym same)),
)

new_behind : (seen ps : List ℕ) (p : ℕ) → AreNew seen ps → All (λ q. q ≢ p) ps → AreNew (seen ++ p ∷ []) ps
new_behind seen ps p new other = λ k d lt. is_among-append seen p _ ∙ or_false _ _ (new k d lt) (ne_eqb p _ (λ same. other k d lt (sym same)))

not_true : (b : Bool) → not b ≡ true → b ≡ false
not_true true e = absurd cc
not_true false e = refl

cons_is : {A : Type 0} (x y : A) (xs ys : List A) → (x ∷ xs) ≡ (y ∷ ys) → (x ≡ y) × (xs ≡ ys)
cons_is x y xs ys e = (cc, cc)

-- ---- what is spelled is read

reads_need : (n id line : ℕ) (seen field : List ℕ) (p : ℕ) → whole_of field ≡ Some p → p < n → p ≢ id → is_among seen p ≡ false → need_of n id line seen field ≡ Ok p
unfolding need_of
reads_need n id line seen field p is below other new = rw (is, lt-ltb p n below, ne_eqb p id other, new) refl

reads_needs : (n id line : ℕ) (seen : List ℕ) (fields : List (List ℕ)) (ps : List ℕ) → numbers_of fields ≡ map Some ps → All (λ p. p < n) ps → All (λ p. p ≢ id) ps → AreDistinct ps → AreNew seen ps
    → needs_from n id line seen fields ≡ Ok ps
unfolding needs_from
reads_needs n id line seen [] [] are below others distinct new = refl
reads_needs n id line seen [] (p ∷ ps) are below others distinct new = absurd cc
reads_needs n id line seen (f ∷ fields) [] are below others distinct new = absurd cc
reads_needs n id line seen (f ∷ fields) (p ∷ ps) are below others distinct new =
    let is = cons_is (whole_of f) (Some p) (numbers_of fields) (map Some ps) are in
    let one = reads_need n id line seen f p is.0 (All-head (λ q. q < n) p ps below) (All-head (λ q. q ≢ id) p ps others) (All-head (λ q. is_among seen q ≡ false) p ps new) in
    let behind = reads_needs n id line (seen ++ p ∷ []) fields ps is.1 (All-tail (λ q. q < n) p ps below) (All-tail (λ q. q ≢ id) p ps others) distinct.1
    (new_behind seen ps p (All-tail (λ q. is_among seen q ≡ false) p ps new) distinct.0) in
    rw (one, behind) refl

all_new : (ps : List ℕ) → AreNew [] ps
all_new ps = λ k d lt. refl

reads_line : (n from total : ℕ) (r : Row) (id : ℕ) (needs : List ℕ) → SpellsLine n from total r id needs → needs_line n from total r ≡ Ok (id, needs)
unfolding needs_line front_of
reads_line n from total r id needs s =
    let count : length s.need_fields ≡ length needs = sym (length-map s.need_fields whole_of) ∙ ap length s.are_needs ∙ length-map needs Some in
    rw (
      s.fields,
      s.is_id,
      lt-ltb id n s.known,
      le-leb from id s.rising,
      s.is_count,
      eq-eqb (length s.need_fields) (length needs) count,
      le-leb (total + length needs) most_pairs s.few,
      reads_needs n id r.line [] s.need_fields needs s.are_needs s.below s.others s.distinct (all_new needs),
    ) refl

pub reads : (n from total : ℕ) (rows : List Row) (pairs : List (ℕ × ℕ)) → SpellsPairs n from total rows pairs → pairs_from n from total rows ≡ Ok pairs
unfolding pairs_from
reads n from total [] pairs s = ap (λ (x : List (ℕ × ℕ)). Ok x) (sym s)
reads n from total (r ∷ rows) pairs s =
    let line = reads_line n from total r s.0 s.1 s.3 in
    let behind = reads n (s.0 + 1) (total + length s.1) rows s.2 s.5 in
    rw (line, behind) (ap (λ (x : List (ℕ × ℕ)). Ok x) (sym s.4))

-- ---- what is read is spelled

pub record NeedFound (n id : ℕ) (seen field : List ℕ) (p : ℕ) : Type 0 where
  pub is : whole_of field ≡ Some p
  pub below : p < n
  pub other : p ≢ id
  pub new : is_among seen p ≡ false

need_found : (n id line : ℕ) (seen field : List ℕ) (p : ℕ) → need_of n id line seen field ≡ Ok p → NeedFound n id seen field p
unfolding need_of
need_found n id line seen field p e =
    let last = λ (q : ℕ) (u : Unit {0}). ok_if (not (is_among seen q)) (in_precedence PredecessorTwice line) >>= λ new. passing q in
    let middle = λ (q : ℕ) (u : Unit {0}). ok_if (not (eqb q id)) (in_precedence NeedsItself line) >>= last q in
    let first = λ (q : ℕ). ok_if (ltb q n) (in_precedence PredecessorOutOfRange line) >>= middle q in
    let a = passed (ok_or (whole_of field) (in_precedence NotWhole line)) first p e in
    let b = passed (ok_if (ltb a.value n) (in_precedence PredecessorOutOfRange line)) (middle a.value) p a.behind in
    let c = passed (ok_if (not (eqb a.value id)) (in_precedence NeedsItself line)) (last a.value) p b.behind in
    let d = passed (ok_if (not (is_among seen a.value)) (in_precedence PredecessorTwice line)) (λ new. passing a.value) p c.behind in
    let all : NeedFound n id seen field a.value = record {
      is = value_there (whole_of field) (in_precedence NotWhole line) a.value a.here;
      below = ltb-true a.value n (test_holds (ltb a.value n) (in_precedence PredecessorOutOfRange line) b.value b.here);
      other = eqb-false a.value id (not_true (eqb a.value id) (test_holds (not (eqb a.value id)) (in_precedence NeedsItself line) c.value c.here));
      new = not_true (is_among seen a.value) (test_holds (not (is_among seen a.value)) (in_precedence PredecessorTwice line) d.value d.here);
    } in
    subst (λ (x : ℕ). NeedFound n id seen field x) (same_value a.value p d.behind) all

pub record NeedsFound (n id : ℕ) (seen : List ℕ) (fields : List (List ℕ)) (ps : List ℕ) : Type 0 where
  pub are : numbers_of fields ≡ map Some ps
  pub below : All (λ p. p < n) ps
  pub others : All (λ p. p ≢ id) ps
  pub distinct : AreDistinct ps
  pub new : AreNew seen ps

needs_found : (n id line : ℕ) (seen : List ℕ) (fields : List (List ℕ)) (ps : List ℕ) → needs_from n id line seen fields ≡ Ok ps → NeedsFound n id seen fields ps
unfolding needs_from
needs_found n id line seen [] ps e =
    let none : NeedsFound n id seen [] [] = record { are = refl; below = All-nil (λ p. p < n); others = All-nil (λ p. p ≢ id); distinct = tt; new = All-nil (λ q. is_among seen q ≡ false) } in
    subst (λ (x : List ℕ). NeedsFound n id seen [] x) (same_value [] ps e) none
needs_found n id line seen (f ∷ fields) ps e =
    let a = passed (need_of n id line seen f) (λ p. needs_from n id line (seen ++ p ∷ []) fields >>= λ others. passing (p ∷ others)) ps e in
    let b = passed (needs_from n id line (seen ++ a.value ∷ []) fields) (λ others. passing (a.value ∷ others)) ps a.behind in
    let one = need_found n id line seen f a.value a.here in
    let ih = needs_found n id line (seen ++ a.value ∷ []) fields b.value b.here in
    let apart = new_and_other seen b.value a.value ih.new in
    let all : NeedsFound n id seen (f ∷ fields) (a.value ∷ b.value) = record {
      are = ap (λ (x : Option ℕ). x ∷ numbers_of fields) one.is ∙ ap (λ (xs : List (Option ℕ)). Some a.value ∷ xs) ih.are;
      below = All-cons (λ p. p < n) a.value b.value one.below ih.below;
      others = All-cons (λ p. p ≢ id) a.value b.value one.other ih.others;
      distinct = (apart.1, ih.distinct);
      new = All-cons (λ q. is_among seen q ≡ false) a.value b.value one.new apart.0;
    } in
    subst (λ (x : List ℕ). NeedsFound n id seen (f ∷ fields) x) (same_value (a.value ∷ b.value) ps b.behind) all

line_spelled : (n from total : ℕ) (r : Row) (line : ℕ × List ℕ) → needs_line n from total r ≡ Ok line → SpellsLine n from total r line.0 line.1
line_spelled n from total r line e =
    let f = line_found n from total r line e in
    let s = needs_found n line.0 r.line [] f.fields line.1 f.needs in
    record {
      id_field = f.front.id_field;
      count_field = f.front.count_field;
      need_fields = f.fields;
      fields = f.front.fields;
      is_id = f.front.is_id;
      known = f.front.known;
      rising = f.front.rising;
      is_count = f.front.is_count ∙ ap (λ (k : ℕ). Some k) f.counted;
      few = subst (λ (k : ℕ). total + k ≤ most_pairs) f.counted f.front.few;
      are_needs = s.are;
      below = s.below;
      others = s.others;
      distinct = s.distinct;
    }

pub spelled : (n from total : ℕ) (rows : List Row) (pairs : List (ℕ × ℕ)) → pairs_from n from total rows ≡ Ok pairs → SpellsPairs n from total rows pairs
unfolding pairs_from
spelled n from total [] pairs e = sym (same_value [] pairs e)
spelled n from total (r ∷ rows) pairs e =
    let a = passed (needs_line n from total r) (λ line. pairs_from n (line.0 + 1) (total + length line.1) rows >>= λ others. passing (pairs_of_line line.0 line.1 ++ others)) pairs e in
    let b = passed (pairs_from n (a.value.0 + 1) (total + length a.value.1) rows) (λ others. passing (pairs_of_line a.value.0 a.value.1 ++ others)) pairs a.behind in
    (a.value.0, a.value.1, b.value, line_spelled n from total r a.value a.here, sym (same_value (pairs_of_line a.value.0 a.value.1 ++ b.value) pairs b.behind), spelled n (a.value.0 + 1) (total + length a.value.1) rows b.value b.here)
