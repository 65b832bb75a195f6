-- What the grammar of a file of fixed blocks spells is read, and what is read is spelled: a line, all lines. And what is
-- spelled are two rising lists without a common block, since ids rise from line to line.
use Rattle.std.proofs.Common.{◌≡◌, ℕ, zero, suc, ◌+◌, ◌<◌, ◌≤◌, Bool, true, false, ◌||◌, eqb, ltb, leb, ◌&&◌, ◌⊎◌, inl, inr, List, [], ◌∷◌, Some, None, Ok, refl, sym, ap, subst, ◌∙◌, arith}
use Rattle.std.specs.Prelude.{codes, IsTrue, if◌then◌else◌}
use Rattle.std.specs.List.{All}
use Rattle.std.specs.List.Sorted.{IsStrictlyIncreasing}
use Rattle.std.specs.Str.{bytes_eq}
use Rattle.std.specs.Option.{ok_or}
use Rattle.std.proofs.lemmas.Bool.{eqb-true, leb-true, ltb-true, le-leb, lt-ltb, and_parts, and_from}
use Rattle.std.proofs.lemmas.List.Elements.{All-nil, All-cons}
use Rattle.std.proofs.lemmas.Option.{same_Some}
use Rattle.std.proofs.lemmas.Slice.Eq.{bytes_eq-Decides}
use Rattle.faults.specs.declared.refusal.Refusal.TheVariants.{WrongHeader, NotWhole, IdOutOfPlace, WrongFieldCount}
use Rattle.pit_model.specs.Fixed.{AreFixable, FixedLists, is_among}
use Rattle.minelib_reader.specs.Checks.{◌>>=◌, ok_if}
use Rattle.minelib_reader.specs.Text.{Row, two_of}
use Rattle.minelib_reader.specs.Number.{whole_of}
use Rattle.minelib_reader.specs.Fixed.{in_fixed, fixing_word, is_forced_by, fixed_line, fixed_lists, fixed_from, with_block}
use Rattle.minelib_reader.specs.FixedGrammar.{SpellsFixedLine, SpellsFixedLines}
use Rattle.minelib_reader.proofs.CheckLemmas.{passed, passing, same_value, value_there, test_holds, both_fields}

-- ---- what is spelled is read

reads_word : (is_forced : Bool) → is_forced_by (fixing_word is_forced) ≡ Some is_forced
unfolding is_forced_by
reads_word true = refl
reads_word false = refl

reads_line : (n from : ℕ) (r : Row) (is_forced : Bool) (id : ℕ) → SpellsFixedLine n from r is_forced id → fixed_line n from r ≡ Ok (is_forced, id)
unfolding fixed_line
reads_line n from r is_forced id s =
    let place : (ltb id n && leb from id) ≡ true = and_from (ltb id n) (leb from id) (lt-ltb id n s.known) (le-leb from id s.rising) in
    rw (s.fields, reads_word is_forced, s.is_id, place) refl

pub reads : (n from : ℕ) (rows : List Row) (lists : FixedLists) → SpellsFixedLines n from rows lists → fixed_from n from rows ≡ Ok lists
unfolding fixed_from
reads n from [] lists s = ap (λ (x : FixedLists). Ok x) (sym s)
reads n from (r ∷ rows) lists s =
    let line = reads_line n from r s.0 s.1 s.3 in
    let behind = reads n (s.1 + 1) rows s.2 s.5 in
    rw (line, behind) (ap (λ (x : FixedLists). Ok x) (sym s.4))

-- ---- what is read is spelled

word_found : (word : List ℕ) (is_forced : Bool) → is_forced_by word ≡ Some is_forced → word ≡ fixing_word is_forced
unfolding is_forced_by
word_found word is_forced e = by_tests (bytes_eq word (codes "in")) (bytes_eq word (codes "out")) refl refl e
  where
    by_tests : (a b : Bool) → bytes_eq word (codes "in") ≡ a → bytes_eq word (codes "out") ≡ b → (if a then Some true else (if b then Some false else None)) ≡ Some is_forced → word ≡ fixing_word is_forced
    by_tests true b first second e = (bytes_eq-Decides word (codes "in")).0 first ∙ ap fixing_word (same_Some true is_forced e)
    by_tests false true first second e = (bytes_eq-Decides word (codes "out")).0 second ∙ ap fixing_word (same_Some false is_forced e)
    by_tests false false first second e = absurd cc

pub line_found : (n from : ℕ) (r : Row) (line : Bool × ℕ) → fixed_line n from r ≡ Ok line → SpellsFixedLine n from r line.0 line.1
unfolding fixed_line
line_found n from r line e =
    let last = λ (b : Bool) (id : ℕ). ok_if (ltb id n && leb from id) (in_fixed IdOutOfPlace r.line) >>= λ place. passing (b, id) in
    let number = λ (p : List ℕ × List ℕ) (b : Bool). ok_or (whole_of p.1) (in_fixed NotWhole r.line) >>= last b in
    let a = passed (ok_or (two_of r.fields) (in_fixed WrongFieldCount r.line)) (λ p. ok_or (is_forced_by p.0) (in_fixed WrongHeader r.line) >>= number p) line e in
    let b = passed (ok_or (is_forced_by a.value.0) (in_fixed WrongHeader r.line)) (number a.value) line a.behind in
    let c = passed (ok_or (whole_of a.value.1) (in_fixed NotWhole r.line)) (last b.value) line b.behind in
    let d = passed (ok_if (ltb c.value n && leb from c.value) (in_fixed IdOutOfPlace r.line)) (λ place. passing (b.value, c.value)) line c.behind in
    let place = and_parts (ltb c.value n) (leb from c.value) (test_holds (ltb c.value n && leb from c.value) (in_fixed IdOutOfPlace r.line) d.value d.here) in
    let word = word_found a.value.0 b.value (value_there (is_forced_by a.value.0) (in_fixed WrongHeader r.line) b.value b.here) in
    let all : SpellsFixedLine n from r b.value c.value = record {
      field = a.value.1;
      fields = both_fields r.fields a.value (value_there (two_of r.fields) (in_fixed WrongFieldCount r.line) a.value a.here) ∙ ap (λ (x : List ℕ). x ∷ a.value.1 ∷ []) word;
      is_id = value_there (whole_of a.value.1) (in_fixed NotWhole r.line) c.value c.here;
      known = ltb-true c.value n place.0;
      rising = leb-true from c.value place.1;
    } in
    subst (λ (x : Bool × ℕ). SpellsFixedLine n from r x.0 x.1) (same_value (b.value, c.value) line d.behind) all

pub spelled : (n from : ℕ) (rows : List Row) (lists : FixedLists) → fixed_from n from rows ≡ Ok lists → SpellsFixedLines n from rows lists
unfolding fixed_from
spelled n from [] lists e = sym (same_value (fixed_lists [] []) lists e)
spelled n from (r ∷ rows) lists e =
    let a = passed (fixed_line n from r) (λ line. fixed_from n (line.1 + 1) rows >>= λ others. passing (with_block line.0 line.1 others)) lists e in
    let b = passed (fixed_from n (a.value.1 + 1) rows) (λ others. passing (with_block a.value.0 a.value.1 others)) lists a.behind in
    (a.value.0, a.value.1, b.value, line_found n from r a.value a.here, sym (same_value (with_block a.value.0 a.value.1 b.value) lists b.behind), spelled n (a.value.1 + 1) rows b.value b.here)

-- ---- what is spelled may be fixed

-- blocks below n, each at least from, rising
record IsRisingFrom (n from : ℕ) (ids : List ℕ) : Type 0 where
  below : All (λ u. u < n) ids
  least : All (λ u. from ≤ u) ids
  rising : IsStrictlyIncreasing ids

rising_none : (n from : ℕ) → IsRisingFrom n from []
rising_none n from = record { below = All-nil (λ u. u < n); least = All-nil (λ u. from ≤ u); rising = λ k l. absurd (omega arith) }

rising_lower : (n from next : ℕ) (ids : List ℕ) → from ≤ next → IsRisingFrom n next ids → IsRisingFrom n from ids
rising_lower n from next ids le h = record { below = h.below; least = λ k d l. let up = h.least k d l in omega arith; rising = h.rising }

rising_more : (n from id : ℕ) (ids : List ℕ) → id < n → from ≤ id → IsRisingFrom n (id + 1) ids → IsRisingFrom n from (id ∷ ids)
rising_more n from id ids known le h = record {
  below = All-cons (λ u. u < n) id ids known h.below;
  least = All-cons (λ u. from ≤ u) id ids le (λ k d l. let up = h.least k d l in omega arith);
  rising = step;
}
  where
    step : IsStrictlyIncreasing (id ∷ ids)
    step zero l = let up = h.least 0 0 (omega (arith, l)) in omega (arith, up)
    step (suc k) l = let next : suc k + 1 ≡ suc (k + 1) = omega arith in rw next (h.rising k (omega (arith, l)))

record AreFixableFrom (n from : ℕ) (lists : FixedLists) : Type 0 where
  forced : IsRisingFrom n from lists.forced
  barred : IsRisingFrom n from lists.barred
  apart : (u : ℕ) → IsTrue (is_among lists.forced u) → IsTrue (is_among lists.barred u) → ⊥

none_fixable : (n from : ℕ) → AreFixableFrom n from (fixed_lists [] [])
none_fixable n from = record { forced = rising_none n from; barred = rising_none n from; apart = λ u held never. absurd cc }

among_cons : (id u : ℕ) (ids : List ℕ) → IsTrue (is_among (id ∷ ids) u) → (id ≡ u) ⊎ IsTrue (is_among ids u)
among_cons id u ids h = by_test (eqb id u) refl h
  where
    by_test : (b : Bool) → eqb id u ≡ b → (b || is_among ids u) ≡ true → (id ≡ u) ⊎ IsTrue (is_among ids u)
    by_test true same h = inl (eqb-true id u same)
    by_test false other h = inr h

among_least : (from : ℕ) (ids : List ℕ) (u : ℕ) → All (λ v. from ≤ v) ids → IsTrue (is_among ids u) → from ≤ u
among_least from [] u least h = absurd cc
among_least from (id ∷ ids) u least h = elim (among_cons id u ids h) [
  | inl same ↦ let le = least 0 0 (omega arith) in omega (arith, le, same)
  | inr held ↦ among_least from ids u (λ k d l. least (suc k) d (omega arith)) held
]

-- a block before those of one list is in neither
more_fixable : (n from id : ℕ) (is_forced : Bool) (lists : FixedLists) → id < n → from ≤ id → AreFixableFrom n (id + 1) lists → AreFixableFrom n from (with_block is_forced id lists)
more_fixable n from id true lists known le h = record {
  forced = rising_more n from id lists.forced known le h.forced;
  barred = rising_lower n from (id + 1) lists.barred (omega arith) h.barred;
  apart = λ u held barred. elim (among_cons id u lists.forced held) [
    | inl same ↦ let up = among_least (id + 1) lists.barred u h.barred.least barred in absurd (omega (arith, up, same))
    | inr more ↦ h.apart u more barred
  ];
}
more_fixable n from id false lists known le h = record {
  forced = rising_lower n from (id + 1) lists.forced (omega arith) h.forced;
  barred = rising_more n from id lists.barred known le h.barred;
  apart = λ u forced held. elim (among_cons id u lists.barred held) [
    | inl same ↦ let up = among_least (id + 1) lists.forced u h.forced.least forced in absurd (omega (arith, up, same))
    | inr more ↦ h.apart u forced more
  ];
}

all_fixable : (n from : ℕ) (rows : List Row) (lists : FixedLists) → SpellsFixedLines n from rows lists → AreFixableFrom n from lists
all_fixable n from [] lists s = subst (AreFixableFrom n from) (sym s) (none_fixable n from)
all_fixable n from (r ∷ rows) lists s =
    subst (AreFixableFrom n from) (sym s.4) (more_fixable n from s.1 s.0 s.2 s.3.known s.3.rising (all_fixable n (s.1 + 1) rows s.2 s.5))

pub fixable : (n : ℕ) (rows : List Row) (lists : FixedLists) → SpellsFixedLines n 0 rows lists → AreFixable n lists
fixable n rows lists s =
    let h = all_fixable n 0 rows lists s in
    record {
      forced_below = h.forced.below;
      barred_below = h.barred.below;
      forced_rising = h.forced.rising;
      barred_rising = h.barred.rising;
      apart = h.apart;
    }
