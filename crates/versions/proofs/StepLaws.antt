-- Each kind of step keeps the rule of the list.
use Rattle.std.proofs.Common.{◌≡◌, ℕ, ◌+◌, ◌*◌, ◌<◌, ◌==◌, Bool, true, false, List, [], ◌∷◌, ◌++◌, length, slice_set, refl, ap, sym, ◌∙◌, subst, arith, inl, length-append, None}
use Rattle.std.proofs.lemmas.List.{append-nil, length-set}
use Rattle.std.proofs.lemmas.Bool.Decides.{nat_tests}
use mathlib.Core.List.{IsPrefix}
use prog.Atomic.{either}
use Rattle.logbook.specs.Pages.{Cell, cell, keeps, gives, adds, no_nib, Nib, may_write, step, Moves}
use Rattle.versions.specs.declared.link.ArcLink.{ArcLink}
use Rattle.versions.specs.ArcList.{link, last_after, last_of, word_of_links, IsHome, AreUsedAfter, AreUsed, IsList, OpensList, Widens, AddsLink}
use Rattle.versions.proofs.Lists.{last_after-snoc}
use Rattle.versions.proofs.Cells.{home_set, home_more, home_new, word_set, word_more, word_else, some_set, some_more, used_where, used-snoc, ends_here}

abbrev pub shown : List ArcLink → List ArcLink
shown links = []

abbrev pub moved : List ArcLink → List ArcLink → ℕ → Type 0
moved before after answer = Unit {0}

used_in : (cells next : List Cell) → ((j : ℕ) → IsHome cells j → IsHome next j) → (links : List ArcLink) → AreUsed cells links → AreUsed next links
used_in cells next to [] used = tt
used_in cells next to (x ∷ xs) used = used_where cells next to x xs used

-- the cells after a step that leaves n in the word
abbrev stepped : List Cell → ℕ → List Cell
stepped cells n = slice_set cells 0 (n, true)

-- the word is written as it was
same : (cells : List Cell) (links : List ArcLink) (n : ℕ) → IsList cells links → n ≡ word_of_links links → IsList (stepped cells n) (links ++ [])
same cells links n kept is = subst (IsList (stepped cells n)) (sym (append-nil links)) record {
  word = word_set cells n kept.some ∙ ap (λ (m : ℕ). (m, true)) is;
  some = some_set cells 0 (n, true) kept.some;
  small = kept.small;
  used = used_in cells (stepped cells n) (λ j. home_set cells j 0 n) links kept.used;
}

-- a cell more
wider : (cells : List Cell) (links : List ArcLink) → IsList cells links → IsList (cells ++ (0, false) ∷ []) links
wider cells links kept = record {
  word = word_more cells (0, false) kept.some ∙ kept.word;
  some = some_more cells (0, false);
  small = kept.small;
  used = used_in cells (cells ++ (0, false) ∷ []) (λ j. home_more cells j (0, false)) links kept.used;
}

-- an exchange of 0 by 0 writes what was there
zeros : (n : ℕ) (b : Bool) → (n == 0) ≡ b → either b 0 n ≡ n
zeros n true is = sym (grind (arith, nat_tests))
zeros n false is = refl

pub widens :
    (seen : List ArcLink) (blank : ArcLink)
    → Moves IsList shown moved 0 (seen, (no_nib, None)) (λ n. either (n == 0) 0 n) (Widens (step 0 0 0 blank) (seen, (no_nib, None)))
widens seen blank cells links kept begins away =
    let found : ℕ = (cell cells 0).0 in
    let left : ℕ = either (found == 0) 0 found in
    let is : left ≡ word_of_links links = zeros found (found == 0) refl ∙ ap (λ (c : Cell). c.0) kept.word in
    (kept.some, ap (λ (c : Cell). c.1) kept.word, (adds, [], None, tt, wider (stepped cells left) (links ++ []) (same cells links left kept is), inl (refl, refl), refl))

-- the opening link
pub begins :
    (blank : ArcLink)
    → Moves IsList shown moved 0 ([], (no_nib, None)) (λ n. either (n == 0) 67108864 n) (OpensList (step 0 0 67108864 blank) ([], (no_nib, None)))
begins blank cells [] kept pre away =
    let is : (cell cells 0).0 ≡ 0 = ap (λ (c : Cell). c.0) kept.word in
    let first : List ArcLink = link 0 (length cells) ∷ [] in
    let after : ℕ → List Cell = λ n. stepped cells (either (n == 0) 67108864 n) ++ (0, false) ∷ [] in
    let begun : IsList (stepped cells 67108864 ++ (0, false) ∷ []) first = record {
      word = word_more (stepped cells 67108864) (0, false) (some_set cells 0 (67108864, true) kept.some) ∙ word_set cells 67108864 kept.some;
      some = some_more (stepped cells 67108864) (0, false);
      small = omega arith;
      used = tt;
    } in
    (kept.some, ap (λ (c : Cell). c.1) kept.word, (adds, first, None, tt, subst (λ (n : ℕ). IsList (after n) first) (sym is) begun, inl (refl, refl), λ z. (refl, refl)))
begins blank cells (x ∷ xs) kept pre away =
    let links : List ArcLink = x ∷ xs in
    let found : ℕ = (cell cells 0).0 in
    let left : ℕ = either (found == 0) 67108864 found in
    let was : found ≡ word_of_links links = ap (λ (c : Cell). c.0) kept.word in
    let large : 0 < found = omega (arith, was) in
    let test : (found == 0) ≡ false = grind (arith, nat_tests, large) in
    let is : left ≡ word_of_links links = ap (λ (b : Bool). either b 67108864 found) test ∙ was in
    (kept.some, ap (λ (c : Cell). c.1) kept.word, (keeps, [], None, tt, same cells links left kept is, inl (refl, refl), λ z. absurd (omega (arith, z, large))))

-- who has the pen of the last link's cell has seen the whole list
pub whole :
    (cells : List Cell) (seen links : List ArcLink) → IsList cells links → IsPrefix seen links → 0 < length seen → (cell cells (last_of seen).next).1 ≡ false
    → seen ≡ links
whole cells [] links kept pre some away = absurd (omega (arith, some))
whole cells (x ∷ xs) links kept pre some away =
    let used : AreUsedAfter cells x (xs ++ pre.0) = subst (AreUsed cells) (sym pre.1) kept.used in
    sym (append-nil (x ∷ xs)) ∙ (ap (λ r. (x ∷ xs) ++ r) (sym (ends_here cells x xs pre.0 used away)) ∙ pre.1)

word_of-snoc : (x : ArcLink) (xs : List ArcLink) (arc next : ℕ) → word_of_links ((x ∷ xs) ++ link arc next ∷ []) ≡ (length (x ∷ xs) + 1) * 67108864 + arc
word_of-snoc x xs arc next =
    let count : length (xs ++ link arc next ∷ []) ≡ length xs + 1 = length-append xs (link arc next ∷ []) in
    ap (λ (l : ArcLink). length ((x ∷ xs) ++ link arc next ∷ []) * 67108864 + l.arc) (last_after-snoc x xs (link arc next)) ∙ omega (arith, count)

-- the word is written, and the pen's cell comes home
written :
    (cells : List Cell) (x : ArcLink) (xs : List ArcLink) (pen : Nib) (arc next n : ℕ) → IsList cells (x ∷ xs) → arc < 67108864 → pen.key < length cells
    → (cell cells pen.key).1 ≡ false → pen.key ≡ (last_after x xs).next → n ≡ (length (x ∷ xs) + 1) * 67108864 + arc
    → IsList (slice_set (stepped cells n) pen.key (pen.value, true)) ((x ∷ xs) ++ link arc next ∷ [])
written cells x xs pen arc next n kept fits within away key is =
    let after : List Cell = slice_set (stepped cells n) pen.key (pen.value, true) in
    let there : pen.key < length (stepped cells n) = omega (arith, within, length-set cells 0 (n, true)) in
    let home : IsHome after (last_after x xs).next = subst (IsHome after) key (home_new (stepped cells n) pen.key pen.value there) in record {
      word = word_else cells pen.key n pen.value kept.some (ap (λ (c : Cell). c.1) kept.word) away ∙ ap (λ (m : ℕ). (m, true)) (is ∙ sym (word_of-snoc x xs arc next));
      some = some_set (stepped cells n) pen.key (pen.value, true) (some_set cells 0 (n, true) kept.some);
      small = subst (λ (l : ArcLink). l.arc < 67108864) (sym (last_after-snoc x xs (link arc next))) fits;
      used = used-snoc after x xs (link arc next) (used_where cells after (λ j h. home_set (stepped cells n) j pen.key pen.value (home_set cells j 0 n h)) x xs kept.used) home;
    }

-- one link more
pub writes :
    (seen : List ArcLink) (pen : Nib) (arc next old new : ℕ) → 0 < length seen → pen.right ≡ may_write → pen.key ≡ (last_of seen).next → arc < 67108864
    → old ≡ length seen * 67108864 + (last_of seen).arc → new ≡ (length seen + 1) * 67108864 + arc
    → Moves IsList shown moved 0 (seen, (pen, None)) (λ n. either (n == old) new n) (AddsLink (step 0 old new (link arc next)) (seen, (pen, None)))
writes [] pen arc next old new some right key fits was is cells links kept pre away = absurd (omega (arith, some))
writes (x ∷ xs) pen arc next old new some right key fits was is cells links kept pre away =
    let seen : List ArcLink = x ∷ xs in
    let out = away right in
    let all : seen ≡ links = whole cells seen links kept pre some (subst (λ (k : ℕ). (cell cells k).1 ≡ false) key out.1) in
    let mine : IsList cells seen = subst (IsList cells) (sym all) kept in
    let found : ℕ = (cell cells 0).0 in
    let left : ℕ = either (found == old) new found in
    let expected : found ≡ old = ap (λ (c : Cell). c.0) mine.word ∙ sym was in
    let test : (found == old) ≡ true = grind (arith, nat_tests, expected) in
    let now : left ≡ (length seen + 1) * 67108864 + arc = ap (λ (b : Bool). either b new found) test ∙ is in
    let rule : IsList (slice_set (stepped cells left) pen.key (pen.value, true)) (links ++ link arc next ∷ []) =
    subst (λ (l : List ArcLink). IsList (slice_set (stepped cells left) pen.key (pen.value, true)) (l ++ link arc next ∷ [])) all
    (written cells x xs pen arc next left mine fits out.0 out.1 key now) in
    (kept.some, ap (λ (c : Cell). c.1) kept.word, (gives, link arc next ∷ [], None, right, rule, inl (refl, refl), ap (λ l. l ++ link arc next ∷ []) (sym all)))
