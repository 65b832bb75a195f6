-- Two prefixes of one list are equal where they have as many arcs; with an arc behind one of them, where the last is the same too.
use Rattle.std.proofs.Common.{◌≡◌, ℕ, ◌+◌, Bool, true, false, List, [], ◌∷◌, ◌++◌, map, length, refl, sym, ◌∙◌, subst, arith}
use Rattle.std.specs.Prelude.{◌==◌, ◌&&◌}
use Rattle.std.proofs.lemmas.Bool.{eq-eqb, ne_eqb}
use mathlib.Core.List.{IsPrefix}
use Rattle.versions.specs.declared.link.ArcLink.{ArcLink}
use Rattle.versions.specs.ArcList.{arcs_of, last_of, last_after}
use Rattle.versions.specs.Published.{last_arc, last_arc_after, are_same}

alike : {A : Type 0} (xs ys r s : List A) → xs ++ r ≡ ys ++ s → length xs ≡ length ys → xs ≡ ys
alike [] [] r s e h = refl
alike [] (y ∷ ys) r s e h = absurd (omega arith)
alike (x ∷ xs) [] r s e h = absurd (omega arith)
alike (x ∷ xs) (y ∷ ys) r s e h = let rest = alike xs ys r s (cc e) (omega arith) in cc (e, rest)

-- two prefixes of one list, as long as each other
pub as_long : {A : Type 0} (xs ys zs : List A) → IsPrefix xs zs → IsPrefix ys zs → length xs ≡ length ys → xs ≡ ys
as_long xs ys zs p q h = alike xs ys p.0 q.0 (p.1 ∙ sym q.1) h

same_itself : (xs : List ℕ) → are_same xs xs ≡ true
same_itself xs = rw (eq-eqb (length xs) (length xs) refl, eq-eqb (last_arc xs) (last_arc xs) refl) refl

pub same_where : (xs ys : List ℕ) → xs ≡ ys → are_same xs ys ≡ true
same_where xs ys e = subst (λ zs. are_same xs zs ≡ true) e (same_itself xs)

and_false : (b : Bool) → (b && false) ≡ false
and_false true = refl
and_false false = refl

pub not_same_last : (xs ys : List ℕ) → (last_arc xs ≡ last_arc ys → ⊥) → are_same xs ys ≡ false
not_same_last xs ys not = rw (ne_eqb (last_arc xs) (last_arc ys) not) (and_false (length xs == length ys))

last_arc_after-snoc : (x : ℕ) (xs : List ℕ) (arc : ℕ) → last_arc_after x (xs ++ arc ∷ []) ≡ arc
last_arc_after-snoc x [] arc = refl
last_arc_after-snoc x (y ∷ ys) arc = last_arc_after-snoc y ys arc

pub last_arc-snoc : (xs : List ℕ) (arc : ℕ) → last_arc (xs ++ arc ∷ []) ≡ arc
last_arc-snoc xs arc = last_arc_after-snoc 0 xs arc

last_after_arcs : (x : ArcLink) (xs : List ArcLink) → last_arc_after x.arc (map (λ (y : ArcLink). y.arc) xs) ≡ (last_after x xs).arc
last_after_arcs x [] = refl
last_after_arcs x (y ∷ ys) = last_after_arcs y ys

-- the last arc is that of the last link
pub last_of_arcs : (links : List ArcLink) (n : ℕ) → length links ≡ n + 2 → last_arc (arcs_of links) ≡ (last_of links).arc
last_of_arcs [] n h = absurd (omega (arith, h))
last_of_arcs (x ∷ []) n h = absurd (omega (arith, h))
last_of_arcs (x ∷ y ∷ ys) n h = last_after_arcs y ys
