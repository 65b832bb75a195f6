-- Prefixes of the list, and its last link.
use Rattle.std.proofs.Common.{◌≡◌, ℕ, ◌+◌, ◌*◌, ◌≤◌, ◌<◌, List, [], ◌∷◌, ◌++◌, map, length, refl, ap, sym, ◌∙◌, subst, arith, length-append, append_assoc}
use mathlib.Core.List.{IsPrefix}
use Rattle.versions.specs.declared.link.ArcLink.{ArcLink}
use Rattle.versions.specs.ArcList.{arcs_of, last_of, last_after, word_of_links}

shorter : {A : Type 0} (xs ys r s : List A) → xs ++ r ≡ ys ++ s → length xs ≤ length ys → IsPrefix xs ys
shorter [] ys r s e le = (ys, refl)
shorter (x ∷ xs) [] r s e le = absurd (omega arith)
shorter (x ∷ xs) (y ∷ ys) r s e le = let rest = shorter xs ys r s (cc e) (omega arith) in (rest.0, cc (e, rest.1))

-- of two prefixes of one list the shorter begins the other
pub begins : {A : Type 0} (xs ys zs : List A) → IsPrefix xs zs → IsPrefix ys zs → length xs ≤ length ys → IsPrefix xs ys
begins xs ys zs p q le = shorter xs ys p.0 q.0 (p.1 ∙ sym q.1) le

pub through : {A : Type 0} (xs ys zs : List A) → IsPrefix xs ys → IsPrefix ys zs → IsPrefix xs zs
through xs ys zs p q = (p.0 ++ q.0, sym (append_assoc xs p.0 q.0) ∙ (ap (λ w. w ++ q.0) p.1 ∙ q.1))

arcs_both : (xs ys : List ArcLink) → map (λ (x : ArcLink). x.arc) (xs ++ ys) ≡ map (λ (x : ArcLink). x.arc) xs ++ map (λ (x : ArcLink). x.arc) ys
arcs_both [] ys = refl
arcs_both (x ∷ xs) ys = ap (λ l. x.arc ∷ l) (arcs_both xs ys)

pub arcs_begin : (xs ys : List ArcLink) → IsPrefix xs ys → IsPrefix (arcs_of xs) (arcs_of ys)
arcs_begin [] ys p = (arcs_of ys, refl)
arcs_begin (x ∷ xs) ys p = (map (λ (y : ArcLink). y.arc) p.0, sym (arcs_both xs p.0) ∙ ap arcs_of p.1)

pub last_after-snoc : (x : ArcLink) (xs : List ArcLink) (r : ArcLink) → last_after x (xs ++ r ∷ []) ≡ r
last_after-snoc x [] r = refl
last_after-snoc x (y ∷ ys) r = last_after-snoc y ys r

pub last_of-snoc : (xs : List ArcLink) (r : ArcLink) → last_of (xs ++ r ∷ []) ≡ r
last_of-snoc [] r = refl
last_of-snoc (x ∷ xs) r = last_after-snoc x xs r

grown_by : (x : ArcLink) (xs rest : List ArcLink) → length rest ≡ 1 → arcs_of ((x ∷ xs) ++ rest) ≡ arcs_of (x ∷ xs) ++ (last_of ((x ∷ xs) ++ rest)).arc ∷ []
grown_by x xs [] h = absurd (omega (arith, h))
grown_by x xs (r ∷ []) h = arcs_both xs (r ∷ []) ∙ ap (λ (y : ArcLink). map (λ (z : ArcLink). z.arc) xs ++ y.arc ∷ []) (sym (last_after-snoc x xs r))
grown_by x xs (r ∷ s ∷ t) h = absurd (omega (arith, h))

-- a list with one link more
pub grown : (xs ys : List ArcLink) (n : ℕ) → IsPrefix xs ys → length xs ≡ n + 1 → length ys ≡ n + 2 → arcs_of ys ≡ arcs_of xs ++ (last_of ys).arc ∷ []
grown [] ys n p h k = absurd (omega (arith, h))
grown (x ∷ xs) ys n p h k =
    let one : length p.0 ≡ 1 = omega (arith, h, k, ap length p.1, length-append (x ∷ xs) p.0) in
    subst (λ (l : List ArcLink). arcs_of l ≡ arcs_of (x ∷ xs) ++ (last_of l).arc ∷ []) p.1 (grown_by x xs p.0 one)

-- what the word tells: the number of links and the last arc
pub decoded :
    (links : List ArcLink) (n arc : ℕ) → word_of_links links ≡ (n + 2) * 67108864 + arc → (last_of links).arc < 67108864 → arc < 67108864
    → (length links ≡ n + 2) × ((last_of links).arc ≡ arc)
decoded [] n arc h small fits = absurd (omega (arith, h))
decoded (x ∷ xs) n arc h small fits = (omega (arith, h, small, fits), omega (arith, h, small, fits))
