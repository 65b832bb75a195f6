-- The order of the turns: that of the factors, or the reverse.
use Rattle.std.proofs.Common.{◌≡◌, ℕ, ◌+◌, ◌-◌, ◌<◌, refl, sym, ap, subst, ◌∙◌, arith, List, [], ◌∷◌, ◌++◌, length, map, reverse}
use Rattle.std.specs.List.{All}
use Rattle.std.specs.List.Sorted.{IsStrictlyIncreasing}
use Rattle.std.proofs.lemmas.List.{get_or-reverse, length-reverse, map-append, reverse-append, reverse-reverse}
use Rattle.std.proofs.lemmas.List.Kept.{AllPairs-from_increasing}
use Rattle.pit_model.specs.declared.direction.Direction.{Direction}
use Rattle.pit_model.specs.declared.direction.Direction.TheVariants.{Least, Greatest}
use Rattle.pit_model.specs.Shells.{factor_of}
use Rattle.nesting.specs.Parametric.{Follows, in_turns}

-- there are as many turns as factors
pub turns_count : {X : Type 0} (direction : Direction) (xs : List X) → length (in_turns direction xs) ≡ length xs
turns_count Least xs = refl
turns_count Greatest xs = length-reverse xs

-- the turns of the turns are in order again
pub turns_back : {X : Type 0} (direction : Direction) (xs : List X) → in_turns direction (in_turns direction xs) ≡ xs
turns_back Least xs = refl
turns_back Greatest xs = reverse-reverse xs

-- a factor follows the one before
pub turns_follow : (direction : Direction) (factors : List ℕ) (k : ℕ) → IsStrictlyIncreasing factors → k + 1 < length factors
    → Follows direction (factor_of (in_turns direction factors) k) (factor_of (in_turns direction factors) (k + 1))
turns_follow Least factors k rising l =
    let less = AllPairs-from_increasing factors rising k (k + 1) 0 (omega arith) l in
    omega arith
turns_follow Greatest factors k rising l =
    let n = length factors in
    let less = AllPairs-from_increasing factors rising (n - 1 - (k + 1)) (n - 1 - k) 0 (omega arith) (omega arith) in
    let here = get_or-reverse factors k 0 (omega arith) in
    let next = get_or-reverse factors (k + 1) 0 l in
    omega arith

map_reverse : {X Y : Type 0} (f : X → Y) (xs : List X) → map f (reverse xs) ≡ reverse (map f xs)
map_reverse f [] = refl
map_reverse f (x ∷ xs) =
    ap (map f) (reverse-append (x ∷ []) xs) ∙ map-append f (reverse xs) (x ∷ []) ∙ ap (λ ys. ys ++ f x ∷ []) (map_reverse f xs)
    ∙ sym (reverse-append (f x ∷ []) (map f xs))

pub map_turns : {X Y : Type 0} (direction : Direction) (f : X → Y) (xs : List X) → map f (in_turns direction xs) ≡ in_turns direction (map f xs)
map_turns Least f xs = refl
map_turns Greatest f xs = map_reverse f xs

-- what holds of each holds of each in turn
pub all_turns : {X : Type 0} (direction : Direction) (P : X → Type 0) (xs : List X) → All P xs → All P (in_turns direction xs)
all_turns Least P xs all = all
all_turns Greatest P xs all = λ i d l.
    let count = length-reverse xs in
    subst P (sym (get_or-reverse xs i d (omega arith))) (all (length xs - 1 - i) d (omega arith))
