-- Cells of the book: the word stands in cell 0, and a cell that is at home stays there.
use Rattle.std.proofs.Common.{◌≡◌, ℕ, zero, suc, ◌<◌, true, false, List, [], ◌∷◌, ◌++◌, length, slice_set, refl, arith}
use Rattle.logbook.specs.Pages.{Cell, cell}
use Rattle.versions.specs.declared.link.ArcLink.{ArcLink}
use Rattle.versions.specs.ArcList.{IsHome, AreUsedAfter, last_after}

pub home_set : (cells : List Cell) (j k n : ℕ) → IsHome cells j → IsHome (slice_set cells k (n, true)) j
home_set [] j k n home = home
home_set (c ∷ cs) zero zero n home = refl
home_set (c ∷ cs) (suc j) zero n home = home
home_set (c ∷ cs) zero (suc k) n home = home
home_set (c ∷ cs) (suc j) (suc k) n home = home_set cs j k n home

pub home_more : (cells : List Cell) (j : ℕ) (new : Cell) → IsHome cells j → IsHome (cells ++ new ∷ []) j
home_more [] j new home = absurd (cc home)
home_more (c ∷ cs) zero new home = home
home_more (c ∷ cs) (suc j) new home = home_more cs j new home

pub home_new : (cells : List Cell) (j n : ℕ) → j < length cells → IsHome (slice_set cells j (n, true)) j
home_new [] j n below = absurd (omega (arith, below))
home_new (c ∷ cs) zero n below = refl
home_new (c ∷ cs) (suc j) n below = home_new cs j n (omega (arith, below))

pub word_set : (cells : List Cell) (n : ℕ) → 0 < length cells → cell (slice_set cells 0 (n, true)) 0 ≡ (n, true)
word_set [] n some = absurd (omega (arith, some))
word_set (c ∷ cs) n some = refl

pub word_more : (cells : List Cell) (new : Cell) → 0 < length cells → cell (cells ++ new ∷ []) 0 ≡ cell cells 0
word_more [] new some = absurd (omega (arith, some))
word_more (c ∷ cs) new some = refl

-- the word is written, and then another cell, which was away
pub word_else :
    (cells : List Cell) (k n v : ℕ) → 0 < length cells → (cell cells 0).1 ≡ true → (cell cells k).1 ≡ false
    → cell (slice_set (slice_set cells 0 (n, true)) k (v, true)) 0 ≡ (n, true)
word_else [] k n v some home away = absurd (omega (arith, some))
word_else (c ∷ cs) zero n v some home away = absurd (cc (home, away))
word_else (c ∷ cs) (suc k) n v some home away = refl

pub some_set : (cells : List Cell) (k : ℕ) (new : Cell) → 0 < length cells → 0 < length (slice_set cells k new)
some_set [] k new some = some
some_set (c ∷ cs) zero new some = omega arith
some_set (c ∷ cs) (suc k) new some = omega arith

pub some_more : (cells : List Cell) (new : Cell) → 0 < length (cells ++ new ∷ [])
some_more [] new = omega arith
some_more (c ∷ cs) new = omega arith

pub used_where : (cells next : List Cell) → ((j : ℕ) → IsHome cells j → IsHome next j) → (x : ArcLink) (xs : List ArcLink) → AreUsedAfter cells x xs → AreUsedAfter next x xs
used_where cells next to x [] used = tt
used_where cells next to x (y ∷ ys) used = (to x.next used.0, used_where cells next to y ys used.1)

pub used-snoc :
    (cells : List Cell) (x : ArcLink) (xs : List ArcLink) (new : ArcLink) → AreUsedAfter cells x xs → IsHome cells (last_after x xs).next
    → AreUsedAfter cells x (xs ++ new ∷ [])
used-snoc cells x [] new used home = (home, tt)
used-snoc cells x (y ∷ ys) new used home = (used.0, used-snoc cells y ys new used.1 home)

-- where the last link's cell is away, the list goes no further
pub ends_here : (cells : List Cell) (x : ArcLink) (xs rest : List ArcLink) → AreUsedAfter cells x (xs ++ rest) → (cell cells (last_after x xs).next).1 ≡ false → rest ≡ []
ends_here cells x [] [] used away = refl
ends_here cells x [] (r ∷ rest) used away = absurd (cc (used.0, away))
ends_here cells x (y ∷ ys) rest used away = ends_here cells y ys rest used.1 away
