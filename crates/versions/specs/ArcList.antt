-- The list of merger arcs that all threads share. It stands in a book (`logbook`) as links, behind an opening one without an
-- arc; the one word of the book tells its length and its last arc.
-- Each link names a cell of the book, and who writes the next link brings that cell home. So who has the pen of the last
-- link's cell knows the whole list.
use Rattle.std.specs.Prelude.{◌≡◌, ℕ, ◌+◌, ◌*◌, ◌<◌, true, false, List, [], ◌∷◌, ◌++◌, map, length}
use Rattle.logbook.specs.Pages.{Cell, cell, Step, View, Book, Named, nib, may_make}
use Rattle.versions.specs.declared.link.ArcLink.{ArcLink}

abbrev pub link : ℕ → ℕ → ArcLink
link arc next = record { arc = arc; next = next }

abbrev pub last_after : ArcLink → List ArcLink → ArcLink
last_after x [] = x
last_after x (y ∷ ys) = last_after y ys

abbrev pub last_of : List ArcLink → ArcLink
last_of [] = link 0 0
last_of (x ∷ xs) = last_after x xs

-- the arcs of the links behind the opening one
abbrev pub arcs_of : List ArcLink → List ℕ
arcs_of [] = []
arcs_of (x ∷ xs) = map (λ y. y.arc) xs

-- the word: how many links there are, and the last arc
abbrev pub word_of_links : List ArcLink → ℕ
word_of_links [] = 0
word_of_links (x ∷ xs) = length (x ∷ xs) * 67108864 + (last_after x xs).arc

abbrev pub IsHome : List Cell → ℕ → Type 0
IsHome cells k = (cell cells k).1 ≡ true

-- the cell of each link but the last is at home
abbrev pub AreUsedAfter : List Cell → ArcLink → List ArcLink → Type 0
AreUsedAfter cells x [] = Unit {0}
AreUsedAfter cells x (y ∷ ys) = IsHome cells x.next × AreUsedAfter cells y ys

abbrev pub AreUsed : List Cell → List ArcLink → Type 0
AreUsed cells [] = Unit {0}
AreUsed cells (x ∷ xs) = AreUsedAfter cells x xs

-- the rule
pub record IsList (cells : List Cell) (links : List ArcLink) : Type 0 where
  pub word : cell cells 0 ≡ (word_of_links links, true)
  pub some : 0 < length cells
  pub small : (last_of links).arc < 67108864
  pub used : AreUsed cells links

-- the word of a book
abbrev pub list_head : Book → Named
list_head book = record { tracked = true; key = 0; book = book }

-- the word is that of the list which is then seen
abbrev pub Looks : Step ArcLink → View ArcLink ℕ → ℕ → View ArcLink ℕ → Type 0
Looks step before found after = (found ≡ word_of_links after.0) × ((last_of after.0).arc < 67108864)

-- an empty list has its opening link, and the pen is of the cell that this names
abbrev pub OpensList : Step ArcLink → View ArcLink ℕ → ℕ → View ArcLink ℕ → Type 0
OpensList step before found after = found ≡ 0 → (after.0 ≡ link 0 after.1.0.key ∷ []) × (after.1.0 ≡ nib may_make after.1.0.key 0)

-- a new cell, with its pen
abbrev pub Widens : Step ArcLink → View ArcLink ℕ → ℕ → View ArcLink ℕ → Type 0
Widens step before found after = after.1.0 ≡ nib may_make after.1.0.key 0

-- the list is what was seen, with one more link
abbrev pub AddsLink : Step ArcLink → View ArcLink ℕ → ℕ → View ArcLink ℕ → Type 0
AddsLink step before found after = after.0 ≡ before.0 ++ step.ask ∷ []

-- the pen stays, and its cell was away when the list was what is then seen
abbrev pub Confirms : Step ArcLink → View ArcLink ℕ → ℕ → View ArcLink ℕ → Type 0
Confirms step before found after =
    (after.1.0 ≡ before.1.0) × ((cells : List Cell) × IsList cells after.0 × ((cell cells before.1.0.key).1 ≡ false))
