-- For each block the number of the first pit of a list that holds it.
use Rattle.std.specs.Prelude.{◌≡◌, ◌⊎◌, ℕ, ◌<◌, List, length, get_or}
use Rattle.pit_model.specs.declared.shell.Shell.{Shell}

-- a block stands among the first of a list
abbrev pub IsAmongFirst : List ℕ → ℕ → ℕ → Type 0
IsAmongFirst blocks count u = (i : ℕ) × (i < count) × (get_or blocks i 0 ≡ u)

-- of the blocks among the first of a list, those that had no number have this one, and all others keep theirs
pub record AreTaken (pit : List ℕ) (number none count : ℕ) (before after : List ℕ) : Type 0 where
  pub size : length after ≡ length before
  pub each : (u : ℕ) → u < length before → ((get_or after u 0 ≡ number) × (get_or before u 0 ≡ none) × IsAmongFirst pit count u)
      ⊎ ((get_or after u 0 ≡ get_or before u 0) × (get_or before u 0 ≡ none → IsAmongFirst pit count u → ⊥))

-- the pit with a number holds the block
abbrev pub Holds : List Shell → ℕ → ℕ → Type 0
Holds shells k u = (d : Shell) → IsAmongFirst (get_or shells k d).pit.items (length (get_or shells k d).pit.items) u

-- each of n blocks has the number of the first of so many shells that holds it, or, where none does, the number of all shells
pub record AreFirsts (shells : List Shell) (n : ℕ) (firsts : List ℕ) (count : ℕ) : Type 0 where
  pub size : length firsts ≡ n
  pub each : (u : ℕ) → u < n → ((get_or firsts u 0 < count) × Holds shells (get_or firsts u 0) u × ((k : ℕ) → k < get_or firsts u 0 → Holds shells k u → ⊥))
      ⊎ ((get_or firsts u 0 ≡ length shells) × ((k : ℕ) → k < count → Holds shells k u → ⊥))
