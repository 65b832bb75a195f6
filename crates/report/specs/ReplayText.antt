-- The texts of a replay that ends without a pit.
use Rattle.std.specs.Prelude.{ℕ, List, ◌++◌, codes, decimal}

-- the number of the first entry, counted from 1, without its lawful verdict
unfoldable pub difference_text : ℕ → List ℕ
difference_text entry = codes "entry " ++ decimal entry ++ codes " differs\n"

-- after how many mergers a merger arc is left; the word `mergers` stands for every count
unfoldable pub open_text : ℕ → List ℕ
open_text mergers = codes "open after " ++ decimal mergers ++ codes " mergers\n"
