-- The text of a yes or a no.
use Rattle.std.specs.Prelude.{ℕ, Bool, true, false, List, codes}

abbrev pub answer_text : Bool → List ℕ
answer_text true = codes "yes\n"
answer_text false = codes "no\n"
