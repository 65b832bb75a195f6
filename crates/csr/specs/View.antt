-- The arcs of rows that are lent.
use Rattle.std.specs.Prelude.{ℕ, List, length}
use Rattle.csr.specs.Rows.{IsCsr, pairs_of}
use Rattle.csr.specs.declared.view.CsrView.{CsrView}

abbrev pub pairs_in : CsrView → List (ℕ × ℕ)
pairs_in rows = pairs_of rows.offsets.now rows.targets.now

-- the two lists are compressed rows of so many blocks
abbrev pub AreRows : ℕ → CsrView → Type 0
AreRows blocks rows = IsCsr blocks (length rows.targets.now) rows.offsets.now
