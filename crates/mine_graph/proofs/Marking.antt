-- The block of a pair lies between those of the samples around it.
use Rattle.std.proofs.Common.{ℕ, ◌+◌, ◌*◌, ◌/◌, ◌<◌, ◌≤◌, arith, List, get_or, length}
use Rattle.pit_model.specs.Graph.{first_of, AreRising}
use Rattle.mine_graph.specs.RowSamples.{AreRowSamples}
use Rattle.csr.proofs.Rising.{firsts_rise}

module _ (pairs : List (ℕ × ℕ)) (row_samples : List ℕ) (marks : AreRowSamples pairs row_samples) (rising : AreRising pairs) (k : ℕ) (inside : k < length pairs) where
  pub mark_below : k / 64 < length row_samples
  mark_below = let enough = marks.enough in omega arith

  pub mark_least : get_or row_samples (k / 64) 0 ≤ first_of pairs k
  mark_least =
      let here = marks.each (k / 64) mark_below in
      let is = here.1 in
      let less = firsts_rise pairs rising (k / 64 * 64) k (omega arith) inside in
      omega arith

  pub mark_most : k / 64 + 1 < length row_samples → first_of pairs k ≤ get_or row_samples (k / 64 + 1) 0
  mark_most more =
      let next = marks.each (k / 64 + 1) more in
      let is = next.1 in
      let less = firsts_rise pairs rising k ((k / 64 + 1) * 64) (omega arith) next.0 in
      omega arith
