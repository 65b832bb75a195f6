-- A row is closed in each round, and no arc changes.
use Rattle.std.proofs.Common.{◌≡◌}
use Rattle.csr.proofs.builder.CsrBuilder.open_row.Given as goal

abbrev pub invariant-loop : goal.invariant-loop
invariant-loop l = record {
  pairs : l.self.pairs ≡ l.initial.self.pairs;
  row : l.self.blocks ≡ l.counter;
}
