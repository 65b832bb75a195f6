-- The numbers of a line within their ranges are a term.
use Rattle.std.proofs.Common.{◌+◌, ◌*◌, arith}
use Rattle.std.proofs.lemmas.Int.{ints}
use Rattle.schedule_runs.proofs.Listed.{value_high}
use Rattle.schedule_runs.proofs.terms.value_term.Goals as goal

pub returns-clause-term : goal.returns-clause-term
returns-clause-term c =
    let k = c.args.k in
    let inside = c.requires.inside in
    let destination = value_high c.args.sizes c.args.values.now c.requires.range k (3 * k) 0 (omega arith) (omega arith) (omega arith) in
    let column = value_high c.args.sizes c.args.values.now c.requires.range k (3 * k + 1) 1 (omega arith) (omega arith) (omega arith) in
    let lag = value_high c.args.sizes c.args.values.now c.requires.range k (3 * k + 2) 2 (omega arith) (omega arith) (omega arith) in
    let is_destination = c.small.ensures in
    let is_column = c.small-2.ensures in
    let is_lag = c.small-3.ensures in
    record { destination = omega (arith, ints); column = omega (arith, ints); effect = tt; lag = omega (arith, ints) }
