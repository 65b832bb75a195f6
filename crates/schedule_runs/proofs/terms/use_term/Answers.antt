-- The numbers of a line within their ranges are a term.
use Rattle.std.proofs.Common.{◌+◌, ◌*◌, arith}
use Rattle.std.proofs.lemmas.Int.{ints}
use Rattle.schedule_runs.proofs.Listed.{use_high}
use Rattle.schedule_runs.proofs.terms.use_term.Goals as goal

pub returns-clause-term : goal.returns-clause-term
returns-clause-term c =
    let k = c.args.k in
    let inside = c.requires.inside in
    let destination = use_high c.args.sizes c.args.uses.now c.requires.range k (4 * k) 0 (omega arith) (omega arith) (omega arith) in
    let limit = use_high c.args.sizes c.args.uses.now c.requires.range k (4 * k + 1) 1 (omega arith) (omega arith) (omega arith) in
    let column = use_high c.args.sizes c.args.uses.now c.requires.range k (4 * k + 2) 2 (omega arith) (omega arith) (omega arith) in
    let lag = use_high c.args.sizes c.args.uses.now c.requires.range k (4 * k + 3) 3 (omega arith) (omega arith) (omega arith) in
    let is_destination = c.small-destination.ensures in
    let is_limit = c.small-limit.ensures in
    let is_column = c.small-column.ensures in
    let is_lag = c.small-lag.ensures in
    record { destination = omega (arith, ints); column = omega (arith, ints); effect = omega (arith, ints); lag = omega (arith, ints) }
