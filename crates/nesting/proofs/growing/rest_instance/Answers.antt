-- The values of the rest are small, and with its graph they are the rest as an instance.
use Rattle.std.proofs.Common.{◌≡◌, ◌∙◌, ◌<◌, length, map, ap, rules}
use Rattle.pit_model.specs.Graph.{Graph}
use Rattle.nesting.specs.Prices.{price_of}
use Rattle.nesting.proofs.Joining.{same_instance, values_small}
use Rattle.nesting.proofs.growing.rest_instance.Goals as goal

pub with_counters-rest-requires-clause-low : goal.with_counters-rest-requires-clause-low
with_counters-rest-requires-clause-low c u l =
    let blocks = c.args.growing.now.blocks.items in
    let values : c.in_ok-values.values.items ≡ map (price_of c.args.columns.now c.args.factor) blocks = c.in_ok-values.ensures ∙ ap (map (price_of c.args.columns.now c.args.factor)) c.deref.ensures.value in
    let inside : u < length blocks = search rules in
    (values_small c.args.columns.now c.args.factor u blocks c.in_ok-values.values.items c.law.ensures c.requires.factor c.requires.rows values inside).0

pub with_counters-rest-requires-clause-high : goal.with_counters-rest-requires-clause-high
with_counters-rest-requires-clause-high c u l =
    let blocks = c.args.growing.now.blocks.items in
    let values : c.in_ok-values.values.items ≡ map (price_of c.args.columns.now c.args.factor) blocks = c.in_ok-values.ensures ∙ ap (map (price_of c.args.columns.now c.args.factor)) c.deref.ensures.value in
    let inside : u < length blocks = search rules in
    (values_small c.args.columns.now c.args.factor u blocks c.in_ok-values.values.items c.law.ensures c.requires.factor c.requires.rows values inside).1

pub returns-clause-is : goal.returns-clause-is
returns-clause-is c =
    let columns = c.args.columns.now in
    let blocks = c.args.growing.now.blocks.items in
    let part = c.args.growing.now.graph.value in
    let values : c.in_ok-values.values.items ≡ map (price_of columns c.args.factor) blocks = c.in_ok-values.ensures ∙ ap (map (price_of columns c.args.factor)) c.deref.ensures.value in
    same_instance c.with_counters-rest.result columns c.args.factor blocks part
    (c.with_counters-rest.ensures.blocks ∙ ap (λ (h : Graph). h.blocks) c.in_ok-graph.ensures) (c.with_counters-rest.ensures.values ∙ values) (c.with_counters-rest.ensures.pairs ∙ ap (λ (h : Graph). h.pairs) c.in_ok-graph.ensures)
