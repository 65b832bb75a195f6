-- A block that this row named before stands twice; any other one is named by it now.
use Rattle.std.proofs.Common.{◌≡◌, ℕ, ◌+◌, ◌<◌, get_or, length, arith, length-set, ◌∙◌}
use Rattle.pit_model.specs.Graph.{first_of, second_of}
use Rattle.csr.specs.View.{pairs_in}
use Rattle.csr.proofs.Begun.{csr_offsets}
use Rattle.csr.proofs.Spelled.{length-pairs_of, second_at}
use Rattle.arrays.proofs.Repeats.{named_more, named_twice, sooner_first}
use Rattle.arrays.proofs.needs.repeated_place.Goals as goal

pub bounds-rows-k : goal.bounds-rows-k
bounds-rows-k c =
    let high = ((csr_offsets c.args.rows.offsets.now c.args.rows.targets.now _ c.requires.rows).rises c.args.block c.requires.block).1 in
    let long = length-pairs_of c.args.rows.offsets.now c.args.rows.targets.now in
    omega arith

pub bounds-named-needed : goal.bounds-named-needed
bounds-named-needed c =
    let starts = c.args.rows.offsets.now in
    let seconds = c.args.rows.targets.now in
    let high = ((csr_offsets c.args.rows.offsets.now c.args.rows.targets.now _ c.requires.rows).rises c.args.block c.requires.block).1 in
    let long = length-pairs_of starts seconds in
    let second = second_at starts seconds c.loop-k.k (omega arith) in
    let range = (c.requires.in_range c.loop-k.k (omega arith)).1 in
    omega (arith, c.loop-k.invariant.size)

pub bounds-named-needed-in-loop-k : goal.bounds-named-needed-in-loop-k
bounds-named-needed-in-loop-k c =
    let starts = c.args.rows.offsets.now in
    let seconds = c.args.rows.targets.now in
    let high = ((csr_offsets c.args.rows.offsets.now c.args.rows.targets.now _ c.requires.rows).rises c.args.block c.requires.block).1 in
    let long = length-pairs_of starts seconds in
    let second = second_at starts seconds c.loop-k.k (omega arith) in
    let range = (c.requires.in_range c.loop-k.k (omega arith)).1 in
    omega (arith, c.loop-k.invariant.size)

pub returns-then-named-needed-clause-some : goal.returns-then-named-needed-clause-some
returns-then-named-needed-clause-some c =
    let starts = c.args.rows.offsets.now in
    let seconds = c.args.rows.targets.now in
    let pairs = pairs_in c.args.rows in
    let k = c.loop-k.k in
    let u = c.args.block in
    let n : ℕ = length c.args.named.now in
    let high = ((csr_offsets c.args.rows.offsets.now c.args.rows.targets.now _ c.requires.rows).rises u c.requires.block).1 in
    let long = length-pairs_of starts seconds in
    let inside : k < length seconds = omega arith in
    let second : second_of pairs k ≡ get_or seconds k 0 = second_at starts seconds k inside in
    let own : first_of pairs k ≡ u = (csr_offsets c.args.rows.offsets.now c.args.rows.targets.now _ c.requires.rows).owns u k c.requires.block c.loop-k.invariant.from c.loop-k-test.true in
    let range = (c.requires.in_range k (omega arith)).1 in
    let sooner = λ (i : ℕ) (l : i < k). sooner_first pairs starts n u i k c.requires.in_range (csr_offsets c.args.rows.offsets.now c.args.rows.targets.now _ c.requires.rows) c.requires.block c.loop-k-test.true l in (
      named_twice pairs c.loop-k.named k u (get_or seconds k 0) sooner own second c.loop-k.invariant.named (omega arith) c.if-named-needed.true,
      λ j less again. c.loop-k.invariant.named.apart again.0 j again.1 less again.3,
    )

pub loop-k-preserved : goal.loop-k-preserved
loop-k-preserved c =
    let starts = c.args.rows.offsets.now in
    let seconds = c.args.rows.targets.now in
    let pairs = pairs_in c.args.rows in
    let k = c.loop-k.k in
    let u = c.args.block in
    let n : ℕ = length c.args.named.now in
    let high = ((csr_offsets c.args.rows.offsets.now c.args.rows.targets.now _ c.requires.rows).rises u c.requires.block).1 in
    let long = length-pairs_of starts seconds in
    let inside : k < length seconds = omega arith in
    let second : second_of pairs k ≡ get_or seconds k 0 = second_at starts seconds k inside in
    let own : first_of pairs k ≡ u = (csr_offsets c.args.rows.offsets.now c.args.rows.targets.now _ c.requires.rows).owns u k c.requires.block c.loop-k.invariant.from c.loop-k-test.true in
    let range = (c.requires.in_range k (omega arith)).1 in
    let sooner = λ (i : ℕ) (l : i < k). sooner_first pairs starts n u i k c.requires.in_range (csr_offsets c.args.rows.offsets.now c.args.rows.targets.now _ c.requires.rows) c.requires.block c.loop-k-test.true l in
    record {
      from = omega (arith, c.loop-k.invariant.from);
      to = omega (arith, c.loop-k-test.true);
      size = length-set c.loop-k.named (get_or seconds k 0) (u + 1) ∙ c.loop-k.invariant.size;
      named = named_more pairs c.loop-k.named k u (get_or seconds k 0) sooner own second c.loop-k.invariant.named (omega (arith, c.loop-k.invariant.size)) c.if-named-needed.false;
    }
