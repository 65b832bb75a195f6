-- Each place lies in the row of its pair.
use Rattle.std.proofs.Common.{◌≡◌, ℕ, ◌+◌, ◌*◌, ◌<◌, List, [], ◌∷◌, ◌++◌, length, get_or, ap, arith, refl, sym, ◌∙◌, ⊎_elim}
use Rattle.std.proofs.lemmas.Bool.{cases_eq}
use Rattle.std.proofs.lemmas.Grind.{div_ceil_times}
use Rattle.std.proofs.lemmas.List.{get_or_append_left, get_or_at, length_push}
use Rattle.pit_model.specs.Graph.{first_of}
use Rattle.csr.proofs.Begun.{csr_rise}
use Rattle.mine_graph.proofs.row_samples.sample_rows.Goals as goal

pub row_between-requires-clause-inside : goal.row_between-requires-clause-inside
row_between-requires-clause-inside c =
    let m : ℕ = length c.args.rows.now.pairs in
    let up = (div_ceil_times m 64 (omega arith)).1 in
    let ceil = c.div_ceil-i-end.ensures in
    let size = c.offsets-offsets.ensures.rows.count in
    let below = (c.requires.range (c.loop-i.i * 64) (omega (arith, c.loop-i-test.true))).0 in
    omega (arith, c.saturating_sub-last.ensures)

pub row_between-requires-clause-rise : goal.row_between-requires-clause-rise
row_between-requires-clause-rise c v w h l = let size = c.offsets-offsets.ensures.rows.count in csr_rise c.offsets-offsets.result.now c.args.rows.now.blocks (length c.args.rows.now.pairs) c.offsets-offsets.ensures.rows v w h (omega arith)

pub loop-i-preserved : goal.loop-i-preserved
loop-i-preserved c =
    let pairs = c.args.rows.now.pairs in
    let m : ℕ = length c.args.rows.now.pairs in
    let i = c.loop-i.i in
    let up = (div_ceil_times m 64 (omega arith)).1 in
    let ceil = c.div_ceil-i-end.ensures in
    let inside : i * 64 < length pairs = omega (arith, c.loop-i-test.true) in
    let below = (c.requires.range (i * 64) inside).0 in
    let there = (c.offsets-offsets.ensures.own (first_of pairs (i * 64)) (i * 64) (omega arith) inside).0 refl in
    let is : c.row_between.result ≡ first_of pairs (i * 64) = c.row_between.ensures (first_of pairs (i * 64)) (omega arith) (omega (arith, c.saturating_sub-last.ensures)) there.0 there.1 in
    let old = c.loop-i.row_samples.items in
    let new = c.in_ok-push.ensures.items in
    let size = c.loop-i.invariant.size in
    record {
      size = ap (λ (q : List ℕ). length q) new ∙ length_push old c.row_between.result ∙ ap (λ n. n + 1) size;
      each = λ j l. ⊎_elim
          (λ (e : j ≡ i).
          let at : get_or (old ++ c.row_between.result ∷ []) j 0 ≡ c.row_between.result = get_or_at old c.row_between.result [] 0 j (omega arith) in
          let place = ap (λ k. first_of pairs (k * 64)) e in
          (omega arith, ap (λ (q : List ℕ). get_or q j 0) new ∙ at ∙ is ∙ sym place))
          (λ (ne : j ≡ i → ⊥).
          let was = c.loop-i.invariant.each j (omega arith) in
          (was.0, ap (λ (q : List ℕ). get_or q j 0) new ∙ get_or_append_left old (c.row_between.result ∷ []) 0 j (omega arith) ∙ was.1))
          (cases_eq j i);
    }

pub returns : goal.returns
returns c =
    let m : ℕ = length c.args.rows.now.pairs in
    let low = (div_ceil_times m 64 (omega arith)).0 in
    let ceil = c.div_ceil-i-end.ensures in
    let size = c.loop-i.invariant.size in
    record {
      enough = omega (arith, c.loop-i-test.false);
      each = λ i l. c.loop-i.invariant.each i (omega arith);
    }
