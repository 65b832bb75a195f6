-- Each block leads itself at first.
use Rattle.std.proofs.Common.{◌≡◌, ◌+◌, ℕ, List, length, get_or, arith, ap, ◌∙◌}
use Rattle.std.proofs.lemmas.List.FromFn.{get_or-range_with_len, length-range_with_len}
use Rattle.merging.proofs.union_find.is_one_part.Goals as goal

pub loop-place-init : goal.loop-place-init
loop-place-init c =
    let n : ℕ = c.n.result in
    let parents : List ℕ = c.in_ok-parents.parents.items in
    let count : length parents ≡ n = ap (λ (xs : List ℕ). length xs) c.in_ok-parents.ensures ∙ length-range_with_len 0 n in
    record {
      count = count ∙ c.n.ensures;
      below = λ i l.
          let own : get_or parents i 0 ≡ 0 + i = ap (λ xs. get_or xs i 0) c.in_ok-parents.ensures ∙ get_or-range_with_len 0 n i 0 (omega (arith, count, l)) in
          omega (arith, own, l);
    }
