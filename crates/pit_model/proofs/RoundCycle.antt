-- The cycle is the end of the walk from the first visit of the repeated block on.
use Rattle.std.proofs.Common.{◌≡◌, ℕ, ◌+◌, ◌-◌, ◌<◌, sym, ap, subst, ◌∙◌, arith, get_or, length}
use Rattle.std.specs.Prelude.{drop}
use Rattle.std.proofs.lemmas.List.{get_or-drop, length-drop}
use Rattle.pit_model.specs.RoundCycle.{CycleGoesRound, GoesRound}

pub cycle_goes_round : CycleGoesRound
cycle_goes_round pairs n cycle is =
    let walk = is.walk in
    let walked = is.walked in
    let visit = is.visit in
    let visited = is.visited in
    let size : length (drop visit walk) ≡ length walk - visit = length-drop visit walk in
    let at : (i : ℕ) → get_or (drop visit walk) i 0 ≡ get_or walk (visit + i) 0 = λ i. get_or-drop visit walk i 0 in
    subst (λ xs. GoesRound pairs xs) (sym is.is) (record {
      some = omega arith;
      next = λ i l.
          let inside : visit + i + 1 < length walk = omega arith in
          let e : visit + i + 1 ≡ visit + (i + 1) = omega arith in
          let need = (walked.next (visit + i) inside).needed in
          (need.0, need.1, need.2 ∙ sym (at i), need.3 ∙ ap (λ k. get_or walk k 0) e ∙ sym (at (i + 1)));
      round =
          let e : visit + (length (drop visit walk) - 1) ≡ length walk - 1 = omega arith in
          let z : visit + 0 ≡ visit = omega arith in
          let need = is.repeats.needed in
          (need.0, need.1, need.2 ∙ ap (λ k. get_or walk k 0) (sym e) ∙ sym (at (length (drop visit walk) - 1)), need.3 ∙ ap (λ k. get_or walk k 0) (sym z) ∙ sym (at 0));
      apart = λ i j less inside same. walked.apart (visit + i) (visit + j) (omega arith) (omega arith) (sym (at i) ∙ same ∙ at j);
    })
