-- The refusal names the cycle, which has a block.
use Rattle.std.proofs.Common.{rules, ◌≡◌, ◌∙◌, ℕ, List, length, get_or, sym, ap, subst, arith}
use Rattle.std.proofs.lemmas.List.{length-drop}
use Rattle.faults.specs.declared.refusal.Refusal.{Refusal}
use Rattle.arrays.specs.Refused.{RefusesRows}
use Rattle.arrays.proofs.cycle.find_cycle.Goals as goal

pub returns-in-Cycle-clause-some : goal.returns-in-Cycle-clause-some
returns-in-Cycle-clause-some c =
    let rows = c.args.rows.now in
    let cycle = c.in-Cycle.cycle.items in
    let named = subst (λ (r : Refusal). RefusesRows c.args.blocks rows.offsets.now rows.targets.now r c.in-Err.field-0.place) c.in-Cycle.is c.in-Err.ensures.refused in
    let is = named.2 in
    let sized : c.len.result ≡ length cycle = search rules in
    let cut = ap (λ (xs : List ℕ). length xs) is.is ∙ length-drop is.visit is.walk in
    let inside = is.visited in (
      omega arith,
      record {
        pairs = named.0;
        encoded = named.1;
        cycle = cycle;
        is_cycle = is;
        counted = sym sized;
        front = λ i l m.
            let at = ap (λ (xs : List ℕ). get_or xs i 0) c.deref-in-Cycle.ensures.value in
            let short = ap (λ (xs : List ℕ). length xs) c.deref-in-Cycle.ensures.value in
            c.write_front.ensures i (omega arith) m ∙ at;
      },
    )
