-- A block of the list more is marked; at the end the marked blocks are those of the list, which rises.
use Rattle.std.proofs.Common.{◌≡◌, ℕ, ◌<◌, true, false, refl, sym, ap, ◌∙◌, arith, subst, ⊎_elim, set, get_or, length}
use Rattle.std.proofs.lemmas.Bool.{cases_eq}
use Rattle.std.proofs.lemmas.List.{get_or-set_same, get_or-set_other, length-set}
use Rattle.std.proofs.lemmas.List.Elements.{All-get_or}
use Rattle.pit_model.proofs.Members.{rising_members}
use Rattle.optimality.specs.Check.{has}
use Rattle.optimality.proofs.conditions.marks_of.Goals as goal

pub loop-u-preserved : goal.loop-u-preserved
loop-u-preserved c =
    let marks = c.loop-u.marks.items in
    let u : ℕ = get_or c.args.pit.now c.loop-u.u-index 0 in
    let below : u < c.args.n = All-get_or (λ v. v < c.args.n) c.args.pit.now c.loop-u.u-index 0 c.loop-u-test.true c.requires.below in
    let room : u < length marks = omega (arith, c.loop-u.invariant.size) in
    let here : has (set marks u true) u ≡ true = get_or-set_same marks u true false room in
    record {
      size = length-set marks u true ∙ c.loop-u.invariant.size;
      marked = λ v. (
        λ h. ⊎_elim
            (λ (e : v ≡ u). (c.loop-u.u-index, omega arith, sym e))
            (λ (ne : v ≡ u → ⊥).
            let f = (c.loop-u.invariant.marked v).0 (sym (get_or-set_other marks u v true false ne) ∙ h) in
            let l = f.1 in (f.0, omega arith, f.2))
            (cases_eq v u),
        λ w. ⊎_elim
            (λ (e : w.0 ≡ c.loop-u.u-index). subst (λ x. has (set marks u true) x ≡ true) (sym (ap (λ i. get_or c.args.pit.now i 0) e) ∙ w.2) here)
            (λ (ne : w.0 ≡ c.loop-u.u-index → ⊥).
            let l = w.1 in
            let old = (c.loop-u.invariant.marked v).1 (w.0, omega arith, w.2) in
            ⊎_elim
            (λ (e : v ≡ u). subst (λ x. has (set marks u true) x ≡ true) (sym e) here)
            (λ (other : v ≡ u → ⊥). get_or-set_other marks u v true false other ∙ old)
            (cases_eq v u))
            (cases_eq w.0 c.loop-u.u-index),
      );
    }

pub returns-clause-marks : goal.returns-clause-marks
returns-clause-marks c =
    rising_members c.args.n c.args.pit.now (has c.loop-u.marks.items) c.requires.rising
    (λ i l. (All-get_or (λ v. v < c.args.n) c.args.pit.now i 0 l c.requires.below, (c.loop-u.invariant.marked (get_or c.args.pit.now i 0)).1 (i, omega arith, refl)))
    (λ k l h. let f = (c.loop-u.invariant.marked k).0 h in let m = f.1 in (f.0, omega arith, f.2))
