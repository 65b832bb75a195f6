-- What failed to be written is a text of this end, or nothing.
use Rattle.std.proofs.Common.{ℕ, List, refl, subst, sym}
use Rattle.std.proofs.lemmas.Result.{err_from_is_err_and}
use Rattle.commands.specs.Replay.{ShowsEnd, cut, spent}
use Rattle.commands.specs.Solve.{fixed_in, fixed_instance_of}
use Rattle.pit_model.specs.Pit.{ListsPit}
use Rattle.pit_model.specs.declared.direction.Direction.TheVariants.{Least}
use Rattle.commands.specs.declared.status.Status.TheVariants.{Done, No}
use Rattle.commands.proofs.replay.put_end.Goals as goal

pub returns-in_err-put_pit-in-Pit-clause-refused :
    goal.returns-in_err-put_pit-in-Pit-clause-refused
returns-in_err-put_pit-in-Pit-clause-refused g c =
    let p = err_from_is_err_and c.from_residual.result c.from_residual.ensures.1 in
    let fixed_mine = fixed_instance_of c.args.fixed_mine.now in
    let shown : ListsPit Least fixed_mine.mine (fixed_in fixed_mine) c.deref.result.now =
    subst (λ (xs : List ℕ). ListsPit Least fixed_mine.mine (fixed_in fixed_mine) xs) (sym c.deref.ensures.value) (subst (ShowsEnd fixed_mine) c.in-Pit.is c.requires.shown) in
    let w = c.in_err-put_pit-in-Pit.ensures.written Least shown in
    rw (p.1, p.2, c.in-Pit.is) (cut w.0 Done (w.1, refl) w.2 c.in_err-put_pit-in-Pit.ensures.refused)

pub returns-in_err-write_difference-in-Differs-clause-refused :
    goal.returns-in_err-write_difference-in-Differs-clause-refused
returns-in_err-write_difference-in-Differs-clause-refused g c =
    let p = err_from_is_err_and c.from_residual-in_err-write_difference-in-Differs.result c.from_residual-in_err-write_difference-in-Differs.ensures.1 in
    rw (p.1, p.2, c.in-Differs.is) (cut _ No (refl, refl) c.in_err-write_difference-in-Differs.ensures.text c.in_err-write_difference-in-Differs.ensures.refused)

pub returns-in_err-write_open-in-Open-clause-refused :
    goal.returns-in_err-write_open-in-Open-clause-refused
returns-in_err-write_open-in-Open-clause-refused g c =
    let p = err_from_is_err_and c.from_residual-in_err-write_open-in-Open.result c.from_residual-in_err-write_open-in-Open.ensures.1 in
    rw (p.1, p.2, c.in-Open.is) (cut _ No (refl, refl) c.in_err-write_open-in-Open.ensures.text c.in_err-write_open-in-Open.ensures.refused)

pub returns-in-Exhausted-clause-refused : goal.returns-in-Exhausted-clause-refused
returns-in-Exhausted-clause-refused g c = spent c.in-Exhausted.budget c.in-Exhausted.is c.exhausted.ensures refl
