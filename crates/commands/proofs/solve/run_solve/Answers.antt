-- Each exit: what the step said of its refusal is said of the run; and at the end the pit of the mine was written.
use Rattle.std.proofs.Common.{rules, ◌≡◌, ◌∙◌, ap, refl}
use Rattle.std.specs.Int.{w128}
use Rattle.std.proofs.lemmas.Int.{to_z-of_z}
use Rattle.std.proofs.lemmas.Result.{err_from_is_err_and}
use mir.Val.{SFits}
use Rattle.pit_model.specs.Graph.{Graph}
use Rattle.pit_model.specs.PitText.{pit_text}
use Rattle.pit_model.specs.Replay.{IsComplete}
use Rattle.commands.specs.Chosen.{chosen}
use Rattle.commands.specs.Run.{in_pit, settings_of}
use Rattle.commands.specs.Solve.{files_of, mine_files, fixed_instance_of}
use Rattle.commands.proofs.Certifying.{certified}
use Rattle.commands.proofs.Journaling.{journaled}
use Rattle.commands.proofs.Refusing.{read_refused, pit_refused, write_refused}
use Rattle.commands.proofs.Solving.{done, cut_short, found_text}
use Rattle.commands.proofs.solve.run_solve.Goals as goal

pub returns-in_err-fixed_mine-clause-refused : goal.returns-in_err-fixed_mine-clause-refused
returns-in_err-fixed_mine-clause-refused g c =
    let p = err_from_is_err_and c.from_residual.result c.from_residual.ensures.1 in
    let e = c.in_err-fixed_mine.field-0.0 in
    let files = files_of g.M.InBytes g.P.InBytes g.F.InBytes (mine_files c.args.model.now c.args.prec.now c.args.fixed.now) (mine_files c.read_mine.new.model c.read_mine.new.prec c.read_mine.new.fixed) in
    let journal = chosen g.J.OutBytes.progress c.args.journal.now c.args.journal.now in
    let certificate = chosen g.C.OutBytes.progress c.args.certificate.now c.args.certificate.now in
    rw (p.1, p.2) (read_refused (settings_of c.args.mode c.args.pit) e.refusal e files journal certificate (g.W.OutBytes.progress c.args.out.now) refl refl c.in_err-fixed_mine.ensures.refused)

pub returns-in_err-found-clause-refused : goal.returns-in_err-found-clause-refused
returns-in_err-found-clause-refused g c =
    let p = err_from_is_err_and c.from_residual-in_err-found.result c.from_residual-in_err-found.ensures.1 in
    let e = c.in_err-found.field-0.0 in
    let files = files_of g.M.InBytes g.P.InBytes g.F.InBytes (mine_files c.args.model.now c.args.prec.now c.args.fixed.now) (mine_files c.read_mine.new.model c.read_mine.new.prec c.read_mine.new.fixed) in
    let journal = chosen g.J.OutBytes.progress c.args.journal.now c.solve_mine.new.journal in
    let certificate = chosen g.C.OutBytes.progress c.args.certificate.now c.solve_mine.new.certificate in
    rw (p.1, p.2)
    (pit_refused (settings_of c.args.mode c.args.pit) e.refusal e files (fixed_instance_of c.in_ok-fixed_mine.fixed_mine) journal certificate (g.W.OutBytes.progress c.args.out.now) c.in_ok-fixed_mine.ensures.mine c.in_err-found.ensures.refused)

pub returns-in_err-write_pit-clause-refused : goal.returns-in_err-write_pit-clause-refused
returns-in_err-write_pit-clause-refused g c =
    let p = err_from_is_err_and c.from_residual-in_err-write_pit.result c.from_residual-in_err-write_pit.ensures.1 in
    let e = c.in_err-write_pit.field-0.0 in
    let settings = settings_of c.args.mode c.args.pit in
    let files = files_of g.M.InBytes g.P.InBytes g.F.InBytes (mine_files c.args.model.now c.args.prec.now c.args.fixed.now) (mine_files c.read_mine.new.model c.read_mine.new.prec c.read_mine.new.fixed) in
    let journal = chosen g.J.OutBytes.progress c.args.journal.now c.solve_mine.new.journal in
    let certificate = chosen g.C.OutBytes.progress c.args.certificate.now c.solve_mine.new.certificate in
    let old = g.W.OutBytes.progress c.args.out.now in
    let new = g.W.OutBytes.progress c.write_pit.new.writer in
    let fixed_mine = fixed_instance_of c.in_ok-fixed_mine.fixed_mine in
    let found = c.in_ok-found.found in
    let holds = c.in_ok-fixed_mine.ensures.mine in
    let count : c.n-n.result ≡ fixed_mine.mine.blocks = c.n-n.ensures ∙ ap (λ (g : Graph). g.blocks) c.deref.ensures ∙ c.graph.ensures.blocks in
    let fits : SFits w128 found.worth = search rules in
    rw (p.1, p.2) (write_refused settings e files journal certificate old new c.in_err-write_pit.ensures.refused
    (in_pit (record { within = (fixed_mine, holds, c.in_ok-found.ensures.within); journaled = journaled IsComplete settings.mode files fixed_mine journal holds c.in_ok-found.ensures.journaled })
    (certified files fixed_mine certificate holds c.in_ok-found.ensures.certified)
    (cut_short settings.pit files fixed_mine old new e holds (pit_text c.n-n.result c.deref-2.result.now found.worth)
    (found_text settings.pit fixed_mine found c.deref-2.result.now c.n-n.result count c.deref-2.ensures.value c.in_ok-found.ensures.found) (simp to_z-of_z at c.in_err-write_pit.ensures.text))))

pub returns-clause-done : goal.returns-clause-done
returns-clause-done g c =
    let settings = settings_of c.args.mode c.args.pit in
    let files = files_of g.M.InBytes g.P.InBytes g.F.InBytes (mine_files c.args.model.now c.args.prec.now c.args.fixed.now) (mine_files c.read_mine.new.model c.read_mine.new.prec c.read_mine.new.fixed) in
    let fixed_mine = fixed_instance_of c.in_ok-fixed_mine.fixed_mine in
    let found = c.in_ok-found.found in
    let count : c.n-n.result ≡ fixed_mine.mine.blocks = c.n-n.ensures ∙ ap (λ (g : Graph). g.blocks) c.deref.ensures ∙ c.graph.ensures.blocks in
    let fits : SFits w128 found.worth = search rules in
    (done settings.pit files fixed_mine (g.W.OutBytes.progress c.args.out.now) (g.W.OutBytes.progress c.write_pit.new.writer) c.in_ok-fixed_mine.ensures.mine (pit_text c.n-n.result c.deref-2.result.now found.worth)
    (found_text settings.pit fixed_mine found c.deref-2.result.now c.n-n.result count c.deref-2.ensures.value c.in_ok-found.ensures.found) (simp to_z-of_z at c.in_ok-write_pit.ensures.text))

pub returns-clause-journaled : goal.returns-clause-journaled
returns-clause-journaled g c =
    let fixed_mine = c.in_ok-fixed_mine.fixed_mine in
    let files = files_of g.M.InBytes g.P.InBytes g.F.InBytes (mine_files c.args.model.now c.args.prec.now c.args.fixed.now) (mine_files c.read_mine.new.model c.read_mine.new.prec c.read_mine.new.fixed) in
    let journal = chosen g.J.OutBytes.progress c.args.journal.now c.solve_mine.new.journal in
    journaled IsComplete c.args.mode files (fixed_instance_of fixed_mine) journal c.in_ok-fixed_mine.ensures.mine c.in_ok-found.ensures.journaled
