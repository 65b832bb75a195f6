-- Each exit: what the step said of its refusal is said of the run; and at the end the answer was written.
use Rattle.std.proofs.lemmas.Result.{err_from_is_err_and}
use Rattle.commands.specs.Solve.{files_of, mine_files, given_by, fixed_instance_of}
use Rattle.commands.proofs.Checking.{checked, answer_cut, certificate_refused}
use Rattle.commands.proofs.check.run_check.Goals as goal

pub returns-in_err-answer-clause-refused : goal.returns-in_err-answer-clause-refused
returns-in_err-answer-clause-refused g c =
    let p = err_from_is_err_and c.from_residual-in_err-answer.result c.from_residual-in_err-answer.ensures.1 in
    let e = c.in_err-answer.field-0.0 in
    let files = files_of g.M.InBytes g.P.InBytes g.F.InBytes (mine_files c.args.model.now c.args.prec.now c.args.fixed.now) (mine_files c.read_mine.new.model c.read_mine.new.prec c.read_mine.new.fixed) in
    let certificate = given_by g.C.InBytes c.args.certificate.now c.answer_of.new.certificate in
    rw (p.1, p.2) (certificate_refused e files certificate (fixed_instance_of c.in_ok-fixed_mine.fixed_mine) (g.W.OutBytes.progress c.args.out.now) c.in_ok-fixed_mine.ensures.mine c.law.ensures c.in_err-answer.ensures.refused)

pub returns-in_err-write_answer-clause-refused : goal.returns-in_err-write_answer-clause-refused
returns-in_err-write_answer-clause-refused g c =
    let p = err_from_is_err_and c.from_residual-in_err-write_answer.result c.from_residual-in_err-write_answer.ensures.1 in
    let e = c.in_err-write_answer.field-0.0 in
    let files = files_of g.M.InBytes g.P.InBytes g.F.InBytes (mine_files c.args.model.now c.args.prec.now c.args.fixed.now) (mine_files c.read_mine.new.model c.read_mine.new.prec c.read_mine.new.fixed) in
    let certificate = given_by g.C.InBytes c.args.certificate.now c.answer_of.new.certificate in
    rw (p.1, p.2) (answer_cut files certificate (fixed_instance_of c.in_ok-fixed_mine.fixed_mine) c.in_ok-answer.answer (g.W.OutBytes.progress c.args.out.now) (g.W.OutBytes.progress c.write_answer.new.writer) e
    c.in_ok-fixed_mine.ensures.mine c.law.ensures c.in_ok-answer.ensures.answered c.in_err-write_answer.ensures.refused c.in_err-write_answer.ensures.text)

pub returns-clause-checked : goal.returns-clause-checked
returns-clause-checked g c =
    let files = files_of g.M.InBytes g.P.InBytes g.F.InBytes (mine_files c.args.model.now c.args.prec.now c.args.fixed.now) (mine_files c.read_mine.new.model c.read_mine.new.prec c.read_mine.new.fixed) in
    let certificate = given_by g.C.InBytes c.args.certificate.now c.answer_of.new.certificate in
    checked files certificate (fixed_instance_of c.in_ok-fixed_mine.fixed_mine) c.in_ok-answer.answer c.status_of.result (g.W.OutBytes.progress c.args.out.now) (g.W.OutBytes.progress c.write_answer.new.writer)
    c.in_ok-fixed_mine.ensures.mine c.law.ensures c.in_ok-answer.ensures.answered c.status_of.ensures c.in_ok-write_answer.ensures.text
