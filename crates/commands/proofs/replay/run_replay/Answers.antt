-- Each exit: what the step said of its refusal is said of the run; and at the end the answer was written.
use Rattle.std.proofs.lemmas.Result.{err_from_is_err_and}
use Rattle.commands.specs.Solve.{files_of, mine_files, given_by, fixed_instance_of}
use Rattle.commands.proofs.Replaying.{reported_or_not, journal_refused}
use Rattle.commands.proofs.replay.run_replay.Goals as goal

pub returns-in_err-end-clause-refused : goal.returns-in_err-end-clause-refused
returns-in_err-end-clause-refused g c =
    let p = err_from_is_err_and c.from_residual-in_err-end.result c.from_residual-in_err-end.ensures.1 in
    let e = c.in_err-end.field-0.0 in
    let files = files_of g.M.InBytes g.P.InBytes g.F.InBytes (mine_files c.args.model.now c.args.prec.now c.args.fixed.now) (mine_files c.read_mine.new.model c.read_mine.new.prec c.read_mine.new.fixed) in
    let journal = given_by g.J.InBytes c.args.journal.now c.replay_of.new.journal in
    rw (p.1, p.2) (journal_refused e files journal (fixed_instance_of c.in_ok-fixed_mine.fixed_mine) (g.W.OutBytes.progress c.args.out.now) c.in_ok-fixed_mine.ensures.mine c.law.ensures c.in_err-end.ensures.refused)

pub returns-clause-reported : goal.returns-clause-reported
returns-clause-reported g c =
    let files = files_of g.M.InBytes g.P.InBytes g.F.InBytes (mine_files c.args.model.now c.args.prec.now c.args.fixed.now) (mine_files c.read_mine.new.model c.read_mine.new.prec c.read_mine.new.fixed) in
    let journal = given_by g.J.InBytes c.args.journal.now c.replay_of.new.journal in
    (reported_or_not files journal (fixed_instance_of c.in_ok-fixed_mine.fixed_mine) c.in_ok-end.end (g.W.OutBytes.progress c.args.out.now) (g.W.OutBytes.progress c.put_end.new.out) c.put_end.result
    c.in_ok-fixed_mine.ensures.mine c.law.ensures c.in_ok-end.ensures.replayed c.put_end.ensures.reported c.put_end.ensures.refused).0

pub returns-clause-refused : goal.returns-clause-refused
returns-clause-refused g c =
    let files = files_of g.M.InBytes g.P.InBytes g.F.InBytes (mine_files c.args.model.now c.args.prec.now c.args.fixed.now) (mine_files c.read_mine.new.model c.read_mine.new.prec c.read_mine.new.fixed) in
    let journal = given_by g.J.InBytes c.args.journal.now c.replay_of.new.journal in
    (reported_or_not files journal (fixed_instance_of c.in_ok-fixed_mine.fixed_mine) c.in_ok-end.end (g.W.OutBytes.progress c.args.out.now) (g.W.OutBytes.progress c.put_end.new.out) c.put_end.result
    c.in_ok-fixed_mine.ensures.mine c.law.ensures c.in_ok-end.ensures.replayed c.put_end.ensures.reported c.put_end.ensures.refused).1
