-- Each exit: what the step said of its refusal is said of the run; and at the end the shells of the deposit were written.
use Rattle.std.proofs.lemmas.Result.{err_from_is_err_and}
use Rattle.nesting.specs.Prices.{deposit_of}
use Rattle.commands.specs.Solve.{given_by}
use Rattle.commands.proofs.ShellRuns.{deposit_refused, shells_refused, shells_cut, shells_done, shells_within, shells_rise}
use Rattle.commands.proofs.nested.run_shells.Goals as goal

pub returns-in_err-deposit-clause-refused : goal.returns-in_err-deposit-clause-refused
returns-in_err-deposit-clause-refused g c =
    let p = err_from_is_err_and c.from_residual.result c.from_residual.ensures.1 in
    let e = c.in_err-deposit.field-0.0 in
    let blocks = given_by g.B.InBytes c.args.blocks.now c.read_deposit.new.blocks in
    let prec = given_by g.P.InBytes c.args.prec.now c.read_deposit.new.prec in
    rw (p.1, p.2) (deposit_refused c.args.mode c.args.pit e.refusal e blocks prec c.args.revenue c.args.cost c.args.factors.now (g.W.OutBytes.progress c.args.out.now) c.in_err-deposit.ensures.refused)

pub returns-in_err-list-clause-refused : goal.returns-in_err-list-clause-refused
returns-in_err-list-clause-refused g c =
    let p = err_from_is_err_and c.from_residual-in_err-list.result c.from_residual-in_err-list.ensures.1 in
    let e = c.in_err-list.field-0.0 in
    let blocks = given_by g.B.InBytes c.args.blocks.now c.read_deposit.new.blocks in
    let prec = given_by g.P.InBytes c.args.prec.now c.read_deposit.new.prec in
    let deposit = c.in_ok-deposit.deposit in
    rw (p.1, p.2) (shells_refused c.args.pit blocks prec c.args.revenue c.args.cost deposit.columns deposit.graph.value c.in_ok-deposit.ensures.deposit c.args.mode c.args.factors.now e.refusal e
    (g.W.OutBytes.progress c.args.out.now) c.in_err-list.ensures.refused)

pub write_shells-requires-clause-rising : goal.write_shells-requires-clause-rising
write_shells-requires-clause-rising g c =
    let deposit = c.in_ok-deposit.deposit in
    shells_rise c.args.pit (deposit_of deposit.columns deposit.graph.value) c.args.factors.now c.in_ok-list.list.shells.items c.in_ok-list.ensures.shells

pub returns-in_err-write_shells-clause-refused : goal.returns-in_err-write_shells-clause-refused
returns-in_err-write_shells-clause-refused g c =
    let p = err_from_is_err_and c.from_residual-in_err-write_shells.result c.from_residual-in_err-write_shells.ensures.1 in
    let e = c.in_err-write_shells.field-0.0 in
    let blocks = given_by g.B.InBytes c.args.blocks.now c.read_deposit.new.blocks in
    let prec = given_by g.P.InBytes c.args.prec.now c.read_deposit.new.prec in
    let deposit = c.in_ok-deposit.deposit in
    rw (p.1, p.2) (shells_cut c.args.pit blocks prec c.args.revenue c.args.cost deposit.columns deposit.graph.value c.in_ok-deposit.ensures.deposit c.args.mode c.args.factors.now c.in_ok-list.list.shells.items c.in_ok-list.list.n
    (g.W.OutBytes.progress c.args.out.now) (g.W.OutBytes.progress c.write_shells.new.writer) e c.in_ok-list.ensures.blocks c.in_ok-list.ensures.shells c.in_ok-list.ensures.within c.in_err-write_shells.ensures.refused c.in_err-write_shells.ensures.text)

pub returns-clause-done : goal.returns-clause-done
returns-clause-done g c =
    let blocks = given_by g.B.InBytes c.args.blocks.now c.read_deposit.new.blocks in
    let prec = given_by g.P.InBytes c.args.prec.now c.read_deposit.new.prec in
    let deposit = c.in_ok-deposit.deposit in
    shells_done c.args.pit blocks prec c.args.revenue c.args.cost deposit.columns deposit.graph.value c.in_ok-deposit.ensures.deposit c.args.factors.now c.in_ok-list.list.shells.items c.in_ok-list.list.n
    (g.W.OutBytes.progress c.args.out.now) (g.W.OutBytes.progress c.write_shells.new.writer) c.in_ok-list.ensures.blocks c.in_ok-list.ensures.shells c.in_ok-write_shells.ensures.text

pub returns-clause-within : goal.returns-clause-within
returns-clause-within g c =
    let blocks = given_by g.B.InBytes c.args.blocks.now c.read_deposit.new.blocks in
    let prec = given_by g.P.InBytes c.args.prec.now c.read_deposit.new.prec in
    let deposit = c.in_ok-deposit.deposit in
    shells_within c.args.pit blocks prec c.args.revenue c.args.cost deposit.columns deposit.graph.value c.in_ok-deposit.ensures.deposit c.args.mode c.args.factors.now c.in_ok-list.ensures.within
