-- Each exit by a refused step: what the step said of its refusal is said of the deposit; and at the end what was read.
use Rattle.std.proofs.Common.{◌≡◌, ◌∙◌, refl, sym, subst, ap}
use Rattle.std.proofs.lemmas.Result.{err_from_is_err_and}
use Rattle.minelib_reader.specs.Answer.{Refuses, ReadsText}
use Rattle.minelib_reader.specs.PrecGrammar.{SpellsPrec}
use Rattle.minelib_reader.specs.PrecFault.{IsFirstPrecFault}
use Rattle.faults.specs.declared.source.Source.TheVariants as sources
use Rattle.mine_graph.specs.Faults.{IsGraphFault}
use Rattle.pit_model.specs.Graph.{Graph, AreSamePairs}
use Rattle.commands.specs.Solve.{given_by}
use Rattle.commands.specs.Deposit.{GaveTable}
use Rattle.commands.proofs.Depositing.{blocks_refused, needs_refused, cycle_refused, columns_refused}
use Rattle.commands.proofs.deposit.read_deposit.Goals as goal

pub returns-in_err-table-clause-refused : goal.returns-in_err-table-clause-refused
returns-in_err-table-clause-refused g c =
    let p = err_from_is_err_and c.from_residual.result c.from_residual.ensures.1 in
    let e = c.in_err-table.field-0.0 in
    let blocks = given_by g.B.InBytes c.args.blocks.now c.read_blocks.new.reader in
    let prec = given_by g.P.InBytes c.args.prec.now c.args.prec.now in
    rw (p.1, p.2) (blocks_refused e.refusal e blocks prec c.args.revenue c.args.cost refl refl c.in_err-table.ensures.answers)

pub returns-in_err-needs-clause-refused : goal.returns-in_err-needs-clause-refused
returns-in_err-needs-clause-refused g c =
    let p = err_from_is_err_and c.from_residual-in_err-needs.result c.from_residual-in_err-needs.ensures.1 in
    let e = c.in_err-needs.field-0.0 in
    let blocks = given_by g.B.InBytes c.args.blocks.now c.read_blocks.new.reader in
    let prec = given_by g.P.InBytes c.args.prec.now c.read_prec_rows.new.reader in
    let t = c.in_ok-table.ensures.answers in
    let refused = subst (λ n. Refuses e.refusal sources.Precedence e prec.before prec.after (ReadsText prec.before prec.after prec.ended (λ behind. IsFirstPrecFault n behind e))) c.len-n.ensures.value c.in_err-needs.ensures.answers in
    rw (p.1, p.2) (needs_refused e.refusal e blocks prec c.args.revenue c.args.cost c.in_ok-table.table t.0 refl t.1 t.2 refused)

pub returns-in_err-graph-clause-refused : goal.returns-in_err-graph-clause-refused
returns-in_err-graph-clause-refused g c =
    let p = err_from_is_err_and c.from_residual-in_err-graph.result c.from_residual-in_err-graph.ensures.1 in
    let e = c.in_err-graph.field-0.0 in
    let blocks = given_by g.B.InBytes c.args.blocks.now c.read_blocks.new.reader in
    let prec = given_by g.P.InBytes c.args.prec.now c.read_prec_rows.new.reader in
    let table = c.in_ok-table.table in
    let t = c.in_ok-table.ensures.answers in
    let q = c.in_ok-needs.ensures.answers in
    let given : GaveTable blocks prec table c.in_ok-needs.needs.pairs = record {
      blocks_text = t.0;
      prec_text = q.0;
      blocks_given = t.1;
      prec_given = q.1;
      blocks_spelled = t.2;
      prec_spelled = subst (λ n. SpellsPrec n q.0 c.in_ok-needs.needs.pairs) c.len-n.ensures.value q.2;
    } in
    let refused = subst (λ n. IsGraphFault c.in_ok-needs.needs.pairs n e) c.len-n.ensures.value c.in_err-graph.ensures.refused in
    rw (p.1, p.2) (cycle_refused e.refusal e blocks prec c.args.revenue c.args.cost table c.in_ok-needs.needs.pairs given refused refused)

pub returns-in_err-columns-clause-refused : goal.returns-in_err-columns-clause-refused
returns-in_err-columns-clause-refused g c =
    let p = err_from_is_err_and c.from_residual-in_err-columns.result c.from_residual-in_err-columns.ensures.1 in
    let e = c.in_err-columns.field-0.0 in
    let blocks = given_by g.B.InBytes c.args.blocks.now c.read_blocks.new.reader in
    let prec = given_by g.P.InBytes c.args.prec.now c.read_prec_rows.new.reader in
    let table = c.in_ok-table.table in
    let t = c.in_ok-table.ensures.answers in
    let q = c.in_ok-needs.ensures.answers in
    let given : GaveTable blocks prec table c.in_ok-needs.needs.pairs = record {
      blocks_text = t.0;
      prec_text = q.0;
      blocks_given = t.1;
      prec_given = q.1;
      blocks_spelled = t.2;
      prec_spelled = subst (λ n. SpellsPrec n q.0 c.in_ok-needs.needs.pairs) c.len-n.ensures.value q.2;
    } in
    rw (p.1, p.2) (columns_refused e blocks prec c.args.revenue c.args.cost table c.in_ok-needs.needs.pairs given c.in_ok-graph.ensures.acyclic c.in_err-columns.ensures.refused)

pub returns-clause-deposit : goal.returns-clause-deposit
returns-clause-deposit g c =
    let blocks = given_by g.B.InBytes c.args.blocks.now c.read_blocks.new.reader in
    let prec = given_by g.P.InBytes c.args.prec.now c.read_prec_rows.new.reader in
    let table = c.in_ok-table.table in
    let t = c.in_ok-table.ensures.answers in
    let q = c.in_ok-needs.ensures.answers in
    let given : GaveTable blocks prec table c.in_ok-needs.needs.pairs = record {
      blocks_text = t.0;
      prec_text = q.0;
      blocks_given = t.1;
      prec_given = q.1;
      blocks_spelled = t.2;
      prec_spelled = subst (λ n. SpellsPrec n q.0 c.in_ok-needs.needs.pairs) c.len-n.ensures.value q.2;
    } in
    let same : c.in_ok-shared.shared.value ≡ c.in_ok-graph.graph = c.in_ok-shared.ensures.ok in
    record {
      table = table;
      pairs = c.in_ok-needs.needs.pairs;
      given = given;
      count = ap (λ (h : Graph). h.blocks) same ∙ c.in_ok-graph.ensures.blocks ∙ c.len-n.ensures.value;
      same = subst (λ (h : Graph). AreSamePairs c.in_ok-needs.needs.pairs h.pairs) (sym same) c.in_ok-graph.ensures.same;
      acyclic = c.in_ok-graph.ensures.acyclic;
      columns = c.in_ok-columns.ensures.columns;
    }
