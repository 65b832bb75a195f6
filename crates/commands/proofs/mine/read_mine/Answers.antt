-- Each exit by a refused step: what the step said of its refusal is said of the mine.
use Rattle.std.proofs.Common.{◌≡◌, ℕ, List, ap, refl, subst, sym, ◌∙◌}
use Rattle.std.specs.Arc.{arc_value}
use Rattle.std.proofs.lemmas.Result.{err_from_is_err_and}
use Rattle.minelib_reader.specs.Upit.{upit}
use Rattle.minelib_reader.specs.Fixed.{fixed_lists}
use Rattle.pit_model.specs.Graph.{Graph, AreSamePairs}
use Rattle.pit_model.specs.Mine.{Instance}
use Rattle.pit_model.specs.Fixed.{graph_of_mine}
use Rattle.mine_graph.specs.FixedBlocks.{IsFixedOf, RefusesFixed}
use Rattle.merging.proofs.SolvedPart.{graph_is}
use Rattle.commands.specs.Solve.{FixedInstance, GaveFixed, GaveFixedMine, HoldsMine, files_of, mine_files, fixed_instance_of}
use Rattle.commands.specs.declared.mine.FixedMine.{FixedMine}
use Rattle.commands.proofs.Refusing.{model_refused, prec_refused, fixed_refused, pairs_refused, blocks_refused, has_no_clash, memory_refused, still}
use Rattle.commands.proofs.mine.read_mine.Goals as goal

pub returns-in_err-model-clause-refused : goal.returns-in_err-model-clause-refused
returns-in_err-model-clause-refused g c =
    let p = err_from_is_err_and c.from_residual.result c.from_residual.ensures.1 in
    let e = c.in_err-model.field-0.0 in
    let files = files_of g.M.InBytes g.P.InBytes g.F.InBytes (mine_files c.args.model.now c.args.prec.now c.args.fixed.now) (mine_files c.read_upit.new.reader c.args.prec.now c.args.fixed.now) in
    rw (p.1, p.2) (model_refused e.refusal e files refl refl (still g.F.InBytes.progress g.F.InBytes.IsAtEnd c.args.fixed.now) c.in_err-model.ensures.answers)

pub returns-in_err-needs-clause-refused : goal.returns-in_err-needs-clause-refused
returns-in_err-needs-clause-refused g c =
    let p = err_from_is_err_and c.from_residual-in_err-needs.result c.from_residual-in_err-needs.ensures.1 in
    let e = c.in_err-needs.field-0.0 in
    let files = files_of g.M.InBytes g.P.InBytes g.F.InBytes (mine_files c.args.model.now c.args.prec.now c.args.fixed.now) (mine_files c.read_upit.new.reader c.read_prec_rows.new.reader c.args.fixed.now) in
    let m = c.in_ok-model.ensures.answers in
    rw (p.1, p.2) (prec_refused e.refusal e files (upit c.in_ok-model.model.n c.in_ok-model.model.values.items) m.0 refl (still g.F.InBytes.progress g.F.InBytes.IsAtEnd c.args.fixed.now) m.1 m.2 c.in_err-needs.ensures.answers)

pub returns-in_err-forced-clause-refused : goal.returns-in_err-forced-clause-refused
returns-in_err-forced-clause-refused g c =
    let p = err_from_is_err_and c.from_residual-in_err-forced.result c.from_residual-in_err-forced.ensures.1 in
    let e = c.in_err-forced.field-0.0 in
    let files = files_of g.M.InBytes g.P.InBytes g.F.InBytes (mine_files c.args.model.now c.args.prec.now c.args.fixed.now) (mine_files c.read_upit.new.reader c.read_prec_rows.new.reader c.read_lists.new.fixed) in
    let m = c.in_ok-model.ensures.answers in
    let q = c.in_ok-needs.ensures.answers in
    rw (p.1, p.2) (fixed_refused e.refusal e files (upit c.in_ok-model.model.n c.in_ok-model.model.values.items) c.in_ok-needs.needs.pairs refl
    (record { model_text = m.0; prec_text = q.0; model_given = m.1; prec_given = q.1; model_spelled = m.2; prec_spelled = q.2 })
    c.in_err-forced.ensures.refused)

pub returns-in_err-graph-clause-refused : goal.returns-in_err-graph-clause-refused
returns-in_err-graph-clause-refused g c =
    let p = err_from_is_err_and c.from_residual-in_err-graph.result c.from_residual-in_err-graph.ensures.1 in
    let e = c.in_err-graph.field-0.0 in
    let files = files_of g.M.InBytes g.P.InBytes g.F.InBytes (mine_files c.args.model.now c.args.prec.now c.args.fixed.now) (mine_files c.read_upit.new.reader c.read_prec_rows.new.reader c.read_lists.new.fixed) in
    let m = c.in_ok-model.ensures.answers in
    let q = c.in_ok-needs.ensures.answers in
    rw (p.1, p.2) (pairs_refused e.refusal e files (upit c.in_ok-model.model.n c.in_ok-model.model.values.items) c.in_ok-needs.needs.pairs _
    (record { model_text = m.0; prec_text = q.0; model_given = m.1; prec_given = q.1; model_spelled = m.2; prec_spelled = q.2 })
    c.in_ok-forced.ensures.given c.in_err-graph.ensures.refused c.in_err-graph.ensures.refused)

pub returns-in_err-new-clause-refused : goal.returns-in_err-new-clause-refused
returns-in_err-new-clause-refused g c =
    let files = files_of g.M.InBytes g.P.InBytes g.F.InBytes (mine_files c.args.model.now c.args.prec.now c.args.fixed.now) (mine_files c.read_upit.new.reader c.read_prec_rows.new.reader c.read_lists.new.fixed) in
    let m = c.in_ok-model.ensures.answers in
    let q = c.in_ok-needs.ensures.answers in
    let p = err_from_is_err_and c.from_residual-in_err-new.result c.from_residual-in_err-new.ensures.1 in
    rw (p.1, p.2) (memory_refused files (upit c.in_ok-model.model.n c.in_ok-model.model.values.items) c.in_ok-needs.needs.pairs _
    (record { model_text = m.0; prec_text = q.0; model_given = m.1; prec_given = q.1; model_spelled = m.2; prec_spelled = q.2 })
    c.in_ok-forced.ensures.given)

pub returns-in_err-fixed-clause-refused : goal.returns-in_err-fixed-clause-refused
returns-in_err-fixed-clause-refused g c =
    let p = err_from_is_err_and c.from_residual-in_err-fixed.result c.from_residual-in_err-fixed.ensures.1 in
    let e = c.in_err-fixed.field-0.0 in
    let files = files_of g.M.InBytes g.P.InBytes g.F.InBytes (mine_files c.args.model.now c.args.prec.now c.args.fixed.now) (mine_files c.read_upit.new.reader c.read_prec_rows.new.reader c.read_lists.new.fixed) in
    let m = c.in_ok-model.ensures.answers in
    let q = c.in_ok-needs.ensures.answers in
    let mine = c.with_counters-mine.result in
    let pairs = c.in_ok-needs.needs.pairs in
    let lists = fixed_lists c.in_ok-forced.forced.items c.in_ok-forced.barred.items in
    let fixed_mine : FixedInstance = record { mine = mine; lists = lists } in
    let held : arc_value c.in_ok-new.field-0 ≡ c.in_ok-graph.graph = c.in_ok-new.ensures.ok in
    let whole : c.deref.result.now ≡ graph_of_mine mine = c.deref.ensures ∙ graph_is (arc_value c.graph.result.now) mine c.graph.ensures.blocks c.graph.ensures.pairs in
    let gave : GaveFixedMine files fixed_mine = record {
      upit = upit c.in_ok-model.model.n c.in_ok-model.model.values.items;
      pairs = pairs;
      given = record { model_text = m.0; prec_text = q.0; model_given = m.1; prec_given = q.1; model_spelled = m.2; prec_spelled = q.2 };
      fixed_given = c.in_ok-forced.ensures.given;
      blocks = c.with_counters-mine.ensures.blocks ∙ ap (λ (h : Graph). h.blocks) held ∙ c.in_ok-graph.ensures.blocks;
      values = c.with_counters-mine.ensures.values;
      same = subst (λ (qs : List (ℕ × ℕ)). AreSamePairs pairs qs) (sym (c.with_counters-mine.ensures.pairs ∙ ap (λ (h : Graph). h.pairs) held)) c.in_ok-graph.ensures.same;
      acyclic = c.in_ok-graph.ensures.acyclic;
      instance = c.law.ensures;
    } in
    let refused = subst (λ (h : Graph). RefusesFixed h lists e.refusal e) whole c.in_err-fixed.ensures.refused in
    rw (p.1, p.2) (blocks_refused e.refusal e files fixed_mine gave refused)

pub returns-in_err-shared-clause-refused : goal.returns-in_err-shared-clause-refused
returns-in_err-shared-clause-refused g c =
    let files = files_of g.M.InBytes g.P.InBytes g.F.InBytes (mine_files c.args.model.now c.args.prec.now c.args.fixed.now) (mine_files c.read_upit.new.reader c.read_prec_rows.new.reader c.read_lists.new.fixed) in
    let m = c.in_ok-model.ensures.answers in
    let q = c.in_ok-needs.ensures.answers in
    let p = err_from_is_err_and c.from_residual-in_err-shared.result c.from_residual-in_err-shared.ensures.1 in
    rw (p.1, p.2) (memory_refused files (upit c.in_ok-model.model.n c.in_ok-model.model.values.items) c.in_ok-needs.needs.pairs _
    (record { model_text = m.0; prec_text = q.0; model_given = m.1; prec_given = q.1; model_spelled = m.2; prec_spelled = q.2 })
    c.in_ok-forced.ensures.given)

pub returns-clause-mine : goal.returns-clause-mine
returns-clause-mine g c =
    let files = files_of g.M.InBytes g.P.InBytes g.F.InBytes (mine_files c.args.model.now c.args.prec.now c.args.fixed.now) (mine_files c.read_upit.new.reader c.read_prec_rows.new.reader c.read_lists.new.fixed) in
    let m = c.in_ok-model.ensures.answers in
    let q = c.in_ok-needs.ensures.answers in
    let mine = c.with_counters-mine.result in
    let fixed = c.in_ok-fixed.fixed in
    let fixed_mine : FixedMine = record { mine = mine; fixed = fixed } in
    let held : arc_value c.in_ok-new.field-0 ≡ c.in_ok-graph.graph = c.in_ok-new.ensures.ok in
    let whole : c.deref.result.now ≡ graph_of_mine mine = c.deref.ensures ∙ graph_is (arc_value c.graph.result.now) mine c.graph.ensures.blocks c.graph.ensures.pairs in
    let gave : GaveFixedMine files (fixed_instance_of fixed_mine) = record {
      upit = upit c.in_ok-model.model.n c.in_ok-model.model.values.items;
      pairs = c.in_ok-needs.needs.pairs;
      given = record { model_text = m.0; prec_text = q.0; model_given = m.1; prec_given = q.1; model_spelled = m.2; prec_spelled = q.2 };
      fixed_given = subst (GaveFixed files.fixed c.in_ok-model.model.n) (sym c.in_ok-fixed.ensures.lists) c.in_ok-forced.ensures.given;
      blocks = c.with_counters-mine.ensures.blocks ∙ ap (λ (h : Graph). h.blocks) held ∙ c.in_ok-graph.ensures.blocks;
      values = c.with_counters-mine.ensures.values;
      same = subst (λ (qs : List (ℕ × ℕ)). AreSamePairs c.in_ok-needs.needs.pairs qs) (sym (c.with_counters-mine.ensures.pairs ∙ ap (λ (h : Graph). h.pairs) held)) c.in_ok-graph.ensures.same;
      acyclic = c.in_ok-graph.ensures.acyclic;
      instance = c.law.ensures;
    } in
    subst (λ (m : Instance). HoldsMine files (fixed_instance_of (record { mine = m; fixed = fixed }))) (sym c.in_ok-shared.ensures)
    (record { gave = gave; no_clash = has_no_clash fixed_mine (subst (λ (h : Graph). IsFixedOf h fixed) whole c.in_ok-fixed.ensures.of_graph) })
