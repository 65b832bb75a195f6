use Rattle.std.proofs.Common.{◌∙◌, ◌<◌, ◌≤◌, get_or, length, arith, subst}
use Rattle.std.specs.List.{All}
use Rattle.std.proofs.lemmas.List.{take_all}
use Rattle.tree_lock.specs.HolderState.{HolderState}
use Rattle.crew.specs.declared.worker.Worker.{Worker}
use Rattle.crew.specs.Working.{IsSynchronised}
use Rattle.crew.proofs.Meeting.{one_more}
use Rattle.crew.proofs.sweeps.synchronise_all.Goals as goal

pub loop-worker-preserved : goal.loop-worker-preserved
loop-worker-preserved g c =
    let was = c.loop-worker.invariant in
    let lt : c.loop-worker.worker-index < length c.loop-worker.workers = omega (arith, c.loop-worker-test.true) in
    record {
      same = c.synchronise.ensures.same ∙ was.same;
      met = one_more (λ (w : Worker g.row.S.Denot). IsSynchronised g.S.ListId.mine c.args.holder.now.journal w.seats) c.loop-worker.workers c.loop-worker.worker-index
          (record { number = (get_or c.loop-worker.workers c.loop-worker.worker-index c.worker-item.result).number; seats = c.synchronise.new.self }) lt was.met
          (subst (λ (h : HolderState). IsSynchronised g.S.ListId.mine h.journal c.synchronise.new.self) was.same c.synchronise.ensures.met);
    }

pub returns-clause-met : goal.returns-clause-met
returns-clause-met g c =
    let all : length c.loop-worker.workers ≤ c.loop-worker.worker-index = omega (arith, c.loop-worker-test.false) in
    subst (All (λ (w : Worker g.row.S.Denot). IsSynchronised g.S.ListId.mine c.args.holder.now.journal w.seats)) (take_all c.loop-worker.worker-index c.loop-worker.workers all) c.loop-worker.invariant.met
