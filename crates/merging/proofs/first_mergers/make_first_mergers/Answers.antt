use Rattle.std.proofs.Common.{◌+◌, ◌∙◌, refl, sym, ap, arith}
use Rattle.pit_model.specs.FirstRun.{first_run}
use Rattle.pit_model.proofs.FirstRuns.{first_run-zero}
use Rattle.merging.proofs.FirstMergers.{one_more, ended}
use Rattle.merging.proofs.first_mergers.make_first_mergers.Goals as goal

pub mergers-init : goal.mergers-init
mergers-init c = (refl, c.requires ∙ sym (first_run-zero c.args.tree.now.mine))

pub returns-in-None-clause-run : goal.returns-in-None-clause-run
returns-in-None-clause-run c =
    let same = c.mergers.invariant.0 in
    let run = c.mergers.invariant.1 ∙ ap (λ m. first_run m c.mergers._made) (sym same) in
    ended c.mergers.tree.mine c.mergers.tree.tree c.mergers._made c.args.budget run (c.in-None.ensures.none refl) (omega arith)
    ∙ ap (λ m. first_run m c.args.budget) same

pub mergers-preserved : goal.mergers-preserved
mergers-preserved c =
    let same = c.mergers.invariant.0 in
    let run = c.mergers.invariant.1 ∙ ap (λ m. first_run m c.mergers._made) (sym same) in
    let merger = c.in-Some.ensures.merger in
    let step = c.try_merge.ensures.merged (c.try_merge.ensures.exact ∙ merger) in (
      c.try_merge.ensures.mine ∙ same,
      one_more c.mergers.tree.mine c.mergers.tree.tree c.try_merge.new.self.tree c.mergers._made c.in-Some.arc run (merger, c.in-Some.ensures.least) step
          ∙ ap (λ m. first_run m (c.mergers._made + 1)) same,
    )
