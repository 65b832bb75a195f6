-- The mergers over the least merger arcs are those of the first run.
use Rattle.std.proofs.Common.{◌≡◌, ℕ, ◌+◌, ◌-◌, ◌≤◌, sym, ap, ◌∙◌, arith, subst, Some}
use Rattle.pit_model.specs.Mine.{Instance}
use Rattle.pit_model.specs.Tree.{Tree}
use Rattle.pit_model.specs.Merger.{merged}
use Rattle.pit_model.specs.FirstRun.{HasNoMerger, IsFirstMerger, after_first, first_run}
use Rattle.pit_model.proofs.FirstRuns.{after_first_some, first_run-suc, first_run-stays}

pub one_more :
    (mine : Instance) (tree next : Tree) (made k : ℕ) → tree ≡ first_run mine made → IsFirstMerger mine tree (Some k) → next ≡ merged mine tree k
    → next ≡ first_run mine (made + 1)
one_more mine tree next made k run is step =
    step ∙ sym (after_first_some mine tree k is) ∙ ap (after_first mine) run ∙ sym (first_run-suc mine made) ∙ ap (first_run mine) (omega arith)

pub ended : (mine : Instance) (tree : Tree) (made budget : ℕ) → tree ≡ first_run mine made → HasNoMerger mine tree → made ≤ budget → tree ≡ first_run mine budget
ended mine tree made budget run none within =
    let stays = first_run-stays mine made (budget - made) (subst (HasNoMerger mine) run none) in
    run ∙ sym stays ∙ ap (first_run mine) (omega arith)
