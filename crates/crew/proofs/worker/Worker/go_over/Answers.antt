-- Over one arc more the worker looks and asks, or looks alone, or does nothing once its part has ended.
use Rattle.std.proofs.Common.{◌≡◌, ◌∙◌, ◌+◌, ◌<◌, ◌++◌, [], ◌∷◌, ℕ, List, ap, arith, get_or, length, subst, take, true}
use Rattle.std.proofs.lemmas.List.{take_more}
use Rattle.crew.specs.declared.worker.Worker.{Worker}
use Rattle.crew.specs.Working.{WorksOn}
use Rattle.crew.proofs.Working.{idle, look_remembers, looks_once, passes, proposes_works, works_same, works_then}
use Rattle.crew.proofs.worker.Worker.go_over.Goals.{then-goes_on+then-sees_merger, else-goes_on, else-goes_on-via-then-goes_on+else-sees_merger, else-goes_on-via-else-goes_on}
use Rattle.crew.proofs.worker.Worker.go_over.Goals as goal

pub loop-arc-init : goal.loop-arc-init
loop-arc-init g c = idle c.args.self.now.seats

pub loop-arc-preserved : goal.loop-arc-preserved
loop-arc-preserved g c =
    let mine = g.S.ListId.mine in
    let arcs : List ℕ = c.args.arcs.now in
    let i : ℕ = c.loop-arc.arc-index in
    let here : ℕ = get_or arcs i 0 in
    let so = take i arcs in
    let lt : i < length arcs = omega (arith, c.loop-arc-test.true) in
    let more : take (i + 1) arcs ≡ so ++ here ∷ [] = take_more arcs i 0 lt in
    let a = c.args.self.now.seats in
    let b = c.loop-arc.self.seats in
    elim c.if-goes_on.branch [
      | then-goes_on+then-sees_merger w ↦
          let mid = w.sees_merger.new.self in
          let looked = looks_once so a b mid true (subst (WorksOn so a b) w.if-goes_on.true c.loop-arc.invariant) w.sees_merger.ensures.asks
          (look_remembers mine here b.looks mid.looks w.sees_merger.result w.sees_merger.ensures.shown) in
          works_same (take (i + 1) arcs) (so ++ here ∷ []) a c.if-goes_on.self.seats w.propose.new.self.seats c.if-goes_on.goes_on w.propose.result.0 more
          (ap (λ (v : Worker g.row.S.Denot). v.seats) w.self-is) w.goes_on-is
          (works_then so (here ∷ []) a mid w.propose.new.self.seats w.propose.result.0 looked (proposes_works here mid w.propose.new.self.seats w.propose.result.0 w.propose.ensures))
      | else-goes_on w ↦
          elim w.else-goes_on.branch [
            | else-goes_on-via-then-goes_on+else-sees_merger w' ↦
                let mid = w'.sees_merger.new.self in
                let looked = looks_once so a b mid c.loop-arc.goes_on c.loop-arc.invariant w'.sees_merger.ensures.asks
                (look_remembers mine here b.looks mid.looks w'.sees_merger.result w'.sees_merger.ensures.shown) in
                works_same (take (i + 1) arcs) (so ++ here ∷ []) a c.if-goes_on.self.seats mid c.if-goes_on.goes_on c.loop-arc.goes_on more
                (ap (λ (v : Worker g.row.S.Denot). v.seats) (w.self-is ∙ w'.self-is)) w.goes_on-is (passes so (here ∷ []) a mid c.loop-arc.goes_on looked)
            | else-goes_on-via-else-goes_on w' ↦
                works_same (take (i + 1) arcs) (so ++ here ∷ []) a c.if-goes_on.self.seats b c.if-goes_on.goes_on c.loop-arc.goes_on more
                (ap (λ (v : Worker g.row.S.Denot). v.seats) (w.self-is ∙ w'.self-is)) w.goes_on-is (passes so (here ∷ []) a b c.loop-arc.goes_on c.loop-arc.invariant)
          ]
    ]
