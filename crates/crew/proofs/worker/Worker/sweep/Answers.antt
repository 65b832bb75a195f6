-- Each number that is drawn adds the arcs of its chunk.
use Rattle.std.proofs.Common.{[], append-nil, slice_index_or, subst, sym}
use Rattle.std.specs.Prelude.{true}
use Rattle.crew.specs.Working.{WorksOn}
use Rattle.crew.proofs.Working.{draws_more, draws_none, idle}
use Rattle.crew.proofs.worker.Worker.sweep.Goals as goal

pub loop-drawn-init : goal.loop-drawn-init
loop-drawn-init g c = ([], sym (append-nil c.args.draw_seat.now.drawn), idle c.args.self.now.seats)

pub returns-in_default : goal.returns-in_default
returns-in_default g c =
    let so = draws_none c.args.sweep.now.work.now c.args.draw_seat.now.drawn c.loop-drawn.draw_seat c.draw.new.seat c.args.self.now.seats c.loop-drawn.self.seats c.in_default.ensures c.loop-drawn.invariant in
    (so.0, true, so.1, so.2)

pub returns-then-not-go_over : goal.returns-then-not-go_over
returns-then-not-go_over g c =
    let old = c.loop-drawn.self.seats in
    let new = c.go_over.new.self.seats in
    let works = subst (λ l. WorksOn l old new c.go_over.result) c.chunk.ensures c.go_over.ensures in
    let so = draws_more c.args.sweep.now.work.now c.args.draw_seat.now.drawn c.loop-drawn.draw_seat c.draw.new.seat c.in-Some.number c.args.self.now.seats old new c.go_over.result c.in-Some.ensures.2 c.loop-drawn.invariant works in
    (so.0, c.go_over.result, so.1, so.2)

pub loop-drawn-preserved : goal.loop-drawn-preserved
loop-drawn-preserved g c =
    let old = c.loop-drawn.self.seats in
    let new = c.go_over.new.self.seats in
    let works = subst (λ l. WorksOn l old new c.go_over.result) c.chunk.ensures c.go_over.ensures in
    draws_more c.args.sweep.now.work.now c.args.draw_seat.now.drawn c.loop-drawn.draw_seat c.draw.new.seat c.in-Some.number c.args.self.now.seats old new true c.in-Some.ensures.2 c.loop-drawn.invariant
    (subst (WorksOn (slice_index_or c.args.sweep.now.work.now c.in-Some.number []) old new) c.if-not-go_over.false works)
