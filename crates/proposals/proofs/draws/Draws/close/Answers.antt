-- The seat that gathered all others stands for every seat, so what it has drawn is all that was drawn.
use Rattle.std.proofs.Common.{arith, sym, ap, ◌∙◌, ◌≡◌, ◌+◌, ◌++◌, ◌∷◌, [], length, length-append}
use Rattle.proposals.specs.Drawn.{times, all_drawn}
use Rattle.proposals.proofs.Drawing.{may_enter, may_gather, all_seen, no_seats, times_append, times_last}
use Rattle.proposals.proofs.draws.Draws.close.Goals as goal

pub load_new_seat-requires : goal.load_new_seat-requires
load_new_seat-requires g c = (omega (arith, c.self.inside.wide), may_enter c.self.inside.counter.shared.key c.self.inside.counter.shared.table_id.slots 0)

pub join_seat-requires : goal.join_seat-requires
join_seat-requires g c =
    let s = c.seat.invariant in
    (c.loop-seat.invariant.table, s.table ∙ sym c.self.inside.named, s.empty, omega (arith, c.self.inside.wide), may_gather c.self.inside.counter.shared.key c.loop-seat.all.id c.seat.inside.seat.id c.loop-seat.all.me.0 c.seat.inside.seat.me.0 (omega (arith, s.one)))

pub loop-seat-preserved : goal.loop-seat-preserved
loop-seat-preserved g c =
    let i = c.loop-seat.invariant in
    let e = c.join_seat.ensures in
    let seats : c.join_seat.new.seat.me.0.seats ≡ c.loop-seat.all.me.0.seats + c.seat.inside.seat.me.0.seats = ap (λ m. m.0.seats) e.2 in
    let drawn : c.join_seat.new.seat.me.0.drawn ≡ c.loop-seat.all.me.0.drawn ++ c.seat.inside.seat.me.0.drawn = ap (λ m. m.0.drawn) e.2 in
    let popped : c.loop-seat.seats.items ≡ c.pop.new.self.items ++ c.seat.inside.seat.me.0 ∷ [] = c.in-Some.ensures.items ∙ ap (λ x. c.pop.new.self.items ++ x ∷ []) (sym c.seat.view_is) in
    record {
      table = e.0 ∙ i.table;
      empty = ap (λ m. m.1) e.2 ∙ i.empty;
      counts = let l = length-append c.pop.new.self.items (c.seat.inside.seat.me.0 ∷ []) in let p = ap length popped in omega (arith, seats, c.seat.invariant.one, l, p, i.counts);
      tells = λ x.
          let a = ap (times x) drawn in
          let b = times_append x c.loop-seat.all.me.0.drawn c.seat.inside.seat.me.0.drawn in
          let d = ap (λ l. times x (all_drawn l)) popped in
          let f = times_last x c.pop.new.self.items c.seat.inside.seat.me.0 in
          let h = i.tells x in
          omega (arith, a, b, d, f, h);
    }

pub returns : goal.returns
returns g c =
    let i = c.loop-seat.invariant in
    let none : c.loop-seat.seats.items ≡ [] = no_seats c.loop-seat.seats.items (omega (arith, c.loop-seat.seats.ok.0, c.in_default.ensures.cases.0)) in
    let full : c.loop-seat.all.me.0.seats ≡ c.self.inside.counter.shared.key.seats = let l = ap length none in omega (arith, l, i.counts, c.requires.every, c.self.inside.keyed) in
    let seen = all_seen c.self.inside.counter.shared.key c.loop-seat.all.id c.loop-seat.all.me.0 _ _ c.word-stands_at.result c.close_with-closed.ensures.values.2 full c.word-stands_at.ensures in
    λ x. let h = i.tells x in let e = ap (λ l. times x (all_drawn l)) none in sym (omega (arith, h, e)) ∙ seen x
