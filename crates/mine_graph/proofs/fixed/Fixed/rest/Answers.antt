-- The open blocks are those without a mark.
use Rattle.std.proofs.Common.{◌≡◌, ℕ, ◌<◌, ap, ◌∙◌, arith}
use Rattle.std.specs.Prelude.{not}
use Rattle.pit_model.specs.Fixed.{is_open}
use Rattle.mine_graph.specs.FixedBlocks.{forced_closure, barred_closure, mark_of}
use Rattle.mine_graph.proofs.Renumbering.{part_ext}
use Rattle.mine_graph.proofs.fixed.Fixed.rest.Goals as goal

pub without-requires : goal.without-requires
without-requires c = c.deref.ensures.len ∙ c.in_ok-settled.settled.ok.0 ∙ c.in_ok-settled.ensures.count ∙ c.n.ensures

pub returns-clause-rest : goal.returns-clause-rest
returns-clause-rest c =
    let marks = c.deref.result.now in
    let open_blocks : (u : ℕ) → u < c.args.graph.now.blocks → not (mark_of marks u) ≡ is_open (forced_closure c.args.self.now) (barred_closure c.args.self.now) u =
    λ u l. ap (λ m. not (mark_of m u)) c.deref.ensures.value ∙ ap not (c.in_ok-settled.ensures.marks u (omega (arith, c.n.ensures))) in
    record {
      settled = c.requires.settled;
      is_part = part_ext c.args.graph.now c.in_ok-rest.rest.graph (λ u. not (mark_of marks u)) (is_open (forced_closure c.args.self.now) (barred_closure c.args.self.now)) c.in_ok-rest.rest.blocks.items c.law.ensures.graph.in_range open_blocks c.in_ok-rest.ensures.part;
      is_graph = c.law-2.ensures.graph;
    }
