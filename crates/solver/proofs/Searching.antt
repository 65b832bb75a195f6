-- How a solve of a mine ends, by that of the instance that is searched.
use Rattle.std.proofs.Common.{◌≡◌, refl, List, get_or}
use Rattle.std.specs.Prelude.{pos}
use Rattle.pit_model.specs.declared.journal.Entry.{Entry}
use Rattle.pit_model.specs.Mine.{Instance}
use Rattle.pit_model.specs.Fixed.{fixed_of, graph_of_mine}
use Rattle.pit_model.proofs.OpenCertificates.{none_fixed_certifies}
use Rattle.mine_graph.specs.FixedBlocks.{FixedBlocks, IsFixedOf, forced_closure, barred_closure, no_lists}
use Rattle.optimality.specs.declared.pit_with_flow.Certificate.{Certificate}
use Rattle.optimality.specs.Certificate.{IsCertificateOf, IsFixedCertificateOf}
use Rattle.merging.specs.declared.outcome.Outcome.{Outcome}
use Rattle.merging.specs.declared.outcome.Outcome.TheVariants as outcomes
use Rattle.pit_search.proofs.Searching.{none_is_rest, none_named}
use Rattle.solver.specs.declared.mode.Mode.{Mode}
use Rattle.solver.specs.declared.mode.Mode.TheVariants.{Single, Parts, Shared}
use Rattle.solver.specs.Modes.{EndsIn}
use Rattle.solver.specs.Searched.{EndsFixed, IsLiftedOutcome, IsShown}

-- ---- outcomes
pub shown_of : (mode : Mode) (mine : Instance) (outcome : Outcome) (journal : List Entry) → EndsIn mode mine outcome journal → IsShown mine outcome
shown_of (Single budget) mine (outcomes.Pit c) journal ended = ended.1
shown_of Parts mine (outcomes.Pit c) journal ended = ended.1
shown_of (Shared workers budget chunk) mine (outcomes.Pit c) journal ended = ended.0.ends.0
shown_of mode mine (outcomes.Exhausted count) journal ended = tt

-- a certificate of a mine where nothing is fixed
plain_certificate : (mine : Instance) (fixed : FixedBlocks) (c : Certificate) → IsFixedOf (graph_of_mine mine) fixed → fixed.lists ≡ no_lists → IsCertificateOf mine c → IsFixedCertificateOf mine (fixed_of fixed.lists) c
plain_certificate mine fixed c of none is = record {
  certifies = record {
    dug = forced_closure fixed;
    left = barred_closure fixed;
    settled = of.settled;
    set = is.certifies.set;
    listed = is.certifies.listed;
    counted = is.certifies.counted;
    certifies = (none_fixed_certifies mine (fixed_of fixed.lists) (forced_closure fixed) (barred_closure fixed) is.certifies.set (λ k. get_or c.flow.items k (pos 0)) (none_named fixed.lists none) of.settled).1 is.certifies.certifies;
  };
  candidate = is.candidate;
}

lifts_itself : (mine : Instance) (fixed : FixedBlocks) (outcome : Outcome) → IsFixedOf (graph_of_mine mine) fixed → fixed.lists ≡ no_lists → IsShown mine outcome → IsLiftedOutcome mine (fixed_of fixed.lists) outcome outcome
lifts_itself mine fixed (outcomes.Pit c) of none is = plain_certificate mine fixed c of none is
lifts_itself mine fixed (outcomes.Exhausted count) of none is = refl

pub ends_plain : (mode : Mode) (mine : Instance) (fixed : FixedBlocks) (outcome : Outcome) (journal : List Entry) → IsFixedOf (graph_of_mine mine) fixed → fixed.lists ≡ no_lists
    → EndsIn mode mine outcome journal → EndsFixed mode mine (fixed_of fixed.lists) outcome journal
ends_plain mode mine fixed outcome journal of none ended =
    (mine, none_is_rest mine fixed.lists none, (outcome, ended, lifts_itself mine fixed outcome of none (shown_of mode mine outcome journal ended)))
