-- Where there is not room for the parts, the lengths differ.
use Rattle.std.proofs.Common.{◌∙◌, sym, inr}
use Rattle.std.proofs.lemmas.Bool.{false≢true}
use Rattle.faults.specs.declared.refusal.Refusal.TheVariants.{CountsDiffer}
use Rattle.pitshell_c.proofs.pitshell_certificate.Goals as goal

pub returns-then-not-have_room-clause-refused : goal.returns-then-not-have_room-clause-refused
returns-then-not-have_room-clause-refused c other = (CountsDiffer, c.number.ensures, inr ((λ both. false≢true (sym c.if-not-have_room.true ∙ c.have_room.ensures.1 both)), c.refused.ensures.place))
