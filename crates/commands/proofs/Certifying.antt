-- A certificate of the mine that was read, once written, is one to which the answer is yes; so it is where a beginning was.
use Rattle.std.proofs.Common.{◌≡◌, ℕ, List, inl, inr, ⊎_elim, refl}
use Rattle.std.specs.Prelude.{Option, Some, None, Result, Ok, Err, IfErr, true}
use Rattle.minelib_reader.specs.Device.{Progress, Writes}
use Rattle.faults.specs.Refused.{write_failed}
use Rattle.faults.specs.declared.fault.Fault.{Fault}
use Rattle.pit_model.specs.Fixed.{IsFixedCertificate}
use Rattle.certificate.specs.CertificateGrammar.{SpellsCertificate}
use Rattle.certificate.specs.CertificateLines.{PitAndFlow}
use Rattle.commands.specs.Solve.{Files, FixedInstance, HoldsMine, fixed_in}
use Rattle.merging.specs.Parts.{graph_of_instance}
use Rattle.commands.specs.Check.{AnswersText}
use Rattle.commands.specs.Chosen.{Chosen, OfStates, OfWriter, OfWriterIfAny}
use Rattle.commands.specs.Certified.{IsAnsweredYes, WritesCertificate, PutsCertificate, IsCertified, IsCertificateCut}

answered : (fixed_mine : FixedInstance) (text : List ℕ) (shown : PitAndFlow) → SpellsCertificate (graph_of_instance fixed_mine.mine) fixed_mine.lists text shown → IsFixedCertificate fixed_mine.mine (fixed_in fixed_mine) shown.pit shown.flow → AnswersText fixed_mine text true
answered fixed_mine text shown spelled certifies = record { shown = shown; spelled = spelled; exact = (λ e. certifies, λ c. refl) }

-- a text that spells a certificate of the mine was written, or a beginning of it
pub puts : (fixed_mine : FixedInstance) (shown : PitAndFlow) (before after : Progress) (text : List ℕ) (r : Result (Unit {0}) Fault)
    → SpellsCertificate (graph_of_instance fixed_mine.mine) fixed_mine.lists text shown → IsFixedCertificate fixed_mine.mine (fixed_in fixed_mine) shown.pit shown.flow → Writes before after text r → IfErr r (λ e. e ≡ write_failed)
    → PutsCertificate fixed_mine (record { before = Some before; after = Some after }) r
puts fixed_mine shown before after text (Ok x) spelled certifies w refused = inr (text, answered fixed_mine text shown spelled certifies, w)
puts fixed_mine shown before after text (Err e) spelled certifies w refused = ((text, answered fixed_mine text shown spelled certifies, w), refused)

answered_yes : (files : Files) (fixed_mine : FixedInstance) (text : List ℕ) → HoldsMine files fixed_mine → AnswersText fixed_mine text true → IsAnsweredYes files text
answered_yes files fixed_mine text holds answers = record { fixed_mine = fixed_mine; given = record { holds = holds; ordered = holds.gave.instance.graph }; yes = answers }

written : (files : Files) (fixed_mine : FixedInstance) → HoldsMine files fixed_mine → (before after : Progress) → WritesCertificate {E = Fault} fixed_mine (Ok tt) before after → IsCertified files before after
written files fixed_mine holds before after w = record { text = w.0; answered = answered_yes files fixed_mine w.0 holds w.1; wrote = w.2 }

cut : (files : Files) (fixed_mine : FixedInstance) (e : Fault) → HoldsMine files fixed_mine → (before after : Progress) → WritesCertificate {E = Fault} fixed_mine (Err e) before after → IsCertificateCut files before after
cut files fixed_mine e holds before after w = record {
  text = w.0;
  answered = answered_yes files fixed_mine w.0 holds w.1;
  wrote = w.2;
}

pub of_states : (P Q : Progress → Progress → Type 0) → ((before after : Progress) → P before after → Q before after) → (before after : Option Progress) → OfStates before after P → OfStates before after Q
of_states P Q weaker (Some before) (Some after) holds = weaker before after holds
of_states P Q weaker (Some before) None holds = absurd holds
of_states P Q weaker None after holds = absurd holds

pub certified : (files : Files) (fixed_mine : FixedInstance) (c : Chosen) → HoldsMine files fixed_mine → OfWriterIfAny c (WritesCertificate {E = Fault} fixed_mine (Ok tt)) → OfWriterIfAny c (IsCertified files)
certified files fixed_mine c holds w = ⊎_elim
    (λ none. inl none)
    (λ wrote. inr (of_states (WritesCertificate {E = Fault} fixed_mine (Ok tt)) (IsCertified files) (written files fixed_mine holds) c.before c.after wrote))
    w

pub certificate_cut : (files : Files) (fixed_mine : FixedInstance) (e : Fault) (c : Chosen) → HoldsMine files fixed_mine → OfWriter c (WritesCertificate {E = Fault} fixed_mine (Err e)) → OfWriter c (IsCertificateCut files)
certificate_cut files fixed_mine e c holds wrote = of_states (WritesCertificate {E = Fault} fixed_mine (Err e)) (IsCertificateCut files) (cut files fixed_mine e holds) c.before c.after wrote
