-- What is answered of a certificate of the mine that was read is written, and where it is yes, the pit of the files' mine is
-- shown: pairs stand in another order than in the file, and that order does not matter.
use Rattle.std.proofs.Common.{◌≡◌, ℕ, Bool, List, refl, sym, subst, Ok, Err, Result}
use Rattle.std.specs.Prelude.{ℤ, ◌↔◌, IsTrue, IfOk}
use Rattle.minelib_reader.specs.Device.{Progress, Writes}
use Rattle.minelib_reader.specs.Answer.{Refuses, ReadsText}
use Rattle.faults.specs.Refused.{write_failed}
use Rattle.faults.specs.declared.fault.Fault.{Fault}
use Rattle.faults.specs.declared.refusal.Refusal.{Refusal}
use Rattle.faults.specs.declared.refusal.Refusal.TheVariants.{NoMemory, ReadFailed, WriteFailed}
use Rattle.faults.specs.declared.source.Source.TheVariants as sources
use Rattle.pit_model.specs.Graph.{AreSamePairs}
use Rattle.pit_model.specs.Mine.{instance_of}
use Rattle.pit_model.specs.Limits.{IsInstance}
use Rattle.pit_model.specs.declared.direction.Direction.TheVariants.{Least}
use Rattle.pit_model.specs.Pit.{Fixed, ListsPit}
use Rattle.pit_model.specs.Fixed.{IsFixedCertificate}
use Rattle.pit_model.proofs.Simple.{instance_is_simple}
use Rattle.pit_model.proofs.SamePairs.{turned, pit_knows_no_order}
use Rattle.certificate.specs.CertificateGrammar.{SpellsCertificate}
use Rattle.certificate.specs.CertificateLines.{PitAndFlow}
use Rattle.certificate.specs.CertificateFault.{IsFirstCertificateFault}
use Rattle.optimality.proofs.Checked.{shows_fixed}
use Rattle.report.specs.AnswerText.{answer_text}
use Rattle.commands.specs.Solve.{Files, FixedInstance, Gave, HoldsMine, Reading, fixed_in}
use Rattle.merging.specs.Parts.{graph_of_instance}
use Rattle.commands.specs.Check.{IsAnswered, Checks, status_of_answer, IsChecked, IsAnswerCut, RefusesCertificate, NotAnswered, no_certificate, RefusesCheck}
use Rattle.commands.specs.declared.status.Status.{Status}

-- a pit that is shown does not depend on the order of the pairs
shown_moves :
    (fixed : Fixed) (blocks n : ℕ) (values vs : List ℤ) (ps qs : List (ℕ × ℕ)) (pit : List ℕ) → blocks ≡ n → values ≡ vs → AreSamePairs ps qs
    → ListsPit Least (instance_of blocks values ps) fixed pit → ListsPit Least (instance_of n vs qs) fixed pit
shown_moves fixed blocks n values vs ps qs pit same_n same_v same s =
    subst (λ b. ListsPit Least (instance_of b vs qs) fixed pit) same_n
    (subst (λ v. ListsPit Least (instance_of blocks v qs) fixed pit) same_v
    (record { set = s.set; listed = s.listed; is_pit = pit_knows_no_order Least blocks values ps qs fixed s.set same s.is_pit }))

checks : (files : Files) (certificate : Reading) (fixed_mine : FixedInstance) (answer : Bool) → HoldsMine files fixed_mine → IsInstance fixed_mine.mine → IsAnswered fixed_mine certificate answer → Checks files certificate answer
checks files certificate fixed_mine answer holds is a = let gave = holds.gave in record {
  fixed_mine = fixed_mine;
  given = record { holds = holds; ordered = is.graph };
  answered = a;
  shows_pit = λ e. shown_moves (fixed_in fixed_mine) fixed_mine.mine.blocks gave.upit.n fixed_mine.mine.values gave.upit.values fixed_mine.mine.pairs gave.pairs a.answers.shown.pit gave.blocks gave.values (turned gave.pairs fixed_mine.mine.pairs gave.same)
      (shows_fixed fixed_mine.mine (fixed_in fixed_mine) a.answers.shown.pit a.answers.shown.flow (instance_is_simple fixed_mine.mine is).in_range (a.answers.exact.0 e));
}

pub checked :
    (files : Files) (certificate : Reading) (fixed_mine : FixedInstance) (answer : Bool) (status : Status) (before after : Progress)
    → HoldsMine files fixed_mine → IsInstance fixed_mine.mine → IsAnswered fixed_mine certificate answer → status ≡ status_of_answer answer
    → Writes {E = Fault} before after (answer_text answer) (Ok tt) → IsChecked files certificate before after status
checked files certificate fixed_mine answer status before after holds is a reported w = record {
  answer = answer;
  checks = checks files certificate fixed_mine answer holds is a;
  reported = reported;
  wrote = w;
}

pub answer_cut :
    (files : Files) (certificate : Reading) (fixed_mine : FixedInstance) (answer : Bool) (before after : Progress) (e : Fault)
    → HoldsMine files fixed_mine → IsInstance fixed_mine.mine → IsAnswered fixed_mine certificate answer
    → e ≡ write_failed → Writes {E = Fault} before after (answer_text answer) (Err e) → RefusesCheck e.refusal e files certificate before after
answer_cut files certificate fixed_mine answer before after e holds is a failed w =
    let cut : IsAnswerCut files certificate before after = record {
      answer = answer;
      checks = checks files certificate fixed_mine answer holds is a;
      wrote = w;
    } in
    subst (λ f. RefusesCheck f.refusal f files certificate before after) (sym failed) (refl, cut)

-- each refusal before anything is written
not_answered : (r : Refusal) (e : Fault) (files : Files) (certificate : Reading) (out : Progress) → (r ≡ WriteFailed → ⊥) → NotAnswered e files certificate → RefusesCheck r e files certificate out out
not_answered WriteFailed e files certificate out other n = absurd (other refl)
not_answered _ e files certificate out other n = (n, refl)

certificate_is_no_write : (r : Refusal) (e : Fault) (fixed_mine : FixedInstance) (certificate : Reading) → RefusesCertificate r e fixed_mine certificate → r ≡ WriteFailed → ⊥
certificate_is_no_write WriteFailed e fixed_mine certificate h same = h
certificate_is_no_write _ e fixed_mine certificate h same = cc

pub certificate_refused : (e : Fault) (files : Files) (certificate : Reading) (fixed_mine : FixedInstance) (out : Progress) → HoldsMine files fixed_mine → IsInstance fixed_mine.mine → RefusesCertificate e.refusal e fixed_mine certificate → RefusesCheck e.refusal e files certificate out out
certificate_refused e files certificate fixed_mine out holds is h =
    not_answered e.refusal e files certificate out (certificate_is_no_write e.refusal e fixed_mine certificate h) (no_certificate fixed_mine (record { holds = holds; ordered = is.graph }) h)

-- a refusal of the reader is one of the certificate
pub reading_refused : (r : Refusal) (e : Fault) (fixed_mine : FixedInstance) (certificate : Reading)
    → Refuses r sources.Certificate e certificate.before certificate.after (ReadsText certificate.before certificate.after certificate.ended (λ text. IsFirstCertificateFault (graph_of_instance fixed_mine.mine) fixed_mine.lists text e))
    → RefusesCertificate r e fixed_mine certificate
reading_refused NoMemory e fixed_mine certificate h = (h.1, h.0)
reading_refused ReadFailed e fixed_mine certificate h = h
reading_refused WriteFailed e fixed_mine certificate h = h
reading_refused _ e fixed_mine certificate h = h

pub is_answered : (fixed_mine : FixedInstance) (certificate : Reading) (answer : Result Bool Fault) (text : List ℕ) (shown : PitAndFlow) → Gave certificate text → SpellsCertificate (graph_of_instance fixed_mine.mine) fixed_mine.lists text shown
    → IfOk answer (λ b. IsTrue b ↔ IsFixedCertificate fixed_mine.mine (fixed_in fixed_mine) shown.pit shown.flow) → IfOk answer (IsAnswered fixed_mine certificate)
is_answered fixed_mine certificate (Ok b) text shown given spelled exact = record { text = text; given = given; answers = record { shown = shown; spelled = spelled; exact = exact } }
is_answered fixed_mine certificate (Err e) text shown given spelled exact = tt
