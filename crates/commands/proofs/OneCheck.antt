-- Two runs of `check` over the same texts that blame one of them name the same fault.
use Rattle.std.proofs.Common.{◌≡◌, ℕ, inl, inr, sym, ap, subst, List}
use Rattle.minelib_reader.specs.Device.{Progress}
use Rattle.minelib_reader.proofs.FirstFaultLemmas.{one_first}
use Rattle.faults.specs.Refused.{no_memory}
use Rattle.faults.specs.declared.fault.Fault.{Fault}
use Rattle.faults.specs.declared.refusal.Refusal.{Refusal}
use Rattle.faults.specs.declared.refusal.Refusal.TheVariants.{NoMemory, ReadFailed, WriteFailed, NoSeat, Exhausted}
use Rattle.certificate.specs.CertificateFault.{certificate_fault_at, IsFirstCertificateFault}
use Rattle.merging.specs.Parts.{graph_of_instance}
use Rattle.report.specs.FaultText.{fault_text}
use Rattle.commands.specs.Solve.{Files, FirstFault, FixedInstance, Gave, GaveInOrder, Reading, RefusesMine}
use Rattle.commands.specs.Check.{NotAnswered, no_certificate, no_mine, RefusesCertificate, RefusesCheck}
use Rattle.commands.specs.Uniqueness.{BlamesAText, CheckFaultsOnce, GaveAlike, IsUnread, ReadAlike}
use Rattle.commands.proofs.OneFault.{alike_back, faults_once, given_is_faultless}
use Rattle.commands.proofs.Uniqueness.{mine_in_order}

-- ---- a refusal that blames a text

is_no_unread : (r : Refusal) → BlamesAText r → IsUnread r → ⊥
is_no_unread r blames (inl none) = subst BlamesAText none blames
is_no_unread r blames (inr failed) = subst BlamesAText failed blames

pub is_no_memory : (fault : Fault) → BlamesAText fault.refusal → fault ≡ no_memory → ⊥
is_no_memory fault blames e = subst (λ (f : Fault). BlamesAText f.refusal) e blames

mine_fault : (r : Refusal) (fault : Fault) (files : Files) → BlamesAText r → RefusesMine r fault files → FirstFault fault files
mine_fault NoMemory fault files blames h = absurd blames
mine_fault ReadFailed fault files blames h = absurd blames
mine_fault WriteFailed fault files blames h = absurd blames
mine_fault NoSeat fault files blames h = absurd blames
mine_fault (Exhausted count) fault files blames h = absurd blames
mine_fault _ fault files blames h = h

read_back : (files other : Files) → ReadAlike files other → ReadAlike other files
read_back files other same = record {
  model = λ text behind x y. sym (same.model behind text y x);
  prec = λ text behind x y. sym (same.prec behind text y x);
  fixed = alike_back files.fixed other.fixed same.fixed;
}

module _ (files other : Files) (same : ReadAlike files other) (fault second : Fault) (some : BlamesAText fault.refusal) (some_too : BlamesAText second.refusal) where
  pub one_mine_fault : RefusesMine fault.refusal fault files → RefusesMine second.refusal second other → fault_text fault ≡ fault_text second
  one_mine_fault h k =
      faults_once files other fault second same (is_no_memory fault some) (is_no_memory second some_too)
      (mine_fault fault.refusal fault files some h) (mine_fault second.refusal second other some_too k)

  -- where one run read a mine, the other blames none of its texts
  pub none_blamed : (m : FixedInstance) → RefusesMine fault.refusal fault files → GaveInOrder other m → ⊥
  none_blamed m h gave = is_no_unread fault.refusal some (given_is_faultless other files m fault (read_back files other same) gave h)

  pub none_blamed_too : (m : FixedInstance) → GaveInOrder files m → RefusesMine second.refusal second other → ⊥
  none_blamed_too m gave k = is_no_unread second.refusal some_too (given_is_faultless files other m second same gave k)

-- ---- `check`

certificate_fault : (r : Refusal) (fault : Fault) (m : FixedInstance) (certificate : Reading) → BlamesAText r → RefusesCertificate r fault m certificate
    → (text : List ℕ) × Gave certificate text × IsFirstCertificateFault (graph_of_instance m.mine) m.lists text fault
certificate_fault NoMemory fault m certificate blames h = absurd blames
certificate_fault ReadFailed fault m certificate blames h = absurd blames
certificate_fault WriteFailed fault m certificate blames h = absurd blames
certificate_fault _ fault m certificate blames h = h

not_answered : (r : Refusal) (fault : Fault) (files : Files) (certificate : Reading) (before after : Progress) → BlamesAText r → RefusesCheck r fault files certificate before after → NotAnswered fault files certificate
not_answered WriteFailed fault files certificate before after blames h = absurd blames
not_answered _ fault files certificate before after blames h = h.0

module _ (files other : Files) (certificate other_certificate : Reading) (same : ReadAlike files other) (alike : GaveAlike certificate other_certificate)
    (fault second : Fault) (some : BlamesAText fault.refusal) (some_too : BlamesAText second.refusal) where
  one_certificate_fault : (m n : FixedInstance) → GaveInOrder files m → GaveInOrder other n
      → RefusesCertificate fault.refusal fault m certificate → RefusesCertificate second.refusal second n other_certificate → fault_text fault ≡ fault_text second
  one_certificate_fault m n one two h k =
      let mine = mine_in_order files other same m n one.holds.gave two.holds.gave in
      let a = certificate_fault fault.refusal fault m certificate some h in
      let b = certificate_fault second.refusal second n other_certificate some_too k in
      let here = subst (λ t. IsFirstCertificateFault (graph_of_instance m.mine) m.lists t fault) (alike a.0 b.0 a.1 b.1) a.2 in
      let there = subst (λ (x : FixedInstance). IsFirstCertificateFault (graph_of_instance x.mine) x.lists b.0 fault) mine here in
      ap fault_text (one_first (certificate_fault_at (graph_of_instance n.mine) n.lists b.0) fault second there b.2)

  one_check : NotAnswered fault files certificate → NotAnswered second other other_certificate → fault_text fault ≡ fault_text second
  one_check (no_mine h left) (no_mine k left_too) = one_mine_fault files other same fault second some some_too h k
  one_check (no_mine h left) (no_certificate n gave k) = absurd (none_blamed files other same fault second some some_too n h gave)
  one_check (no_certificate m gave h) (no_mine k left) = absurd (none_blamed_too files other same fault second some some_too m gave k)
  one_check (no_certificate m one h) (no_certificate n two k) = one_certificate_fault m n one two h k

pub check_faults_once : (files other : Files) (certificate other_certificate : Reading) → CheckFaultsOnce files other certificate other_certificate
check_faults_once files other certificate other_certificate before after other_before other_after fault second same alike some some_too h k =
    one_check files other certificate other_certificate same alike fault second some some_too
    (not_answered fault.refusal fault files certificate before after some h)
    (not_answered second.refusal second other other_certificate other_before other_after some_too k)
