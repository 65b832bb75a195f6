-- Where one step of a run is refused, the run is refused so: by cases on the refusal.
use Rattle.std.proofs.Common.{◌≡◌, ℕ, List, Option, Some, None, inl, inr, ⊎_elim, refl, sym, subst, ◌∙◌}
use Rattle.std.proofs.lemmas.Bool.{and_parts, true≢false}
use Rattle.faults.specs.Refused.{no_memory, write_failed}
use Rattle.minelib_reader.specs.Device.{Progress}
use Rattle.minelib_reader.specs.Answer.{Refuses, ReadsText}
use Rattle.minelib_reader.specs.Upit.{Upit}
use Rattle.minelib_reader.specs.UpitGrammar.{SpellsUpit}
use Rattle.minelib_reader.specs.UpitFault.{IsFirstUpitFault}
use Rattle.minelib_reader.specs.PrecFault.{IsFirstPrecFault}
use Rattle.faults.specs.declared.fault.Fault.{Fault}
use Rattle.faults.specs.declared.refusal.Refusal.{Refusal}
use Rattle.faults.specs.declared.refusal.Refusal.TheVariants.{NoMemory, ReadFailed, WriteFailed, NoSeat, Exhausted, FixedClash}
use Rattle.faults.specs.declared.source.Source.TheVariants as sources
use Rattle.mine_graph.specs.Faults.{RefusesPairs, IsGraphFault}
use Rattle.minelib_reader.specs.FixedFault.{IsFirstFixedFault}
use Rattle.mine_graph.specs.FixedBlocks.{IsFixedOf, RefusesFixed, forced_closure}
use Rattle.pit_model.specs.Fixed.{FixedLists, fixed_of, graph_of_mine}
use Rattle.pit_model.proofs.Fixed.{closure_is_one}
use Rattle.pit_model.specs.declared.direction.Direction.{Direction}
use Rattle.solver.specs.declared.mode.Mode.{Mode}
use Rattle.solver.specs.Searched.{RefusesSearch}
use Rattle.commands.specs.Solve.{OptionalReading, no_reader, one_reader, gone, optional_reading, Files, FixedInstance, GaveFixed, GaveFixedMine, HasNoClash, HoldsMine, OfChoice, OfChoiceIfAny, Gave, NeverFailed, GaveMine, in_model, in_prec, in_fixed, in_pairs, in_blocks, RefusesFixedText, RefusesMine, fixed_in, fixed_instance_of}
use Rattle.commands.specs.declared.mine.FixedMine.{FixedMine}
use Rattle.commands.specs.declared.options.SolveSettings.{SolveSettings}
use Rattle.pit_model.specs.Replay.{IsComplete}
use Rattle.commands.specs.Chosen.{Chosen, IsLeft}
use Rattle.commands.specs.Journaled.{AtBudget}
use Rattle.commands.specs.Run.{RefusesPit, RefusesRun, WasCutShort, in_journal, in_certificate}
use Rattle.commands.proofs.Certifying.{certificate_cut}
use Rattle.commands.proofs.Journaling.{journaled, journal_cut}
use Rattle.minelib_reader.proofs.TextFaults.{IsOfText, upit_fault_of_text, prec_fault_of_text, fixed_fault_of_text}

-- a reader that was not called did not fail
pub still : {F : Type 0} (progress : F → Progress) (is_at_end : F → Type 0) (fixed : Option F) → OfChoiceIfAny (optional_reading progress is_at_end fixed fixed) NeverFailed
still progress is_at_end None = tt
still progress is_at_end (Some reader) = refl

pub model_refused :
    (r : Refusal) (e : Fault) (files : Files) → e.refusal ≡ r → NeverFailed files.prec → OfChoiceIfAny files.fixed NeverFailed
    → Refuses r sources.Model e files.model.before files.model.after (ReadsText files.model.before files.model.after files.model.ended (λ text. IsFirstUpitFault text e))
    → RefusesMine r e files
model_refused NoMemory e files is prec fixed h = (h.1, h.0, prec, fixed)
model_refused ReadFailed e files is prec fixed h = inl h
model_refused WriteFailed e files is prec fixed h = h
model_refused NoSeat e files is prec fixed h = subst IsOfText is (upit_fault_of_text h.0 e h.2)
model_refused (Exhausted count) e files is prec fixed h = subst IsOfText is (upit_fault_of_text h.0 e h.2)
model_refused _ e files is prec fixed h = in_model h.0 h.1 h.2

pub prec_refused :
    (r : Refusal) (e : Fault) (files : Files) (upit : Upit) (text : List ℕ) → e.refusal ≡ r → OfChoiceIfAny files.fixed NeverFailed → Gave files.model text → SpellsUpit text upit
    → Refuses r sources.Precedence e files.prec.before files.prec.after (ReadsText files.prec.before files.prec.after files.prec.ended (λ behind. IsFirstPrecFault upit.n behind e))
    → RefusesMine r e files
prec_refused NoMemory e files upit text is fixed given spelled h = (h.1, given.failures, h.0, fixed)
prec_refused ReadFailed e files upit text is fixed given spelled h = inr (inl h)
prec_refused WriteFailed e files upit text is fixed given spelled h = h
prec_refused NoSeat e files upit text is fixed given spelled h = subst IsOfText is (prec_fault_of_text upit.n h.0 e h.2)
prec_refused (Exhausted count) e files upit text is fixed given spelled h = subst IsOfText is (prec_fault_of_text upit.n h.0 e h.2)
prec_refused _ e files upit text is fixed given spelled h = in_prec text h.0 upit given spelled h.1 h.2

-- a fault of a fixed file lies in the text
of_fixed_text : (c : OptionalReading) (n : ℕ) (e : Fault) (r : Refusal) → e.refusal ≡ r → OfChoice c (λ s. (text : List ℕ) × Gave s text × IsFirstFixedFault n text e) → IsOfText r
of_fixed_text (one_reader s) n e r is h = subst IsOfText is (fixed_fault_of_text n h.0 e h.2)
of_fixed_text no_reader n e r is h = absurd h
of_fixed_text gone n e r is h = absurd h

-- a reader of choice that answered did not fail
of_choice_any : (c : OptionalReading) → OfChoice c NeverFailed → OfChoiceIfAny c NeverFailed
of_choice_any no_reader h = tt
of_choice_any (one_reader r) h = h
of_choice_any gone h = h

pub fixed_refused :
    (r : Refusal) (e : Fault) (files : Files) (upit : Upit) (pairs : List (ℕ × ℕ)) → e.refusal ≡ r → GaveMine files.model files.prec upit pairs
    → RefusesFixedText r e upit.n files.fixed → RefusesMine r e files
fixed_refused NoMemory e files upit pairs is given h = (h.0, given.model_given.failures, given.prec_given.failures, of_choice_any files.fixed h.1)
fixed_refused ReadFailed e files upit pairs is given h = inr (inr h)
fixed_refused WriteFailed e files upit pairs is given h = h
fixed_refused NoSeat e files upit pairs is given h = of_fixed_text files.fixed upit.n e NoSeat is h
fixed_refused (Exhausted count) e files upit pairs is given h = of_fixed_text files.fixed upit.n e (Exhausted count) is h
fixed_refused _ e files upit pairs is given h = in_fixed upit pairs given h

-- the fixed blocks that were read did not fail
given_fixed : (c : OptionalReading) (n : ℕ) (lists : FixedLists) → GaveFixed c n lists → OfChoiceIfAny c NeverFailed
given_fixed no_reader n lists given = tt
given_fixed (one_reader r) n lists given = given.1.failures
given_fixed gone n lists given = absurd given

pub pairs_refused :
    (r : Refusal) (e : Fault) (files : Files) (upit : Upit) (pairs : List (ℕ × ℕ)) (lists : FixedLists) → GaveMine files.model files.prec upit pairs → GaveFixed files.fixed upit.n lists
    → IsGraphFault pairs upit.n e → RefusesPairs pairs upit.n r e → RefusesMine r e files
pairs_refused NoMemory e files upit pairs lists given fixed is h = (h, given.model_given.failures, given.prec_given.failures, given_fixed files.fixed upit.n lists fixed)
pairs_refused ReadFailed e files upit pairs lists given fixed is h = absurd h
pairs_refused WriteFailed e files upit pairs lists given fixed is h = h
pairs_refused NoSeat e files upit pairs lists given fixed is h = h
pairs_refused (Exhausted count) e files upit pairs lists given fixed is h = h
pairs_refused _ e files upit pairs lists given fixed is h = in_pairs upit pairs lists given fixed is

pub memory_refused : (files : Files) (upit : Upit) (pairs : List (ℕ × ℕ)) (lists : FixedLists) → GaveMine files.model files.prec upit pairs → GaveFixed files.fixed upit.n lists → RefusesMine NoMemory no_memory files
memory_refused files upit pairs lists given fixed = (refl, given.model_given.failures, given.prec_given.failures, given_fixed files.fixed upit.n lists fixed)

pub blocks_refused :
    (r : Refusal) (e : Fault) (files : Files) (fixed_mine : FixedInstance) → GaveFixedMine files fixed_mine
    → RefusesFixed (graph_of_mine fixed_mine.mine) fixed_mine.lists r e → RefusesMine r e files
blocks_refused NoMemory e files fixed_mine given h = (h, given.given.model_given.failures, given.given.prec_given.failures, given_fixed files.fixed given.upit.n fixed_mine.lists given.fixed_given)
blocks_refused (FixedClash block) e files fixed_mine given h = in_blocks fixed_mine block given h.1 h.0
blocks_refused _ e files fixed_mine given h = absurd h

-- fixed blocks in memory have no clash
pub has_no_clash : (fixed_mine : FixedMine) → IsFixedOf (graph_of_mine fixed_mine.mine) fixed_mine.fixed → HasNoClash (fixed_instance_of fixed_mine)
has_no_clash fixed_mine is block clash =
    let fixed = fixed_of fixed_mine.fixed.lists in
    let both = and_parts (fixed.barred block) (clash.dug block) clash.least.member in
    let same = closure_is_one fixed_mine.mine.pairs fixed.forced clash.dug (forced_closure fixed_mine.fixed) clash.dug_is is.settled.dug_is block in
    true≢false (sym both.1 ∙ same ∙ is.clash_free block both.0)

-- a refusal of the files is one of the run
pub read_refused : (settings : SolveSettings) (r : Refusal) (e : Fault) (files : Files) (journal certificate : Chosen) (out : Progress) → IsLeft journal → IsLeft certificate → RefusesMine r e files → RefusesRun settings r e files journal certificate out out
read_refused settings WriteFailed e files journal certificate out j c h = absurd h
read_refused settings NoSeat e files journal certificate out j c h = absurd h
read_refused settings (Exhausted count) e files journal certificate out j c h = absurd h
read_refused settings _ e files journal certificate out j c h = (h, record { no_journal = j; no_certificate = c; no_pit = refl })

-- a search that is refused before anything is written, where there is no writer of a journal
pub search_refused :
    (mode : Mode) (direction : Direction) (fixed_mine : FixedInstance) (r : Refusal) (e : Fault) (journal certificate : Chosen) → journal.before ≡ None → IsLeft journal → IsLeft certificate
    → RefusesSearch mode direction fixed_mine.mine (fixed_in fixed_mine) r e → RefusesPit mode direction fixed_mine r e journal certificate
search_refused mode direction fixed_mine (Exhausted count) e journal certificate none left same h = (h, inl (none, left), same)
search_refused mode direction fixed_mine WriteFailed e journal certificate none left same h = absurd h
search_refused mode direction fixed_mine _ e journal certificate none left same h = (h, left, same)

-- and so is a refusal to find the pit
pub pit_refused :
    (settings : SolveSettings) (r : Refusal) (e : Fault) (files : Files) (fixed_mine : FixedInstance) (journal certificate : Chosen) (out : Progress) → HoldsMine files fixed_mine
    → RefusesPit settings.mode settings.pit fixed_mine r e journal certificate → RefusesRun settings r e files journal certificate out out
pit_refused settings WriteFailed e files fixed_mine journal certificate out holds h = ⊎_elim
    (λ of_journal. (of_journal.0.1, in_journal (journal_cut settings.mode files fixed_mine e journal holds of_journal.0.0) of_journal.1 refl))
    (λ behind. (
      behind.2.1,
      in_certificate (record { within = (fixed_mine, holds, behind.0); journaled = journaled IsComplete settings.mode files fixed_mine journal holds behind.1 })
          (certificate_cut files fixed_mine e certificate holds behind.2.0) refl,
    ))
    h
pit_refused settings NoMemory e files fixed_mine journal certificate out holds h = let gave = holds.gave in
    ((h.0, gave.given.model_given.failures, gave.given.prec_given.failures, given_fixed files.fixed gave.upit.n fixed_mine.lists gave.fixed_given), record { no_journal = h.1; no_certificate = h.2; no_pit = refl })
pit_refused settings NoSeat e files fixed_mine journal certificate out holds h = (h.0.0, h.0.1, (fixed_mine, holds), record { no_journal = h.1; no_certificate = h.2; no_pit = refl })
pit_refused settings (Exhausted count) e files fixed_mine journal certificate out holds h =
    (h.0.0, (fixed_mine, holds, h.0.1), journaled (AtBudget count) settings.mode files fixed_mine journal holds h.1, h.2, refl)
pit_refused settings _ e files fixed_mine journal certificate out holds h = absurd h.0

pub write_refused :
    (settings : SolveSettings) (e : Fault) (files : Files) (journal certificate : Chosen) (before after : Progress) → e ≡ write_failed → WasCutShort settings files journal certificate before after
    → RefusesRun settings e.refusal e files journal certificate before after
write_refused settings e files journal certificate before after is cut =
    subst (λ f. RefusesRun settings f.refusal f files journal certificate before after) (sym is) (refl, cut)
