-- What the answer of a call tells of the text, where the answer gives what is read of the text.
use Rattle.std.proofs.Common.{◌≡◌, ℕ, List, Result, Ok, Err, sym, subst}
use Rattle.std.specs.Prelude.{IfOk, IfErr}
use Rattle.faults.specs.declared.fault.Fault.{Fault}
use Rattle.faults.specs.declared.refusal.Refusal.{Refusal}
use Rattle.faults.specs.declared.refusal.Refusal.TheVariants.{NoMemory, ReadFailed, WriteFailed}
use Rattle.faults.specs.declared.source.Source.{Source}
use Rattle.minelib_reader.specs.Answer.{Answers, AnswersBy, Gives, FailsBy, FailsAt, IsRead, ReadsText, Refuses}
use Rattle.minelib_reader.specs.Device.{Progress}

pub value_told : {X Y : Type 0} (view : X → Y) (r : Result X Fault) (reading : Result Y Fault) (P : Y → Type 0) → ((y : Y) → reading ≡ Ok y → P y) → Gives view r reading → IfOk r (λ x. P (view x))
value_told view (Ok x) reading P holds h = holds (view x) h
value_told view (Err e) reading P holds h = tt

refusal_told : {Y : Type 0} (r : Refusal) (e : Fault) (reading : Result Y Fault) (P : Fault → Type 0) → (reading ≡ Err e → P e) → FailsBy r e reading → FailsAt r e P
refusal_told NoMemory e reading P holds h = h
refusal_told ReadFailed e reading P holds h = h
refusal_told WriteFailed e reading P holds h = h
refusal_told _ e reading P holds h = holds h

pub fault_told : {X Y : Type 0} (view : X → Y) (r : Result X Fault) (reading : Result Y Fault) (P : Fault → Type 0) → ((e : Fault) → reading ≡ Err e → P e) → Gives view r reading → IfErr r (λ e. FailsAt e.refusal e P)
fault_told view (Ok x) reading P holds h = tt
fault_told view (Err e) reading P holds h = refusal_told e.refusal e reading P (holds e) h

-- a fault of a part is one of the whole
pub fails_map : {X Y : Type 0} (r : Refusal) (e : Fault) (part : Result X Fault) (whole : Result Y Fault) → (part ≡ Err e → whole ≡ Err e) → FailsBy r e part → FailsBy r e whole
fails_map NoMemory e part whole f h = h
fails_map ReadFailed e part whole f h = h
fails_map WriteFailed e part whole f h = h
fails_map _ e part whole f h = f h

-- the fault is that of the text that was read, unless memory was refused
pub refuses_read : {Y : Type 0} (r : Refusal) (source : Source) (e : Fault) (old new : Progress) (AtEnd : Type 0) (reading : List ℕ → Result Y Fault) (text : List ℕ)
    → IsRead old new AtEnd text → FailsBy r e (reading text) → Refuses r source e old new (ReadsText old new AtEnd (λ text. reading text ≡ Err e))
refuses_read NoMemory source e old new AtEnd reading text is h = (is.failures, h)
refuses_read ReadFailed source e old new AtEnd reading text is h = absurd h
refuses_read WriteFailed source e old new AtEnd reading text is h = absurd h
refuses_read _ source e old new AtEnd reading text is h = (text, is, h)

-- memory was refused, and no read failed
pub refuses_memory : {X : Type 0} (r : Refusal) (source : Source) (e : Fault) (old new : Progress) (Others : Type 0) (part : Result X Fault)
    → r ≡ NoMemory → new.failures ≡ old.failures → FailsBy r e part → Refuses r source e old new Others
refuses_memory r source e old new Others part memory same h =
    subst (λ (q : Refusal). Refuses q source e old new Others) (sym memory) (same, subst (λ (q : Refusal). FailsBy q e part) memory h)

-- what a call answers of what is read of a text is answered of what the text spells, and of its first fault
refusal_answered : {Y : Type 0} (r : Refusal) (source : Source) (e : Fault) (old new : Progress) (AtEnd : Type 0) (reading : List ℕ → Result Y Fault) (IsFirst : List ℕ → Fault → Type 0)
    → ((text : List ℕ) → reading text ≡ Err e → IsFirst text e)
    → Refuses r source e old new (ReadsText old new AtEnd (λ text. reading text ≡ Err e)) → Refuses r source e old new (ReadsText old new AtEnd (λ text. IsFirst text e))
refusal_answered NoMemory source e old new AtEnd reading IsFirst first h = h
refusal_answered ReadFailed source e old new AtEnd reading IsFirst first h = h
refusal_answered WriteFailed source e old new AtEnd reading IsFirst first h = h
refusal_answered _ source e old new AtEnd reading IsFirst first (text, is, h) = (text, is, first text h)

pub answered : {X Y : Type 0} (view : X → Y) (reading : List ℕ → Result Y Fault) (Spells : List ℕ → Y → Type 0) (IsFirst : List ℕ → Fault → Type 0) (source : Source) (old new : Progress) (AtEnd : Type 0) (r : Result X Fault)
    → ((text : List ℕ) (y : Y) → reading text ≡ Ok y → Spells text y) → ((text : List ℕ) (e : Fault) → reading text ≡ Err e → IsFirst text e)
    → Answers view reading source old new AtEnd r → AnswersBy view Spells IsFirst source old new AtEnd r
answered view reading Spells IsFirst source old new AtEnd (Ok x) spells first (text, is, h) = (text, is, spells text (view x) h)
answered view reading Spells IsFirst source old new AtEnd (Err e) spells first h = refusal_answered e.refusal source e old new AtEnd reading IsFirst (λ text. first text e) h

pub answered_value : {X Y : Type 0} (view : X → Y) (reading : List ℕ → Result Y Fault) (P : Y → Type 0) (source : Source) (old new : Progress) (AtEnd : Type 0) (r : Result X Fault)
    → ((text : List ℕ) (y : Y) → reading text ≡ Ok y → P y) → Answers view reading source old new AtEnd r → IfOk r (λ x. P (view x))
answered_value view reading P source old new AtEnd (Ok x) holds (text, is, h) = holds text (view x) h
answered_value view reading P source old new AtEnd (Err e) holds h = tt
