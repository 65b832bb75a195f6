-- A writer that a run may have or not, as that of a certificate.
use Rattle.std.specs.Prelude.{◌≡◌, ◌⊎◌, ◌^◌, ◌<◌, Option, Some, None, is_some}
use Rattle.minelib_reader.specs.Device.{Progress}

-- its states before and after a run; None where there is no such writer
pub record Chosen : Type 0 where
  pub before : Option Progress
  pub after : Option Progress

abbrev pub progress_of : {W : Type 0} → (W → Progress) → Option W → Option Progress
progress_of progress None = None
progress_of progress (Some w) = Some (progress w)

abbrev pub chosen : {W : Type 0} → (W → Progress) → Option W → Option W → Chosen
chosen progress before after = record { before = progress_of progress before; after = progress_of progress after }

-- a writer of choice neither comes nor goes
abbrev pub Stays : {W : Type 0} → Option W → Option W → Type 0
Stays before after = is_some after ≡ is_some before

-- the writer may be called, where there is one
abbrev pub IsCountable : Option Progress → Type 0
IsCountable None = Unit {0}
IsCountable (Some p) = p.failures < 2 ^ 63

-- nothing went to the writer
abbrev pub IsLeft : Chosen → Type 0
IsLeft c = c.after ≡ c.before

-- this holds of the states of the writer, which is there
abbrev pub OfStates : Option Progress → Option Progress → (Progress → Progress → Type 0) → Type 0
OfStates (Some before) (Some after) Holds = Holds before after
OfStates _ _ Holds = ⊥

abbrev pub OfWriter : Chosen → (Progress → Progress → Type 0) → Type 0
OfWriter c Holds = OfStates c.before c.after Holds

-- this holds of the states of the writer, where it is there
abbrev pub OfWriterIfAny : Chosen → (Progress → Progress → Type 0) → Type 0
OfWriterIfAny c Holds = ((c.before ≡ None) × IsLeft c) ⊎ OfWriter c Holds
