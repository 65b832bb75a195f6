-- Faults by where they lie, and those that lie in no input.
use Rattle.std.specs.Prelude.{◌≡◌, ◌⊎◌, ℕ}
use Rattle.faults.specs.declared.fault.Fault.{Fault}
use Rattle.faults.specs.declared.refusal.Refusal.{Refusal}
use Rattle.faults.specs.declared.refusal.Refusal.TheVariants.{NoMemory, WriteFailed, NoSeat, Exhausted, FixedClash}
use Rattle.faults.specs.declared.source.Source.{Source}
use Rattle.faults.specs.declared.source.Source.TheVariants.{None}

-- the fault of a line of an input
abbrev pub at_line : Source → Refusal → ℕ → Fault
at_line source refusal line = record { refusal = refusal; source = source; line = line }

-- a refusal that lies in no input
abbrev pub nowhere : Refusal → Fault
nowhere refusal = at_line None refusal 0

-- a growth was refused
abbrev pub no_memory : Fault
no_memory = nowhere NoMemory

-- the writer failed
abbrev pub write_failed : Fault
write_failed = nowhere WriteFailed

-- a table, a place in one or a thread was refused
abbrev pub no_seat : Fault
no_seat = nowhere NoSeat

-- memory or a seat was refused
abbrev pub IsNoRoom : Fault → Type 0
IsNoRoom fault = (fault ≡ no_memory) ⊎ (fault ≡ no_seat)

-- the budget of so many mergers is used up
abbrev pub exhausted : ℕ → Fault
exhausted count = nowhere (Exhausted count)

-- this barred block must be dug
abbrev pub clash : ℕ → Fault
clash block = nowhere (FixedClash block)
