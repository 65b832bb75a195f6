-- Where one step of reading a deposit is refused, the deposit is refused so: by cases on the refusal.
use Rattle.std.proofs.Common.{◌≡◌, ℕ, List, inl, inr, refl, sym, subst, ⊎_elim}
use Rattle.std.specs.Prelude.{ℤ}
use Rattle.faults.specs.Refused.{no_memory}
use Rattle.minelib_reader.specs.Answer.{Refuses, ReadsText}
use Rattle.minelib_reader.specs.Table.{Table}
use Rattle.minelib_reader.specs.Column.{IsColumn, RefusesColumn}
use Rattle.minelib_reader.specs.BlocksGrammar.{SpellsTable}
use Rattle.minelib_reader.specs.BlocksFault.{IsFirstTableFault}
use Rattle.minelib_reader.specs.PrecFault.{IsFirstPrecFault}
use Rattle.faults.specs.declared.fault.Fault.{Fault}
use Rattle.faults.specs.declared.refusal.Refusal.{Refusal}
use Rattle.faults.specs.declared.refusal.Refusal.TheVariants.{NoMemory, ReadFailed, WriteFailed, NoSeat, Exhausted, NegativeColumn, NoSuchColumn}
use Rattle.faults.specs.declared.source.Source.TheVariants as sources
use Rattle.minelib_reader.proofs.TextFaults.{IsOfText, table_fault_of_text, prec_fault_of_text}
use Rattle.mine_graph.specs.Faults.{RefusesPairs, IsGraphFault}
use Rattle.pit_model.specs.Graph.{IsAcyclic}
use Rattle.shells.specs.Columns.{RefusesColumns}
use Rattle.commands.specs.Solve.{Reading, Gave, NeverFailed}
use Rattle.commands.specs.Deposit.{rows, GaveTable, RefusesDeposit, in_blocks, in_prec, in_pairs, in_columns}

pub blocks_refused :
    (r : Refusal) (e : Fault) (blocks prec : Reading) (revenue cost : ℕ) → e.refusal ≡ r → NeverFailed prec
    → Refuses r sources.Blocks e blocks.before blocks.after (ReadsText blocks.before blocks.after blocks.ended (λ text. IsFirstTableFault text e))
    → RefusesDeposit r e blocks prec revenue cost
blocks_refused NoMemory e blocks prec revenue cost is still h = (h.1, h.0, still)
blocks_refused ReadFailed e blocks prec revenue cost is still h = inl h
blocks_refused WriteFailed e blocks prec revenue cost is still h = h
blocks_refused NoSeat e blocks prec revenue cost is still h = subst IsOfText is (table_fault_of_text h.0 e h.2)
blocks_refused (Exhausted count) e blocks prec revenue cost is still h = subst IsOfText is (table_fault_of_text h.0 e h.2)
blocks_refused _ e blocks prec revenue cost is still h = in_blocks h.0 h.1 h.2

pub needs_refused :
    (r : Refusal) (e : Fault) (blocks prec : Reading) (revenue cost : ℕ) (table : Table) (text : List ℕ) → e.refusal ≡ r → Gave blocks text → SpellsTable text table
    → Refuses r sources.Precedence e prec.before prec.after (ReadsText prec.before prec.after prec.ended (λ behind. IsFirstPrecFault (rows table) behind e))
    → RefusesDeposit r e blocks prec revenue cost
needs_refused NoMemory e blocks prec revenue cost table text is given spelled h = (h.1, given.failures, h.0)
needs_refused ReadFailed e blocks prec revenue cost table text is given spelled h = inr h
needs_refused WriteFailed e blocks prec revenue cost table text is given spelled h = h
needs_refused NoSeat e blocks prec revenue cost table text is given spelled h = subst IsOfText is (prec_fault_of_text (rows table) h.0 e h.2)
needs_refused (Exhausted count) e blocks prec revenue cost table text is given spelled h = subst IsOfText is (prec_fault_of_text (rows table) h.0 e h.2)
needs_refused _ e blocks prec revenue cost table text is given spelled h = in_prec text h.0 table given spelled h.1 h.2

pub cycle_refused :
    (r : Refusal) (e : Fault) (blocks prec : Reading) (revenue cost : ℕ) (table : Table) (pairs : List (ℕ × ℕ)) → GaveTable blocks prec table pairs
    → IsGraphFault pairs (rows table) e → RefusesPairs pairs (rows table) r e → RefusesDeposit r e blocks prec revenue cost
cycle_refused NoMemory e blocks prec revenue cost table pairs given is h = (h, given.blocks_given.failures, given.prec_given.failures)
cycle_refused ReadFailed e blocks prec revenue cost table pairs given is h = absurd h
cycle_refused WriteFailed e blocks prec revenue cost table pairs given is h = h
cycle_refused NoSeat e blocks prec revenue cost table pairs given is h = h
cycle_refused (Exhausted count) e blocks prec revenue cost table pairs given is h = h
cycle_refused _ e blocks prec revenue cost table pairs given is h = in_pairs table pairs given is

-- a column is refused by no reading and no writing, and by no seat and no budget
column_refused :
    (r : Refusal) (e : Fault) (blocks prec : Reading) (revenue cost k : ℕ) (table : Table) (pairs : List (ℕ × ℕ)) → GaveTable blocks prec table pairs → IsAcyclic pairs
    → RefusesColumns table revenue cost e → RefusesColumn table k r e → RefusesDeposit r e blocks prec revenue cost
column_refused NoMemory e blocks prec revenue cost k table pairs given acyclic is h = (h, given.blocks_given.failures, given.prec_given.failures)
column_refused (NegativeColumn block) e blocks prec revenue cost k table pairs given acyclic is h = in_columns table pairs given acyclic is
column_refused (NoSuchColumn column) e blocks prec revenue cost k table pairs given acyclic is h = in_columns table pairs given acyclic is
column_refused _ e blocks prec revenue cost k table pairs given acyclic is h = absurd h

pub columns_refused :
    (e : Fault) (blocks prec : Reading) (revenue cost : ℕ) (table : Table) (pairs : List (ℕ × ℕ)) → GaveTable blocks prec table pairs → IsAcyclic pairs
    → RefusesColumns table revenue cost e → RefusesDeposit e.refusal e blocks prec revenue cost
columns_refused e blocks prec revenue cost table pairs given acyclic is = ⊎_elim
    (λ (h : RefusesColumn table revenue e.refusal e). column_refused e.refusal e blocks prec revenue cost revenue table pairs given acyclic is h)
    (λ (h : ((values : List ℤ) × IsColumn table revenue values) × RefusesColumn table cost e.refusal e). column_refused e.refusal e blocks prec revenue cost cost table pairs given acyclic is h.1)
    is

pub room_refused :
    (e : Fault) (blocks prec : Reading) (revenue cost : ℕ) (table : Table) (pairs : List (ℕ × ℕ)) → GaveTable blocks prec table pairs
    → e ≡ no_memory → RefusesDeposit e.refusal e blocks prec revenue cost
room_refused e blocks prec revenue cost table pairs given is =
    subst (λ f. RefusesDeposit f.refusal f blocks prec revenue cost) (sym is) (refl, given.blocks_given.failures, given.prec_given.failures)
