-- Two runs of `shells` over the same texts that blame one of them name the same fault.
use Rattle.std.proofs.Common.{◌≡◌, ℕ, ◌<◌, ◌≤◌, inl, inr, refl, sym, ap, subst, ◌∙◌, arith, List}
use Rattle.std.specs.Prelude.{ℤ, pos, ◌⊎◌, ◌↔◌, Ok, Err}
use Rattle.std.proofs.lemmas.Int.{ints}
use Rattle.std.proofs.lemmas.Bool.{cases_lt}
use Rattle.minelib_reader.specs.Device.{Progress}
use Rattle.minelib_reader.specs.Text.{rows_of}
use Rattle.minelib_reader.specs.Table.{Table, attribute_in}
use Rattle.minelib_reader.specs.Column.{IsColumn, IsLawfulBelow, IsLeastNegative, RefusesColumn}
use Rattle.minelib_reader.specs.Blocks.{table_of}
use Rattle.minelib_reader.specs.BlocksGrammar.{SpellsTable}
use Rattle.minelib_reader.specs.BlocksFault.{table_fault_at, IsFirstTableFault}
use Rattle.minelib_reader.specs.PrecGrammar.{SpellsPrec}
use Rattle.minelib_reader.specs.PrecFault.{prec_fault_at, IsFirstPrecFault}
use Rattle.minelib_reader.proofs.BlocksGrammarLemmas as tables
use Rattle.minelib_reader.proofs.FirstFaultLemmas.{one_first}
use Rattle.faults.specs.Refused.{at_line, no_memory}
use Rattle.faults.specs.declared.fault.Fault.{Fault}
use Rattle.faults.specs.declared.refusal.Refusal.{Refusal}
use Rattle.faults.specs.declared.refusal.Refusal.TheVariants.{NoMemory, ReadFailed, WriteFailed, NoSeat, Exhausted, NegativeColumn, NoSuchColumn}
use Rattle.faults.specs.declared.source.Source.TheVariants.{Blocks}
use Rattle.mine_graph.specs.Faults.{IsGraphFault}
use Rattle.mine_graph.proofs.Acyclic.{acyclic_is_well_founded}
use Rattle.merging.proofs.Planning.{only_memory}
use Rattle.pit_model.specs.Graph.{IsAcyclic}
use Rattle.pit_model.specs.declared.direction.Direction.{Direction}
use Rattle.report.specs.FaultText.{fault_text}
use Rattle.shells.specs.Columns.{RefusesColumns}
use Rattle.solver.specs.declared.mode.Mode.{Mode}
use Rattle.commands.specs.Solve.{Reading}
use Rattle.commands.specs.Deposit.{FirstDepositFault, in_blocks, in_prec, in_pairs, in_columns, GaveTable, RefusesDeposit, rows}
use Rattle.commands.specs.ShellsRun.{RefusesShellsRun}
use Rattle.commands.specs.Uniqueness.{BlamesAText, GaveAlike, ShellFaultsOnce}
use Rattle.commands.proofs.OneCheck.{is_no_memory}
use Rattle.commands.proofs.OneFault.{one_cycle, sound_precedence}
use Rattle.commands.proofs.Uniqueness.{one_pairs, one_table, table_once}

-- ---- a text, and a column

-- what `blocks_law` says of faults
abbrev TablesFail : Type 0
TablesFail = (text : List ℕ) (fault : Fault) → (table_of text ≡ Err fault) ↔ IsFirstTableFault text fault

sound_table : TablesFail → (text : List ℕ) (t : Table) (fault : Fault) → SpellsTable text t → IsFirstTableFault text fault → ⊥
sound_table law text t fault spelled is =
    let read : table_of text ≡ Ok t = tables.reads (rows_of text) t spelled in
    let failed : table_of text ≡ Err fault = (law text fault).1 is in
    cc

-- a column that is refused is no column, unless memory is refused
no_column : (t : Table) (k : ℕ) (values : List ℤ) (r : Refusal) (fault : Fault) → BlamesAText r → IsColumn t k values → RefusesColumn t k r fault → ⊥
no_column t k values NoMemory fault blames is h = blames
no_column t k values (NoSuchColumn j) fault blames is h = let known = is.known in let past = h.0 in omega (arith, known, past)
no_column t k values (NegativeColumn u) fault blames is h = let low = is.lawful u h.0.block in let less = h.0.negative in omega (arith, ints, low, less)
no_column t k values _ fault blames is h = h

-- what a column is refused for
data ColumnFault (t : Table) (k : ℕ) (fault : Fault) : Type 0 where
  missing : t.width ≤ k → fault ≡ at_line Blocks (NoSuchColumn k) 0 → ColumnFault t k fault
  negative : (u : ℕ) → IsLeastNegative t k u → fault ≡ at_line Blocks (NegativeColumn u) 0 → ColumnFault t k fault

column_fault : (t : Table) (k : ℕ) (r : Refusal) (fault : Fault) → BlamesAText r → RefusesColumn t k r fault → ColumnFault t k fault
column_fault t k NoMemory fault blames h = absurd blames
column_fault t k (NoSuchColumn j) fault blames h = missing h.0 h.1
column_fault t k (NegativeColumn u) fault blames h = negative u h.0 h.1
column_fault t k _ fault blames h = absurd h

not_before : (t : Table) (k u v : ℕ) → IsLeastNegative t k u → IsLeastNegative t k v → u < v → ⊥
not_before t k u v a b lt = let low = b.least u lt in let less = a.negative in omega (arith, ints, low, less)

one_negative : (t : Table) (k u v : ℕ) → IsLeastNegative t k u → IsLeastNegative t k v → u ≡ v
one_negative t k u v a b = elim (cases_lt u v) [
  | inl lt ↦ absurd (not_before t k u v a b lt)
  | inr le ↦ elim (cases_lt v u) [
    | inl gt ↦ absurd (not_before t k v u b a gt)
    | inr ge ↦ omega (arith, le, ge)
  ]
]

one_column_fault : (t : Table) (k : ℕ) (f g : Fault) → ColumnFault t k f → ColumnFault t k g → f ≡ g
one_column_fault t k f g (missing past is) (missing past_too is_too) = is ∙ sym is_too
one_column_fault t k f g (missing past is) (negative v b is_too) = let known = b.known in absurd (omega (arith, known, past))
one_column_fault t k f g (negative u a is) (missing past is_too) = let known = a.known in absurd (omega (arith, known, past))
one_column_fault t k f g (negative u a is) (negative v b is_too) = is ∙ ap (λ w. at_line Blocks (NegativeColumn w) 0) (one_negative t k u v a b) ∙ sym is_too

one_columns_fault : (t : Table) (revenue cost : ℕ) (f g : Fault) → BlamesAText f.refusal → BlamesAText g.refusal
    → RefusesColumns t revenue cost f → RefusesColumns t revenue cost g → f ≡ g
one_columns_fault t revenue cost f g some some_too (inl a) (inl b) =
    one_column_fault t revenue f g (column_fault t revenue f.refusal f some a) (column_fault t revenue g.refusal g some_too b)
one_columns_fault t revenue cost f g some some_too (inl a) (inr b) = absurd (no_column t revenue b.0.0 f.refusal f some b.0.1 a)
one_columns_fault t revenue cost f g some some_too (inr a) (inl b) = absurd (no_column t revenue a.0.0 g.refusal g some_too a.0.1 b)
one_columns_fault t revenue cost f g some some_too (inr a) (inr b) =
    one_column_fault t cost f g (column_fault t cost f.refusal f some a.1) (column_fault t cost g.refusal g some_too b.1)

-- ---- the texts

module _ (law : TablesFail) (blocks prec other_blocks other_prec : Reading) (same : GaveAlike blocks other_blocks) (same_prec : GaveAlike prec other_prec) (revenue cost : ℕ)
    (f g : Fault) (some : BlamesAText f.refusal) (some_too : BlamesAText g.refusal) where
  -- the blocks of one text spell a table, so the other run found no fault there
  blocks_sound : (text behind : List ℕ) (t : Table) → text ≡ behind → IsFirstTableFault text f → SpellsTable behind t → ⊥
  blocks_sound text behind t e is spelled = sound_table law behind t f spelled (subst (λ x. IsFirstTableFault x f) e is)

  blocks_sound_too : (text behind : List ℕ) (t : Table) → text ≡ behind → SpellsTable text t → IsFirstTableFault behind g → ⊥
  blocks_sound_too text behind t e spelled is = sound_table law behind t g (subst (λ x. SpellsTable x t) e spelled) is

  prec_sound : (text ps : List ℕ) (s t : Table) (qs : List (ℕ × ℕ)) → SpellsTable text s → IsFirstPrecFault (rows s) ps f → (gave : GaveTable other_blocks other_prec t qs)
      → text ≡ gave.blocks_text → ps ≡ gave.prec_text → ⊥
  prec_sound text ps s t qs spelled is gave e d =
      let table = table_once gave.blocks_text s t (subst (λ x. SpellsTable x s) e spelled) gave.blocks_spelled in
      let moved = subst (λ (w : Table). IsFirstPrecFault (rows w) gave.prec_text f) table (subst (λ x. IsFirstPrecFault (rows s) x f) d is) in
      sound_precedence (rows t) gave.prec_text qs f gave.prec_spelled moved

  prec_sound_too : (behind qs : List ℕ) (s t : Table) (ps : List (ℕ × ℕ)) → (gave : GaveTable blocks prec s ps) → SpellsTable behind t → IsFirstPrecFault (rows t) qs g
      → gave.blocks_text ≡ behind → gave.prec_text ≡ qs → ⊥
  prec_sound_too behind qs s t ps gave spelled is e d =
      let table = table_once behind s t (subst (λ x. SpellsTable x s) e gave.blocks_spelled) spelled in
      let moved = subst (λ (w : Table). SpellsPrec (rows w) qs ps) table (subst (λ x. SpellsPrec (rows s) x ps) d gave.prec_spelled) in
      sound_precedence (rows t) qs ps g moved is

  one_fault : FirstDepositFault f blocks prec revenue cost → FirstDepositFault g other_blocks other_prec revenue cost → fault_text f ≡ fault_text g
  one_fault (in_blocks text given is) (in_blocks behind gave two) =
      ap fault_text (one_first (table_fault_at behind) f g (subst (λ x. IsFirstTableFault x f) (same text behind given gave) is) two)
  one_fault (in_blocks text given is) (in_prec behind qs t gave spelled there two) = absurd (blocks_sound text behind t (same text behind given gave) is spelled)
  one_fault (in_blocks text given is) (in_pairs t qs gave two) = absurd (blocks_sound text gave.blocks_text t (same text gave.blocks_text given gave.blocks_given) is gave.blocks_spelled)
  one_fault (in_blocks text given is) (in_columns t qs gave acyclic two) = absurd (blocks_sound text gave.blocks_text t (same text gave.blocks_text given gave.blocks_given) is gave.blocks_spelled)
  one_fault (in_prec text ps s given spelled here is) (in_blocks behind gave two) = absurd (blocks_sound_too text behind s (same text behind given gave) spelled two)
  one_fault (in_prec text ps s given spelled here is) (in_prec behind qs t gave spelled_too there two) =
      let table = table_once behind s t (subst (λ x. SpellsTable x s) (same text behind given gave) spelled) spelled_too in
      let moved = subst (λ (w : Table). IsFirstPrecFault (rows w) qs f) table (subst (λ x. IsFirstPrecFault (rows s) x f) (same_prec ps qs here there) is) in
      ap fault_text (one_first (prec_fault_at (rows t) qs) f g moved two)
  one_fault (in_prec text ps s given spelled here is) (in_pairs t qs gave two) =
      absurd (prec_sound text ps s t qs spelled is gave (same text gave.blocks_text given gave.blocks_given) (same_prec ps gave.prec_text here gave.prec_given))
  one_fault (in_prec text ps s given spelled here is) (in_columns t qs gave acyclic two) =
      absurd (prec_sound text ps s t qs spelled is gave (same text gave.blocks_text given gave.blocks_given) (same_prec ps gave.prec_text here gave.prec_given))
  one_fault (in_pairs s ps one is) (in_blocks behind gave two) = absurd (blocks_sound_too one.blocks_text behind s (same one.blocks_text behind one.blocks_given gave) one.blocks_spelled two)
  one_fault (in_pairs s ps one is) (in_prec behind qs t gave spelled there two) =
      absurd (prec_sound_too behind qs s t ps one spelled two (same one.blocks_text behind one.blocks_given gave) (same_prec one.prec_text qs one.prec_given there))
  one_fault (in_pairs s ps one is) (in_pairs t qs gave two) =
      let table = one_table blocks prec other_blocks other_prec same same_prec s t ps qs one gave in
      let pairs = one_pairs blocks prec other_blocks other_prec same same_prec s t ps qs one gave in
      let moved = subst (λ rs. IsGraphFault rs (rows t) f) pairs (subst (λ (w : Table). IsGraphFault ps (rows w) f) table is) in
      one_cycle qs (rows t) f g (is_no_memory f some) (is_no_memory g some_too) moved two
  one_fault (in_pairs s ps one is) (in_columns t qs gave acyclic two) =
      let pairs = one_pairs blocks prec other_blocks other_prec same same_prec s t ps qs one gave in
      absurd (is_no_memory f some (only_memory acyclic_is_well_founded ps (rows s) f.refusal f (subst IsAcyclic (sym pairs) acyclic) is))
  one_fault (in_columns s ps one acyclic is) (in_blocks behind gave two) = absurd (blocks_sound_too one.blocks_text behind s (same one.blocks_text behind one.blocks_given gave) one.blocks_spelled two)
  one_fault (in_columns s ps one acyclic is) (in_prec behind qs t gave spelled there two) =
      absurd (prec_sound_too behind qs s t ps one spelled two (same one.blocks_text behind one.blocks_given gave) (same_prec one.prec_text qs one.prec_given there))
  one_fault (in_columns s ps one acyclic is) (in_pairs t qs gave two) =
      let pairs = one_pairs blocks prec other_blocks other_prec same same_prec s t ps qs one gave in
      absurd (is_no_memory g some_too (only_memory acyclic_is_well_founded qs (rows t) g.refusal g (subst IsAcyclic pairs acyclic) two))
  one_fault (in_columns s ps one acyclic is) (in_columns t qs gave acyclic_too two) =
      let table = one_table blocks prec other_blocks other_prec same same_prec s t ps qs one gave in
      ap fault_text (one_columns_fault t revenue cost f g some some_too (subst (λ (w : Table). RefusesColumns w revenue cost f) table is) two)

deposit_fault : (r : Refusal) (fault : Fault) (blocks prec : Reading) (revenue cost : ℕ) → BlamesAText r → RefusesDeposit r fault blocks prec revenue cost → FirstDepositFault fault blocks prec revenue cost
deposit_fault NoMemory fault blocks prec revenue cost blames h = absurd blames
deposit_fault ReadFailed fault blocks prec revenue cost blames h = absurd blames
deposit_fault WriteFailed fault blocks prec revenue cost blames h = absurd blames
deposit_fault NoSeat fault blocks prec revenue cost blames h = absurd blames
deposit_fault (Exhausted count) fault blocks prec revenue cost blames h = absurd blames
deposit_fault _ fault blocks prec revenue cost blames h = h

run_fault : (mode : Mode) (direction : Direction) (r : Refusal) (fault : Fault) (blocks prec : Reading) (revenue cost : ℕ) (factors : List ℕ) (before after : Progress) → BlamesAText r
    → RefusesShellsRun mode direction r fault blocks prec revenue cost factors before after → RefusesDeposit r fault blocks prec revenue cost
run_fault mode direction WriteFailed fault blocks prec revenue cost factors before after blames h = absurd blames
run_fault mode direction NoSeat fault blocks prec revenue cost factors before after blames h = absurd blames
run_fault mode direction (Exhausted count) fault blocks prec revenue cost factors before after blames h = absurd blames
run_fault mode direction _ fault blocks prec revenue cost factors before after blames h = h.0

pub shell_faults_once : TablesFail → (blocks prec other_blocks other_prec : Reading) → ShellFaultsOnce blocks prec other_blocks other_prec
shell_faults_once law blocks prec other_blocks other_prec mode other_mode direction other_direction revenue cost factors other_factors before after other_before other_after fault second same same_prec some some_too h k =
    one_fault law blocks prec other_blocks other_prec same same_prec revenue cost fault second some some_too
    (deposit_fault fault.refusal fault blocks prec revenue cost some (run_fault mode direction fault.refusal fault blocks prec revenue cost factors before after some h))
    (deposit_fault second.refusal second other_blocks other_prec revenue cost some_too
    (run_fault other_mode other_direction second.refusal second other_blocks other_prec revenue cost other_factors other_before other_after some_too k))
