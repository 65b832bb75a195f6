-- Of two texts there is one first fault: each file has one, a text that has one spells nothing, and the cycle of pairs is one.
-- Where a run is done, both texts are spelled and the pairs have no cycle; so there is none.
use Rattle.std.proofs.Common.{◌≡◌, ℕ, ◌&&◌, Bool, inl, inr, refl, sym, ap, subst, ◌∙◌, List, ◌++◌}
use Rattle.std.specs.Prelude.{None, codes, decimal}
use Rattle.std.specs.List.{flat_map}
use Rattle.std.proofs.lemmas.Bool.{and_parts, true≢false}
use Rattle.minelib_reader.specs.Text.{rows_of, count_of_lines}
use Rattle.minelib_reader.specs.Upit.{Upit}
use Rattle.minelib_reader.specs.UpitGrammar.{SpellsUpit}
use Rattle.minelib_reader.specs.UpitFault.{upit_fault_at, IsFirstUpitFault}
use Rattle.minelib_reader.specs.PrecGrammar.{SpellsPrec}
use Rattle.minelib_reader.specs.PrecFault.{prec_fault_at, IsFirstPrecFault}
use Rattle.minelib_reader.specs.FixedGrammar.{SpellsFixed}
use Rattle.minelib_reader.specs.FixedFault.{fixed_fault_at, IsFirstFixedFault}
use Rattle.faults.specs.Refused.{clash, no_memory}
use Rattle.faults.specs.declared.fault.Fault.{Fault}
use Rattle.faults.specs.declared.refusal.Refusal.{Refusal}
use Rattle.faults.specs.declared.refusal.Refusal.TheVariants.{NoMemory, ReadFailed, WriteFailed, NoSeat, Exhausted, Cycle}
use Rattle.faults.specs.declared.source.Source.TheVariants.{Precedence}
use Rattle.minelib_reader.proofs.FirstFaultLemmas.{one_first}
use Rattle.minelib_reader.proofs.UpitGrammarLemmas as models
use Rattle.minelib_reader.proofs.PrecGrammarLemmas as precedences
use Rattle.minelib_reader.proofs.UpitFaultLemmas as model_faults
use Rattle.minelib_reader.proofs.PrecFaultLemmas as precedence_faults
use Rattle.minelib_reader.proofs.FixedGrammarLemmas as fixed
use Rattle.minelib_reader.proofs.FixedFaultLemmas as fixed_faults
use Rattle.mine_graph.specs.Faults.{RefusesPairs, IsGraphFault}
use Rattle.mine_graph.proofs.Acyclic.{acyclic_is_well_founded}
use Rattle.merging.proofs.Planning.{only_memory}
use Rattle.pit_model.specs.Graph.{IsAcyclic}
use Rattle.pit_model.specs.Cycle.{IsCycleList}
use Rattle.pit_model.specs.declared.direction.Direction.{Direction}
use Rattle.pit_model.specs.Pit.{Fixed, IsPit}
use Rattle.pit_model.specs.Fixed.{FixedLists, IsClash, fixed_of}
use Rattle.pit_model.specs.Mine.{Instance, instance_of}
use Rattle.pit_model.proofs.Fixed.{allowed_exists_unless_clash, closure_is_one}
use Rattle.pit_model.proofs.SamePairs.{pit_knows_no_order}
use Rattle.pit_model.proofs.OneCycle.{cycle_is_one, least_once}
use Rattle.report.specs.FaultText.{fault_text, detail_of, place_text, cycle_block}
use Rattle.commands.specs.Solve.{OptionalReading, no_reader, one_reader, gone, Files, FixedInstance, Gave, GaveFixed, GaveMine, IsPitText, OfChoice, FirstFault, in_model, in_prec, in_fixed, in_pairs, in_blocks, GaveInOrder, GaveFixedMine, HasNoClash, RefusesMine, fixed_in, mine_of}
use Rattle.commands.specs.Uniqueness.{ChoseAlike, IsUnread, ReadAlike, NeverFaulty, FaultsOnce}
use Rattle.commands.proofs.Uniqueness.{model_once, one_lists, one_model, one_precedence, mine_in_order}

-- a text that spells something has no fault
pub sound_model : (text : List ℕ) (m : Upit) (fault : Fault) → SpellsUpit text m → IsFirstUpitFault text fault → ⊥
sound_model text m fault spelled is =
    let read = models.reads (count_of_lines text) (rows_of text) m spelled in
    let none : upit_fault_at text is.place ≡ None = model_faults.clear_where_read (count_of_lines text) (rows_of text) m read is.place in
    let some = is.here in
    cc

pub sound_precedence : (n : ℕ) (text : List ℕ) (ps : List (ℕ × ℕ)) (fault : Fault) → SpellsPrec n text ps → IsFirstPrecFault n text fault → ⊥
sound_precedence n text ps fault spelled is =
    let read = precedences.reads n 0 0 (rows_of text) ps spelled in
    let none : prec_fault_at n text is.place ≡ None = precedence_faults.clear_where_read n 0 0 (rows_of text) ps read is.place in
    let some = is.here in
    cc

pub sound_fixed : (n : ℕ) (text : List ℕ) (lists : FixedLists) (fault : Fault) → SpellsFixed n text lists → IsFirstFixedFault n text fault → ⊥
sound_fixed n text lists fault spelled is =
    let read = fixed.reads n 0 (rows_of text) lists spelled in
    let none : fixed_fault_at n text is.place ≡ None = fixed_faults.clear_where_read n 0 (rows_of text) lists read is.place in
    let some = is.here in
    cc

no_reader_faulty : (d : OptionalReading) (m : ℕ) (fault : Fault) → ChoseAlike no_reader d → OfChoice d (λ r. (text : List ℕ) × Gave r text × IsFirstFixedFault m text fault) → ⊥
no_reader_faulty no_reader m fault alike faulty = faulty
no_reader_faulty (one_reader s) m fault alike faulty = alike
no_reader_faulty gone m fault alike faulty = faulty

-- where a fixed file spells something, it has no fault for whoever reads it
no_fixed_fault : (c d : OptionalReading) (n m : ℕ) (lists : FixedLists) (fault : Fault) → ChoseAlike c d → n ≡ m → GaveFixed c n lists
    → OfChoice d (λ r. (text : List ℕ) × Gave r text × IsFirstFixedFault m text fault) → ⊥
no_fixed_fault (one_reader r) (one_reader s) n m lists fault alike count given faulty =
    let text = alike given.0 faulty.0 given.1 faulty.1 in
    sound_fixed m faulty.0 lists fault (subst (λ i. SpellsFixed i faulty.0 lists) count (subst (λ t. SpellsFixed n t lists) text given.2)) faulty.2
no_fixed_fault no_reader d n m lists fault alike count given faulty = no_reader_faulty d m fault alike faulty
no_fixed_fault (one_reader r) no_reader n m lists fault alike count given faulty = absurd alike
no_fixed_fault (one_reader r) gone n m lists fault alike count given faulty = absurd alike
no_fixed_fault gone d n m lists fault alike count given faulty = absurd alike

-- a clash needs a barred block that each allowed set holds
no_clash : (direction : Direction) (mine : Instance) (fixed : Fixed) (pit : ℕ → Bool) (block : ℕ) → IsPit direction mine fixed pit → IsClash mine.pairs fixed block → ⊥
no_clash direction mine fixed pit block is clash =
    let dug = clash.dug in
    let both = and_parts (fixed.barred block) (dug block) clash.least.member in
    true≢false (sym both.1 ∙ (allowed_exists_unless_clash mine fixed dug clash.dug_is).1 (pit, is.allowed) block both.0)

-- where the readers gave a mine that has a pit, it has no clash, whoever reads it
module _ (files other : Files) (same : ReadAlike files other)
    (u : Upit) (ps : List (ℕ × ℕ)) (lists : FixedLists) (one : GaveMine files.model files.prec u ps) (fixed_one : GaveFixed files.fixed u.n lists)
    (direction : Direction) (text_of : List ℕ) (solved : IsPitText direction (mine_of u ps lists) text_of) where
  pit_has_no_clash : (fixed_mine : FixedInstance) → GaveFixedMine other fixed_mine → HasNoClash fixed_mine
  pit_has_no_clash fixed_mine h block named =
      let upit = one_model files.model files.prec other.model other.prec same.model same.prec u h.upit ps h.pairs one h.given in
      let pairs = one_precedence files.model files.prec other.model other.prec same.model same.prec u h.upit ps h.pairs one h.given in
      let same_lists = one_lists files.fixed other.fixed u.n h.upit.n lists fixed_mine.lists same.fixed (ap (λ (w : Upit). w.n) upit) fixed_one h.fixed_given in
      let here = subst (λ l. IsPit direction (mine_of u ps l).mine (fixed_of l) solved.pit) same_lists solved.is_pit in
      let there = subst (λ (w : Upit). IsPit direction (mine_of w ps fixed_mine.lists).mine (fixed_of fixed_mine.lists) solved.pit) upit here in
      let whole = subst (λ qs. IsPit direction (mine_of h.upit qs fixed_mine.lists).mine (fixed_of fixed_mine.lists) solved.pit) pairs there in
      let moved = pit_knows_no_order direction h.upit.n h.upit.values h.pairs fixed_mine.mine.pairs (fixed_of fixed_mine.lists) solved.pit h.same whole in
      let own = subst (λ n. IsPit direction (instance_of n h.upit.values fixed_mine.mine.pairs) (fixed_of fixed_mine.lists) solved.pit) (sym h.blocks) moved in
      no_clash direction fixed_mine.mine (fixed_of fixed_mine.lists) solved.pit block
      (subst (λ vs. IsPit direction (instance_of fixed_mine.mine.blocks vs fixed_mine.mine.pairs) (fixed_of fixed_mine.lists) solved.pit) (sym h.values) own) named

-- where the readers gave a mine without a cycle and without a clash, no run over the same texts finds a fault in them
module _ (files other : Files) (same : ReadAlike files other)
    (u : Upit) (ps : List (ℕ × ℕ)) (lists : FixedLists) (one : GaveMine files.model files.prec u ps) (fixed_one : GaveFixed files.fixed u.n lists) (acyclic : IsAcyclic ps)
    (clash_free : (fixed_mine : FixedInstance) → GaveFixedMine other fixed_mine → HasNoClash fixed_mine) where
  no_fault : (fault : Fault) → FirstFault fault other → fault ≡ no_memory
  no_fault fault (in_model text given is) =
      absurd (sound_model text u fault (subst (λ t. SpellsUpit t u) (same.model one.model_text text one.model_given given) one.model_spelled) is)
  no_fault fault (in_prec text behind upit given spelled prec_given is) =
      let m = model_once text u upit (subst (λ t. SpellsUpit t u) (same.model one.model_text text one.model_given given) one.model_spelled) spelled in
      let there = subst (λ t. SpellsPrec u.n t ps) (same.prec one.prec_text behind one.prec_given prec_given) one.prec_spelled in
      absurd (sound_precedence upit.n behind ps fault (subst (λ (v : Upit). SpellsPrec v.n behind ps) m there) is)
  no_fault fault (in_fixed upit pairs gave faulty) =
      let m = one_model files.model files.prec other.model other.prec same.model same.prec u upit ps pairs one gave in
      absurd (no_fixed_fault files.fixed other.fixed u.n upit.n lists fault same.fixed (ap (λ (w : Upit). w.n) m) fixed_one faulty)
  no_fault fault (in_pairs upit pairs named gave fixed_gave is) =
      only_memory acyclic_is_well_founded pairs upit.n fault.refusal fault (subst IsAcyclic (one_precedence files.model files.prec other.model other.prec same.model same.prec u upit ps pairs one gave) acyclic) is
  no_fault fault (in_blocks fixed_mine block gave named is) = absurd (clash_free fixed_mine gave block named)

  only_passing : (r : Refusal) (fault : Fault) → fault.refusal ≡ r → RefusesMine r fault other → IsUnread r
  only_passing NoMemory fault is h = inl refl
  only_passing ReadFailed fault is h = inr refl
  only_passing WriteFailed fault is h = absurd h
  only_passing NoSeat fault is h = absurd h
  only_passing (Exhausted count) fault is h = absurd h
  only_passing r fault is h = inl (sym is ∙ ap (λ (f : Fault). f.refusal) (no_fault fault h))

pub never_faulty : (files other : Files) → NeverFaulty files other
never_faulty files other direction before after status fault same done h =
    let a = done.solves in
    let clash_free = pit_has_no_clash files other same a.upit a.pairs a.lists a.given a.fixed_given direction done.text a.solved in
    only_passing files other same a.upit a.pairs a.lists a.given a.fixed_given a.acyclic clash_free fault.refusal fault refl h

-- and so where they gave a mine in order
pub given_is_faultless : (files other : Files) (fixed_mine : FixedInstance) (fault : Fault) → ReadAlike files other → GaveInOrder files fixed_mine → RefusesMine fault.refusal fault other → IsUnread fault.refusal
given_is_faultless files other fixed_mine fault same gave h =
    let a = gave.holds.gave in
    let clash_free = λ (there : FixedInstance) (given : GaveFixedMine other there). subst HasNoClash (mine_in_order files other same fixed_mine there a given) gave.holds.no_clash in
    only_passing files other same a.upit a.pairs fixed_mine.lists a.given a.fixed_given a.acyclic clash_free fault.refusal fault refl h

-- the text of a cycle's fault is that of its blocks
cycle_text : List ℕ → List ℕ
cycle_text blocks = codes "error " ++ decimal 14 ++ codes ": " ++ codes "cycle" ++ flat_map cycle_block blocks ++ codes " in precedence" ++ place_text Precedence 0 ++ codes "\n"

-- pairs that are refused name a cycle, unless memory is refused
names_cycle : (pairs : List (ℕ × ℕ)) (n : ℕ) (r : Refusal) (fault : Fault) → fault.refusal ≡ r → (fault ≡ no_memory → ⊥) → RefusesPairs pairs n r fault
    → (blocks : List ℕ) × IsCycleList pairs n blocks × (fault_text fault ≡ cycle_text blocks)
unfolding fault_text detail_of cycle_text
names_cycle pairs n NoMemory fault is other h = absurd (other h)
names_cycle pairs n (Cycle list) fault is other h = (list.items, h.0, rw (is, h.1, h.2) refl)
names_cycle pairs n r fault is other h = absurd h

pub one_cycle : (pairs : List (ℕ × ℕ)) (n : ℕ) (f g : Fault) → (f ≡ no_memory → ⊥) → (g ≡ no_memory → ⊥) → IsGraphFault pairs n f → IsGraphFault pairs n g → fault_text f ≡ fault_text g
one_cycle pairs n f g some some_too a b =
    let x = names_cycle pairs n f.refusal f refl some a in
    let y = names_cycle pairs n g.refusal g refl some_too b in
    x.2 ∙ ap cycle_text (cycle_is_one pairs n x.0 y.0 x.1 y.1) ∙ sym y.2

-- what stands before the fixed blocks is told alike
module _ (files other : Files) (same : ReadAlike files other) (f g : Fault) where
  model_model : (text behind : List ℕ) → Gave files.model text → Gave other.model behind → IsFirstUpitFault text f → IsFirstUpitFault behind g → fault_text f ≡ fault_text g
  model_model text behind given gave is two =
      ap fault_text (one_first (upit_fault_at behind) f g (subst (λ t. IsFirstUpitFault t f) (same.model text behind given gave) is) two)

  -- a fault of the model, where the other run found none there
  model_sound : (text behind : List ℕ) (upit : Upit) → Gave files.model text → Gave other.model behind → IsFirstUpitFault text f → SpellsUpit behind upit → ⊥
  model_sound text behind upit given gave is spelled = sound_model behind upit f spelled (subst (λ t. IsFirstUpitFault t f) (same.model text behind given gave) is)

  sound_too : (text behind : List ℕ) (upit : Upit) → Gave files.model text → Gave other.model behind → SpellsUpit text upit → IsFirstUpitFault behind g → ⊥
  sound_too text behind upit given gave spelled is = sound_model behind upit g (subst (λ t. SpellsUpit t upit) (same.model text behind given gave) spelled) is

  prec_prec : (text behind ps qs : List ℕ) (u v : Upit) → Gave files.model text → Gave other.model behind → SpellsUpit text u → SpellsUpit behind v
      → Gave files.prec ps → Gave other.prec qs → IsFirstPrecFault u.n ps f → IsFirstPrecFault v.n qs g → fault_text f ≡ fault_text g
  prec_prec text behind ps qs u v given gave spelled spelled_too here there is two =
      let m = model_once behind u v (subst (λ t. SpellsUpit t u) (same.model text behind given gave) spelled) spelled_too in
      let moved = subst (λ t. IsFirstPrecFault u.n t f) (same.prec ps qs here there) is in
      ap fault_text (one_first (prec_fault_at v.n qs) f g (subst (λ (w : Upit). IsFirstPrecFault w.n qs f) m moved) two)

  prec_sound : (text ps : List ℕ) (u v : Upit) (pairs : List (ℕ × ℕ)) → Gave files.model text → SpellsUpit text u → Gave files.prec ps → IsFirstPrecFault u.n ps f
      → GaveMine other.model other.prec v pairs → ⊥
  prec_sound text ps u v pairs given spelled here is gave =
      let m = model_once gave.model_text u v (subst (λ t. SpellsUpit t u) (same.model text gave.model_text given gave.model_given) spelled) gave.model_spelled in
      let moved = subst (λ t. IsFirstPrecFault u.n t f) (same.prec ps gave.prec_text here gave.prec_given) is in
      sound_precedence v.n gave.prec_text pairs f gave.prec_spelled (subst (λ (w : Upit). IsFirstPrecFault w.n gave.prec_text f) m moved)

  sound_prec : (behind qs : List ℕ) (u v : Upit) (pairs : List (ℕ × ℕ)) → GaveMine files.model files.prec u pairs → Gave other.model behind → SpellsUpit behind v
      → Gave other.prec qs → IsFirstPrecFault v.n qs g → ⊥
  sound_prec behind qs u v pairs one gave spelled there is =
      let m = model_once behind u v (subst (λ t. SpellsUpit t u) (same.model one.model_text behind one.model_given gave) one.model_spelled) spelled in
      let moved = subst (λ t. SpellsPrec u.n t pairs) (same.prec one.prec_text qs one.prec_given there) one.prec_spelled in
      sound_precedence v.n qs pairs g (subst (λ (w : Upit). SpellsPrec w.n qs pairs) m moved) is

  same_count : (u v : Upit) (ps qs : List (ℕ × ℕ)) → GaveMine files.model files.prec u ps → GaveMine other.model other.prec v qs → u.n ≡ v.n
  same_count u v ps qs one two = ap (λ (w : Upit). w.n) (one_model files.model files.prec other.model other.prec same.model same.prec u v ps qs one two)

same_fixed_fault : (c d : OptionalReading) (n m : ℕ) (f g : Fault) → ChoseAlike c d → n ≡ m → OfChoice c (λ r. (text : List ℕ) × Gave r text × IsFirstFixedFault n text f)
    → OfChoice d (λ r. (text : List ℕ) × Gave r text × IsFirstFixedFault m text g) → fault_text f ≡ fault_text g
same_fixed_fault (one_reader r) (one_reader s) n m f g alike count a b =
    let moved = subst (λ i. IsFirstFixedFault i b.0 f) count (subst (λ t. IsFirstFixedFault n t f) (alike a.0 b.0 a.1 b.1) a.2) in
    ap fault_text (one_first (fixed_fault_at m b.0) f g moved b.2)
same_fixed_fault no_reader d n m f g alike count a b = absurd a
same_fixed_fault gone d n m f g alike count a b = absurd a
same_fixed_fault (one_reader r) no_reader n m f g alike count a b = absurd b
same_fixed_fault (one_reader r) gone n m f g alike count a b = absurd b

pub alike_back : (c d : OptionalReading) → ChoseAlike c d → ChoseAlike d c
alike_back no_reader no_reader alike = tt
alike_back (one_reader r) (one_reader s) alike = λ text behind x y. sym (alike behind text y x)
alike_back no_reader (one_reader s) alike = absurd alike
alike_back no_reader gone alike = absurd alike
alike_back (one_reader r) no_reader alike = absurd alike
alike_back (one_reader r) gone alike = absurd alike
alike_back gone d alike = absurd alike

-- the least barred block that must be dug is one
one_clash : (pairs : List (ℕ × ℕ)) (fixed : Fixed) (a b : ℕ) → IsClash pairs fixed a → IsClash pairs fixed b → a ≡ b
one_clash pairs fixed a b x y =
    let same : (u : ℕ) → (fixed.barred u && x.dug u) ≡ (fixed.barred u && y.dug u) = λ u. ap (λ t. fixed.barred u && t) (closure_is_one pairs fixed.forced x.dug y.dug x.dug_is y.dug_is u) in
    least_once (λ u. fixed.barred u && x.dug u) (λ u. fixed.barred u && y.dug u) a b (λ u h. sym (same u) ∙ h) (λ u h. same u ∙ h) x.least y.least

module _ (files other : Files) (same : ReadAlike files other) (f g : Fault)
    (some : f ≡ no_memory → ⊥) (some_too : g ≡ no_memory → ⊥) where
  one_fault : FirstFault f files → FirstFault g other → fault_text f ≡ fault_text g
  one_fault (in_model text given is) (in_model behind gave two) = model_model files other same f g text behind given gave is two
  one_fault (in_model text given is) (in_prec behind qs v gave spelled there two) = absurd (model_sound files other same f g text behind v given gave is spelled)
  one_fault (in_model text given is) (in_fixed v qs gave two) = absurd (model_sound files other same f g text gave.model_text v given gave.model_given is gave.model_spelled)
  one_fault (in_model text given is) (in_pairs v qs lists gave fixed_gave two) = absurd (model_sound files other same f g text gave.model_text v given gave.model_given is gave.model_spelled)
  one_fault (in_model text given is) (in_blocks fixed_mine block gave named two) =
      let h = gave.given in absurd (model_sound files other same f g text h.model_text gave.upit given h.model_given is h.model_spelled)
  one_fault (in_prec text ps u given spelled here is) (in_model behind gave two) = absurd (sound_too files other same f g text behind u given gave spelled two)
  one_fault (in_prec text ps u given spelled here is) (in_prec behind qs v gave spelled_too there two) = prec_prec files other same f g text behind ps qs u v given gave spelled spelled_too here there is two
  one_fault (in_prec text ps u given spelled here is) (in_fixed v qs gave two) = absurd (prec_sound files other same f g text ps u v qs given spelled here is gave)
  one_fault (in_prec text ps u given spelled here is) (in_pairs v qs lists gave fixed_gave two) = absurd (prec_sound files other same f g text ps u v qs given spelled here is gave)
  one_fault (in_prec text ps u given spelled here is) (in_blocks fixed_mine block gave named two) =
      absurd (prec_sound files other same f g text ps u gave.upit gave.pairs given spelled here is gave.given)
  one_fault (in_fixed u ps one is) (in_model behind gave two) = absurd (sound_too files other same f g one.model_text behind u one.model_given gave one.model_spelled two)
  one_fault (in_fixed u ps one is) (in_prec behind qs v gave spelled there two) = absurd (sound_prec files other same f g behind qs u v ps one gave spelled there two)
  one_fault (in_fixed u ps one is) (in_fixed v qs gave two) = same_fixed_fault files.fixed other.fixed u.n v.n f g same.fixed (same_count files other same f g u v ps qs one gave) is two
  one_fault (in_fixed u ps one is) (in_pairs v qs lists gave fixed_gave two) =
      absurd (no_fixed_fault other.fixed files.fixed v.n u.n lists f (alike_back files.fixed other.fixed same.fixed) (sym (same_count files other same f g u v ps qs one gave)) fixed_gave is)
  one_fault (in_fixed u ps one is) (in_blocks fixed_mine block h named two) =
      absurd (no_fixed_fault other.fixed files.fixed h.upit.n u.n fixed_mine.lists f (alike_back files.fixed other.fixed same.fixed) (sym (same_count files other same f g u h.upit ps h.pairs one h.given)) h.fixed_given is)
  one_fault (in_pairs u ps lists one fixed_one is) (in_model behind gave two) = absurd (sound_too files other same f g one.model_text behind u one.model_given gave one.model_spelled two)
  one_fault (in_pairs u ps lists one fixed_one is) (in_prec behind qs v gave spelled there two) = absurd (sound_prec files other same f g behind qs u v ps one gave spelled there two)
  one_fault (in_pairs u ps lists one fixed_one is) (in_fixed v qs gave two) =
      absurd (no_fixed_fault files.fixed other.fixed u.n v.n lists g same.fixed (same_count files other same f g u v ps qs one gave) fixed_one two)
  one_fault (in_pairs u ps lists one fixed_one is) (in_pairs v qs others gave fixed_gave two) =
      let m = one_model files.model files.prec other.model other.prec same.model same.prec u v ps qs one gave in
      let p = one_precedence files.model files.prec other.model other.prec same.model same.prec u v ps qs one gave in
      one_cycle qs v.n f g some some_too (subst (λ rs. IsGraphFault rs v.n f) p (subst (λ (w : Upit). IsGraphFault ps w.n f) m is)) two
  one_fault (in_pairs u ps lists one fixed_one is) (in_blocks fixed_mine block h named two) =
      let p = one_precedence files.model files.prec other.model other.prec same.model same.prec u h.upit ps h.pairs one h.given in
      absurd (some (only_memory acyclic_is_well_founded ps u.n f.refusal f (subst IsAcyclic (sym p) h.acyclic) is))
  one_fault (in_blocks fixed_mine block one named is) (in_model behind gave two) =
      let h = one.given in absurd (sound_too files other same f g h.model_text behind one.upit h.model_given gave h.model_spelled two)
  one_fault (in_blocks fixed_mine block one named is) (in_prec behind qs v gave spelled there two) =
      absurd (sound_prec files other same f g behind qs one.upit v one.pairs one.given gave spelled there two)
  one_fault (in_blocks fixed_mine block h named is) (in_fixed v qs gave two) =
      absurd (no_fixed_fault files.fixed other.fixed h.upit.n v.n fixed_mine.lists g same.fixed (same_count files other same f g h.upit v h.pairs qs h.given gave) h.fixed_given two)
  one_fault (in_blocks fixed_mine block h named is) (in_pairs v qs others gave fixed_gave two) =
      let p = one_precedence files.model files.prec other.model other.prec same.model same.prec h.upit v h.pairs qs h.given gave in
      absurd (some_too (only_memory acyclic_is_well_founded qs v.n g.refusal g (subst IsAcyclic p h.acyclic) two))
  one_fault (in_blocks fixed_mine block one named is) (in_blocks task_too block_too gave named_too two) =
      let t = mine_in_order files other same fixed_mine task_too one gave in
      let here = subst (λ (x : FixedInstance). IsClash x.mine.pairs (fixed_in x) block) t named in
      ap fault_text (is ∙ ap clash (one_clash task_too.mine.pairs (fixed_in task_too) block block_too here named_too) ∙ sym two)

pub faults_once : (files other : Files) → FaultsOnce files other
faults_once files other fault second same some some_too a b = one_fault files other same fault second some some_too a b
