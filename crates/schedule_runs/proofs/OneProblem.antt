-- Two texts spell one problem, or are refused in one way.
use Rattle.std.proofs.Common.{◌≡◌, ◌⊎◌, ℕ, zero, suc, ◌+◌, ◌*◌, ◌-◌, ◌<◌, ◌≤◌, List, ◌++◌, length, get_or, refl, sym, ap, subst, ◌∙◌, arith, ⊎_elim, Result, Ok, Err}
use Rattle.std.specs.Prelude.{ℤ, pos, None, codes, decimal}
use Rattle.std.specs.List.{flat_map}
use Rattle.std.proofs.lemmas.Bool.{cases_lt}
use Rattle.std.proofs.lemmas.List.{ext_get_or}
use Rattle.faults.specs.Refused.{no_memory}
use Rattle.faults.specs.declared.fault.Fault.{Fault}
use Rattle.faults.specs.declared.refusal.Refusal.{Refusal}
use Rattle.faults.specs.declared.refusal.Refusal.TheVariants.{NoMemory, ReadFailed, WriteFailed, Cycle}
use Rattle.faults.specs.declared.source.Source.TheVariants.{Precedence}
use Rattle.minelib_reader.specs.Answer.{FailsAt, FailsBy}
use Rattle.minelib_reader.specs.Text.{rows_of}
use Rattle.minelib_reader.specs.PrecGrammar.{SpellsPrec}
use Rattle.minelib_reader.specs.PrecFault.{prec_fault_at, IsFirstPrecFault}
use Rattle.minelib_reader.proofs.CheckLemmas.{same_value}
use Rattle.minelib_reader.proofs.FirstFaultLemmas.{one_first}
use Rattle.minelib_reader.proofs.PrecGrammarLemmas as precedences
use Rattle.minelib_reader.proofs.PrecFaultLemmas as precedence_faults
use Rattle.mine_graph.specs.Faults.{RefusesPairs, IsGraphFault}
use Rattle.mine_graph.proofs.Acyclic.{acyclic_is_well_founded}
use Rattle.mine_graph.proofs.Sorted.{same_joined}
use Rattle.pit_model.specs.Cycle.{IsCycleList}
use Rattle.pit_model.specs.Graph.{AreSamePairs, IsAcyclic, first_of, second_of}
use Rattle.pit_model.specs.Size.{most_pairs}
use Rattle.pit_model.proofs.OneCycle.{cycle_is_one}
use Rattle.pit_model.proofs.OneOrder.{pairs_have_one_order}
use Rattle.pit_model.proofs.SamePairs.{turned}
use Rattle.report.specs.FaultText.{fault_text, detail_of, place_text, cycle_block}
use Rattle.schedule_model.specs.declared.term.Effect.{Effect}
use Rattle.schedule_model.specs.declared.term.Effect.TheVariants.{Use}
use Rattle.schedule_model.specs.declared.term.Term.{Term}
use Rattle.schedule_model.specs.Problem.{Problem, no_term}
use Rattle.scheduling.specs.First.{IsFirstWithout}
use Rattle.schedule_texts.specs.ProblemText.{Lists, lists_in}
use Rattle.schedule_runs.specs.Limited.{AreInRangeOf, AreLawful, HasLawful, IsFirstOutOfRange, IsInRange, how_many, number_at, pairs_of_nodes, quantity_at, section_at, section_numbers, sizes_in}
use Rattle.schedule_runs.specs.ProblemRead.{AreTerms, IsProblemOf, IsUseTerm, IsValueTerm, SpellsGraph, SpellsProblem}
use Rattle.schedule_runs.specs.OneAnswer.{BlamesATextFor, IsSameRefusal}
use Rattle.schedule_runs.specs.Refusals.{BreaksLimit, BreaksOwnLimit, RefusesArcs, RefusesProblem}
use Rattle.schedule_runs.specs.declared.refused.Refused.{Refused}
use Rattle.schedule_runs.specs.declared.refused.Refused.TheVariants as refusals
use Rattle.schedule_runs.specs.declared.broken_limit.BrokenLimit.{BrokenLimit}
use Rattle.schedule_runs.specs.declared.broken_limit.BrokenLimit.TheVariants.{Count, Number, Pairs}
use Rattle.schedule_runs.specs.declared.broken_limit.Section.{Section}

-- the first place without is one
pub first_once : (Holds : ℕ → Type 0) (i j : ℕ) → IsFirstWithout Holds i → IsFirstWithout Holds j → i ≡ j
first_once Holds i j p q = ⊎_elim
    (λ (l : i < j). absurd (p.broken (q.before i l)))
    (λ (m : j ≤ i). ⊎_elim (λ (l : j < i). absurd (q.broken (p.before j l))) (λ (n : i ≤ j). let e : i ≡ j = omega arith in e) (cases_lt j i))
    (cases_lt i j)

-- ---- the faults of a text

fault_is : {Y : Type 0} (fault : Fault) (reading : Result Y Fault) (r : Refusal) → (fault ≡ no_memory → ⊥) → FailsBy r fault reading → reading ≡ Err fault
fault_is fault reading NoMemory some h = absurd (some h)
fault_is fault reading ReadFailed some h = absurd h
fault_is fault reading WriteFailed some h = absurd h
fault_is fault reading r some h = h

pub fault_once : {Y : Type 0} (reading : Result Y Fault) (f g : Fault) → (f ≡ no_memory → ⊥) → (g ≡ no_memory → ⊥) → FailsBy f.refusal f reading → FailsBy g.refusal g reading → f ≡ g
fault_once reading f g some some_too a b =
    let p = fault_is f reading f.refusal some a in
    let q = fault_is g reading g.refusal some_too b in
    cc

pub read_has_no_fault : {Y : Type 0} (reading : Result Y Fault) (x : Y) (f : Fault) → reading ≡ Ok x → (f ≡ no_memory → ⊥) → FailsBy f.refusal f reading → ⊥
read_has_no_fault reading x f read some a =
    let p = fault_is f reading f.refusal some a in
    cc

-- ---- the graph

fault_at_is : (fault : Fault) (IsFault : Fault → Type 0) (r : Refusal) → (fault ≡ no_memory → ⊥) → FailsAt r fault IsFault → IsFault fault
fault_at_is fault IsFault NoMemory some h = absurd (some h)
fault_at_is fault IsFault ReadFailed some h = absurd h
fault_at_is fault IsFault WriteFailed some h = absurd h
fault_at_is fault IsFault r some h = h

arcs_once : (n : ℕ) (text : List ℕ) (ps qs : List (ℕ × ℕ)) → SpellsPrec n text ps → SpellsPrec n text qs → ps ≡ qs
arcs_once n text ps qs s t = same_value ps qs (sym (precedences.reads n 0 0 (rows_of text) ps s) ∙ precedences.reads n 0 0 (rows_of text) qs t)

spelled_has_no_fault : (n : ℕ) (text : List ℕ) (ps : List (ℕ × ℕ)) (fault : Fault) → SpellsPrec n text ps → IsFirstPrecFault n text fault → ⊥
spelled_has_no_fault n text ps fault spelled is =
    let read = precedences.reads n 0 0 (rows_of text) ps spelled in
    let none : prec_fault_at n text is.place ≡ None = precedence_faults.clear_where_read n 0 0 (rows_of text) ps read is.place in
    let some = is.here in
    cc

graph_once : (n : ℕ) (text : List ℕ) (ps qs : List (ℕ × ℕ)) → SpellsGraph n text ps → SpellsGraph n text qs → ps ≡ qs
graph_once n text ps qs p q =
    let arcs : p.arcs ≡ q.arcs = arcs_once n text p.arcs q.arcs p.spelled q.spelled in
    let same : AreSamePairs ps qs = same_joined ps p.arcs qs (turned p.arcs ps p.same) (subst (λ (rs : List (ℕ × ℕ)). AreSamePairs rs qs) (sym arcs) q.same) in
    pairs_have_one_order ps qs same p.graph.rising q.graph.rising

acyclic_too : (ps qs : List (ℕ × ℕ)) → AreSamePairs ps qs → IsAcyclic qs → IsAcyclic ps
acyclic_too ps qs same falls = (
  falls.0,
  λ k h.
      let found = same.forth k h in
      let below = falls.1 found.0 found.1 in
      subst (λ (pair : ℕ × ℕ). falls.0 pair.1 < falls.0 pair.0) found.2 below,
)

memory_alone : (pairs : List (ℕ × ℕ)) (n : ℕ) (r : Refusal) (fault : Fault) → IsAcyclic pairs → RefusesPairs pairs n r fault → fault ≡ no_memory
memory_alone pairs n NoMemory fault falls is = is
memory_alone pairs n (Cycle list) fault falls is =
    let walked = is.0.walked in
    absurd (acyclic_is_well_founded pairs n is.0.set falls is.0.largest.needy (get_or is.0.walk 0 0) walked.first.member)
memory_alone pairs n r fault falls is = absurd is

pub graph_is_not_refused : (n : ℕ) (text : List ℕ) (ps : List (ℕ × ℕ)) (fault : Fault) → (fault ≡ no_memory → ⊥) → SpellsGraph n text ps → RefusesArcs n text fault → ⊥
graph_is_not_refused n text ps fault some p refused = ⊎_elim
    (λ (a : FailsAt fault.refusal fault (IsFirstPrecFault n text)). spelled_has_no_fault n text p.arcs fault p.spelled (fault_at_is fault (IsFirstPrecFault n text) fault.refusal some a))
    (λ (b : (arcs : List (ℕ × ℕ)) × SpellsPrec n text arcs × IsGraphFault arcs n fault).
    let arcs : p.arcs ≡ b.0 = arcs_once n text p.arcs b.0 p.spelled b.1 in
    some (memory_alone b.0 n fault.refusal fault (subst IsAcyclic arcs (acyclic_too p.arcs ps p.same p.graph.acyclic)) b.2))
    refused

-- the text of a cycle's fault is that of its blocks
cycle_text : List ℕ → List ℕ
cycle_text blocks = codes "error " ++ decimal 14 ++ codes ": " ++ codes "cycle" ++ flat_map cycle_block blocks ++ codes " in precedence" ++ place_text Precedence 0 ++ codes "\n"

names_cycle : (pairs : List (ℕ × ℕ)) (n : ℕ) (r : Refusal) (fault : Fault) → fault.refusal ≡ r → (fault ≡ no_memory → ⊥) → RefusesPairs pairs n r fault
    → (blocks : List ℕ) × IsCycleList pairs n blocks × (fault_text fault ≡ cycle_text blocks)
unfolding fault_text detail_of cycle_text
names_cycle pairs n NoMemory fault is other h = absurd (other h)
names_cycle pairs n (Cycle list) fault is other h = (list.items, h.0, rw (is, h.1, h.2) refl)
names_cycle pairs n r fault is other h = absurd h

one_cycle : (pairs : List (ℕ × ℕ)) (n : ℕ) (f g : Fault) → (f ≡ no_memory → ⊥) → (g ≡ no_memory → ⊥) → IsGraphFault pairs n f → IsGraphFault pairs n g → fault_text f ≡ fault_text g
one_cycle pairs n f g some some_too a b =
    let x = names_cycle pairs n f.refusal f refl some a in
    let y = names_cycle pairs n g.refusal g refl some_too b in
    x.2 ∙ ap cycle_text (cycle_is_one pairs n x.0 y.0 x.1 y.1) ∙ sym y.2

module _ (n : ℕ) (text : List ℕ) (f g : Fault) (some : f ≡ no_memory → ⊥) (some_too : g ≡ no_memory → ⊥) where
  pub arcs_refused_once : RefusesArcs n text f → RefusesArcs n text g → fault_text f ≡ fault_text g
  arcs_refused_once p q = ⊎_elim
      (λ (a : FailsAt f.refusal f (IsFirstPrecFault n text)). let first = fault_at_is f (IsFirstPrecFault n text) f.refusal some a in ⊎_elim
      (λ (b : FailsAt g.refusal g (IsFirstPrecFault n text)). ap fault_text (one_first (prec_fault_at n text) f g first (fault_at_is g (IsFirstPrecFault n text) g.refusal some_too b)))
      (λ (b : (arcs : List (ℕ × ℕ)) × SpellsPrec n text arcs × IsGraphFault arcs n g). absurd (spelled_has_no_fault n text b.0 f b.1 first))
      q)
      (λ (a : (arcs : List (ℕ × ℕ)) × SpellsPrec n text arcs × IsGraphFault arcs n f). ⊎_elim
      (λ (b : FailsAt g.refusal g (IsFirstPrecFault n text)). absurd (spelled_has_no_fault n text a.0 g a.1 (fault_at_is g (IsFirstPrecFault n text) g.refusal some_too b)))
      (λ (b : (arcs : List (ℕ × ℕ)) × SpellsPrec n text arcs × IsGraphFault arcs n g).
      one_cycle b.0 n f g some some_too (subst (λ (ps : List (ℕ × ℕ)). IsGraphFault ps n f) (arcs_once n text a.0 b.0 a.1 b.1) a.2) b.2)
      q)
      p

-- ---- the problem

term_of : ℕ → Effect → ℕ → ℕ → Term
term_of destination effect column lag = record { destination = destination; effect = effect; column = column; lag = lag }

same_term : (t u : Term) → pos t.destination ≡ pos u.destination → t.effect ≡ u.effect → pos t.column ≡ pos u.column → pos t.lag ≡ pos u.lag → t ≡ u
unfolding term_of
same_term t u d e c l =
    let dd : t.destination ≡ u.destination = cc in
    let cs : t.column ≡ u.column = cc in
    let ll : t.lag ≡ u.lag = cc in
    ap (λ x. term_of x t.effect t.column t.lag) dd ∙ ap (λ x. term_of u.destination x t.column t.lag) e ∙ ap (λ x. term_of u.destination u.effect x t.lag) cs ∙ ap (term_of u.destination u.effect u.column) ll

value_once : (values : List ℤ) (k : ℕ) (t u : Term) → IsValueTerm values k t → IsValueTerm values k u → t ≡ u
value_once values k t u p q = same_term t u (sym p.destination ∙ q.destination) (p.effect ∙ sym q.effect) (sym p.column ∙ q.column) (sym p.lag ∙ q.lag)

use_once : (uses : List ℤ) (k : ℕ) (t u : Term) → IsUseTerm uses k t → IsUseTerm uses k u → t ≡ u
use_once uses k t u p q =
    let a = p.limit_is in
    let b = q.limit_is in
    let limit : p.limit ≡ q.limit = cc in
    same_term t u (sym p.destination ∙ q.destination) (p.effect ∙ ap (λ r. Use r) limit ∙ sym q.effect) (sym p.column ∙ q.column) (sym p.lag ∙ q.lag)

terms_once : (lists : Lists) (ts us : List Term) → AreTerms lists ts → AreTerms lists us → ts ≡ us
terms_once lists ts us p q = ext_get_or no_term ts us (p.count ∙ sym q.count) (λ i h. ⊎_elim
    (λ (l : i < lists.sizes.values). value_once lists.values i (get_or ts i no_term) (get_or us i no_term) (p.values i l) (q.values i l))
    (λ (m : lists.sizes.values ≤ i).
    let k = i - lists.sizes.values in
    let is : lists.sizes.values + k ≡ i = omega arith in
    let count = p.count in
    let inside : k < lists.sizes.uses = omega arith in
    subst (λ j. get_or ts j no_term ≡ get_or us j no_term) is
    (use_once lists.uses k (get_or ts (lists.sizes.values + k) no_term) (get_or us (lists.sizes.values + k) no_term) (p.uses k inside) (q.uses k inside)))
    (cases_lt i lists.sizes.values))

same_problem : (a b : Problem) → a.blocks ≡ b.blocks → a.pairs ≡ b.pairs → a.periods ≡ b.periods → a.destinations ≡ b.destinations → a.columns ≡ b.columns → a.amounts ≡ b.amounts → a.terms ≡ b.terms
    → a.discounts ≡ b.discounts → a.limits ≡ b.limits → a.capacities ≡ b.capacities → a ≡ b
same_problem a b e1 e2 e3 e4 e5 e6 e7 e8 e9 e10 =
    ap (λ x. record a { blocks = x }) e1
    ∙ ap (λ x. record a { blocks = b.blocks; pairs = x }) e2
    ∙ ap (λ x. record a { blocks = b.blocks; pairs = b.pairs; periods = x }) e3
    ∙ ap (λ x. record a { blocks = b.blocks; pairs = b.pairs; periods = b.periods; destinations = x }) e4
    ∙ ap (λ x. record a { blocks = b.blocks; pairs = b.pairs; periods = b.periods; destinations = b.destinations; columns = x }) e5
    ∙ ap (λ x. record b { amounts = x; terms = a.terms; discounts = a.discounts; limits = a.limits; capacities = a.capacities }) e6
    ∙ ap (λ x. record b { terms = x; discounts = a.discounts; limits = a.limits; capacities = a.capacities }) e7
    ∙ ap (λ x. record b { discounts = x; limits = a.limits; capacities = a.capacities }) e8
    ∙ ap (λ x. record b { limits = x; capacities = a.capacities }) e9
    ∙ ap (λ x. record b { capacities = x }) e10

lists_once : (text : List ℕ) (a b : Lists) → lists_in text ≡ Ok a → lists_in text ≡ Ok b → a ≡ b
lists_once text a b p q = same_value a b (sym p ∙ q)

pub problem_once : (text precedence : List ℕ) (a b : Problem) → SpellsProblem text precedence a → SpellsProblem text precedence b → a ≡ b
problem_once text precedence a b p q =
    let e = lists_once text p.lists q.lists p.read q.read in
    let is : IsProblemOf q.lists a = subst (λ (l : Lists). IsProblemOf l a) e p.is in
    let graph : SpellsGraph q.lists.sizes.blocks precedence a.pairs = subst (λ (l : Lists). SpellsGraph l.sizes.blocks precedence a.pairs) e p.graph in
    let it = q.is in
    same_problem a b (is.blocks ∙ sym it.blocks) (graph_once q.lists.sizes.blocks precedence a.pairs b.pairs graph q.graph) (is.periods ∙ sym it.periods) (is.destinations ∙ sym it.destinations)
    (is.columns ∙ sym it.columns) (is.amounts ∙ sym it.amounts) (terms_once q.lists a.terms b.terms is.terms it.terms) (is.discounts ∙ sym it.discounts) (is.limits ∙ sym it.limits)
    (is.capacities ∙ sym it.capacities)

-- ---- the limits

-- a number out of range, where its section is in range
in_range_at : (lists : Lists) (s : Section) (i : ℕ) (a : IsFirstOutOfRange lists s i) → AreInRangeOf (sizes_in lists.sizes) (section_at a.place) (section_numbers lists (section_at a.place)) → ⊥
in_range_at lists s i a all =
    let own : AreInRangeOf (sizes_in lists.sizes) s (section_numbers lists s) = subst (λ (t : Section). AreInRangeOf (sizes_in lists.sizes) t (section_numbers lists t)) (sym a.is) all in
    a.first.broken (own i a.listed)

number_once : (lists : Lists) (s t : Section) (i j : ℕ) → IsFirstOutOfRange lists s i → IsFirstOutOfRange lists t j → Number s i ≡ Number t j
number_once lists s t i j a b = ⊎_elim
    (λ (l : a.place < b.place). absurd (in_range_at lists s i a (b.before a.place l)))
    (λ (m : b.place ≤ a.place). ⊎_elim
    (λ (l : b.place < a.place). absurd (in_range_at lists t j b (a.before b.place l)))
    (λ (n : a.place ≤ b.place).
    let place : a.place ≡ b.place = omega arith in
    let section : s ≡ t = a.is ∙ ap section_at place ∙ sym b.is in
    let first : IsFirstWithout (λ k. IsInRange (sizes_in lists.sizes) t k (number_at (section_numbers lists t) k)) i =
    subst (λ (u : Section). IsFirstWithout (λ k. IsInRange (sizes_in lists.sizes) u k (number_at (section_numbers lists u) k)) i) section a.first in
    let same = first_once (λ k. IsInRange (sizes_in lists.sizes) t k (number_at (section_numbers lists t) k)) i j first b.first in
    ap (λ x. Number x i) section ∙ ap (Number t) same)
    (cases_lt b.place a.place))
    (cases_lt a.place b.place)

unlawful_once : (lists : Lists) (precedence : List ℕ) (one other : BrokenLimit) → BreaksOwnLimit lists one → BreaksOwnLimit lists other → one ≡ other
unlawful_once lists precedence (Count q n) (Count r m) a b =
    let same = first_once (HasLawful lists.sizes) a.place b.place a.first b.first in
    let quantity : q ≡ r = a.is ∙ ap quantity_at same ∙ sym b.is in
    let count : n ≡ m = a.count ∙ ap (how_many lists.sizes) quantity ∙ sym b.count in
    ap (λ x. Count x n) quantity ∙ ap (Count r) count
unlawful_once lists precedence (Count q n) (Number s i) a b = absurd (a.first.broken (b.0 a.place a.inside))
unlawful_once lists precedence (Number s i) (Count q n) a b = absurd (b.first.broken (a.0 b.place b.inside))
unlawful_once lists precedence (Number s i) (Number t j) a b = number_once lists s t i j a.1 b.1
unlawful_once lists precedence (Pairs n) other a b = absurd a
unlawful_once lists precedence one (Pairs n) a b = absurd b

own_is_kept : (lists : Lists) (limit : BrokenLimit) → AreLawful lists → BreaksOwnLimit lists limit → ⊥
own_is_kept lists (Count q n) lawful a = a.first.broken (lawful.counts a.place a.inside)
own_is_kept lists (Number s i) lawful a = in_range_at lists s i a.1 (lawful.numbers a.1.place a.1.inside)
own_is_kept lists (Pairs n) lawful a = a

limit_once : (lists : Lists) (precedence : List ℕ) (one other : BrokenLimit) → BreaksLimit lists precedence one → BreaksLimit lists precedence other → one ≡ other
limit_once lists precedence (Pairs n) (Pairs m) a b =
    let pairs = graph_once lists.sizes.blocks precedence a.1.0 b.1.0 a.1.1 b.1.1 in
    let count : n ≡ m = a.1.2 ∙ ap (pairs_of_nodes lists) pairs ∙ sym b.1.2 in
    ap (λ x. Pairs x) count
limit_once lists precedence (Pairs n) (Count q m) a b = absurd (own_is_kept lists (Count q m) a.0 b)
limit_once lists precedence (Pairs n) (Number s i) a b = absurd (own_is_kept lists (Number s i) a.0 b)
limit_once lists precedence (Count q n) (Pairs m) a b = absurd (own_is_kept lists (Count q n) b.0 a)
limit_once lists precedence (Number s i) (Pairs m) a b = absurd (own_is_kept lists (Number s i) b.0 a)
limit_once lists precedence (Count q n) (Count r m) a b = unlawful_once lists precedence (Count q n) (Count r m) a b
limit_once lists precedence (Count q n) (Number s i) a b = unlawful_once lists precedence (Count q n) (Number s i) a b
limit_once lists precedence (Number s i) (Count q n) a b = unlawful_once lists precedence (Number s i) (Count q n) a b
limit_once lists precedence (Number s i) (Number t j) a b = unlawful_once lists precedence (Number s i) (Number t j) a b

-- a limit that is broken, where the numbers are lawful, is that of the pairs of nodes
pairs_alone : (lists : Lists) (precedence : List ℕ) (limit : BrokenLimit) → AreLawful lists → ((pairs : List (ℕ × ℕ)) → SpellsGraph lists.sizes.blocks precedence pairs → most_pairs < pairs_of_nodes lists pairs → ⊥)
    → BreaksLimit lists precedence limit → ⊥
pairs_alone lists precedence (Count q n) lawful none a = own_is_kept lists (Count q n) lawful a
pairs_alone lists precedence (Number s i) lawful none a = own_is_kept lists (Number s i) lawful a
pairs_alone lists precedence (Pairs n) lawful none a = none a.1.0 a.1.1 (subst (λ m. most_pairs < m) a.1.2 a.1.3)

pub problem_is_not_refused : (text precedence : List ℕ) (problem : Problem) (e : Refused) → BlamesATextFor e → SpellsProblem text precedence problem → RefusesProblem text precedence e → ⊥
problem_is_not_refused text precedence problem refusals.NoMemory blames p a = blames
problem_is_not_refused text precedence problem (refusals.Problem f) blames p a = read_has_no_fault (lists_in text) p.lists f p.read blames a
problem_is_not_refused text precedence problem (refusals.Beyond limit) blames p a =
    let here : BreaksLimit p.lists precedence limit = subst (λ (l : Lists). BreaksLimit l precedence limit) (lists_once text a.0 p.lists a.1 p.read) a.2 in
    pairs_alone p.lists precedence limit p.lawful (λ pairs graph many.
    let few : pairs_of_nodes p.lists pairs ≤ most_pairs = subst (λ (ps : List (ℕ × ℕ)). pairs_of_nodes p.lists ps ≤ most_pairs) (graph_once p.lists.sizes.blocks precedence problem.pairs pairs p.graph graph) p.few_pairs in
    omega arith) here
problem_is_not_refused text precedence problem (refusals.Precedence f) blames p a =
    graph_is_not_refused p.lists.sizes.blocks precedence problem.pairs f blames p.graph (subst (λ (l : Lists). RefusesArcs l.sizes.blocks precedence f) (lists_once text a.0 p.lists a.1 p.read) a.3)
problem_is_not_refused text precedence problem e blames p a = absurd a

pub problem_is_refused_once : (text precedence : List ℕ) (e f : Refused) → BlamesATextFor e → BlamesATextFor f → RefusesProblem text precedence e → RefusesProblem text precedence f → IsSameRefusal e f
problem_is_refused_once text precedence refusals.NoMemory f x y a b = absurd x
problem_is_refused_once text precedence e refusals.NoMemory x y a b = absurd y
problem_is_refused_once text precedence (refusals.Problem f) (refusals.Problem g) x y a b = ap (λ z. refusals.Problem z) (fault_once (lists_in text) f g x y a b)
problem_is_refused_once text precedence (refusals.Problem f) (refusals.Beyond l) x y a b = absurd (read_has_no_fault (lists_in text) b.0 f b.1 x a)
problem_is_refused_once text precedence (refusals.Problem f) (refusals.Precedence g) x y a b = absurd (read_has_no_fault (lists_in text) b.0 f b.1 x a)
problem_is_refused_once text precedence (refusals.Beyond l) (refusals.Problem g) x y a b = absurd (read_has_no_fault (lists_in text) a.0 g a.1 y b)
problem_is_refused_once text precedence (refusals.Precedence f) (refusals.Problem g) x y a b = absurd (read_has_no_fault (lists_in text) a.0 g a.1 y b)
problem_is_refused_once text precedence (refusals.Beyond l) (refusals.Beyond k) x y a b =
    ap (λ z. refusals.Beyond z) (limit_once b.0 precedence l k (subst (λ (z : Lists). BreaksLimit z precedence l) (lists_once text a.0 b.0 a.1 b.1) a.2) b.2)
problem_is_refused_once text precedence (refusals.Beyond l) (refusals.Precedence g) x y a b =
    absurd (pairs_alone b.0 precedence l b.2 (λ pairs graph many. graph_is_not_refused b.0.sizes.blocks precedence pairs g y graph b.3) (subst (λ (z : Lists). BreaksLimit z precedence l) (lists_once text a.0 b.0 a.1 b.1) a.2))
problem_is_refused_once text precedence (refusals.Precedence f) (refusals.Beyond l) x y a b =
    absurd (pairs_alone a.0 precedence l a.2 (λ pairs graph many. graph_is_not_refused a.0.sizes.blocks precedence pairs f x graph a.3) (subst (λ (z : Lists). BreaksLimit z precedence l) (lists_once text b.0 a.0 b.1 a.1) b.2))
problem_is_refused_once text precedence (refusals.Precedence f) (refusals.Precedence g) x y a b =
    arcs_refused_once b.0.sizes.blocks precedence f g x y (subst (λ (z : Lists). RefusesArcs z.sizes.blocks precedence f) (lists_once text a.0 b.0 a.1 b.1) a.3) b.3
problem_is_refused_once text precedence (refusals.Problem f) e x y a b = absurd b
problem_is_refused_once text precedence (refusals.Beyond l) e x y a b = absurd b
problem_is_refused_once text precedence (refusals.Precedence f) e x y a b = absurd b
problem_is_refused_once text precedence e f x y a b = absurd a
