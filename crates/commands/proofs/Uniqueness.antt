-- The same bytes went through two readers, so they gave the same text; a text spells one model, one list of pairs, one table,
-- one certificate; and of these there is one pit, one list of shells, one answer.
use Rattle.std.proofs.Common.{◌≡◌, ℕ, ◌<◌, Bool, true, sym, ap, subst, ◌∙◌, List, ◌++◌, length}
use Rattle.std.specs.Prelude.{ℤ, pos}
use Rattle.std.proofs.lemmas.List.{append_cancel_left, ext_get_or}
use Rattle.minelib_reader.specs.Text.{rows_of, count_of_lines}
use Rattle.minelib_reader.specs.Upit.{Upit}
use Rattle.minelib_reader.specs.UpitGrammar.{SpellsUpit}
use Rattle.minelib_reader.specs.PrecGrammar.{SpellsPrec}
use Rattle.minelib_reader.specs.FixedGrammar.{SpellsFixed}
use Rattle.minelib_reader.specs.Table.{Table}
use Rattle.minelib_reader.specs.Column.{IsColumn}
use Rattle.minelib_reader.specs.BlocksGrammar.{SpellsTable}
use Rattle.minelib_reader.proofs.CheckLemmas.{same_value}
use Rattle.minelib_reader.proofs.UpitGrammarLemmas as models
use Rattle.minelib_reader.proofs.PrecGrammarLemmas as precedences
use Rattle.minelib_reader.proofs.FixedGrammarLemmas as fixed
use Rattle.minelib_reader.proofs.BlocksGrammarLemmas as tables
use Rattle.pit_model.specs.Graph.{Graph, AreRising, AreSamePairs}
use Rattle.pit_model.specs.Mine.{Instance, instance_of, members, worth}
use Rattle.pit_model.specs.declared.direction.Direction.{Direction}
use Rattle.pit_model.specs.Fixed.{FixedLists, IsFixedCertificate}
use Rattle.pit_model.specs.PitText.{pit_text}
use Rattle.pit_model.specs.Deposit.{Deposit}
use Rattle.pit_model.proofs.SamePairs.{turned}
use Rattle.pit_model.proofs.OneShells.{shells_are_one}
use Rattle.pit_model.proofs.Uniqueness.{pit_is_one, same_truth}
use Rattle.pit_model.proofs.OneOrder.{pairs_have_one_order}
use Rattle.certificate.specs.CertificateGrammar.{SpellsCertificate}
use Rattle.certificate.specs.CertificateLines.{PitAndFlow}
use Rattle.certificate.proofs.TextRead as certificates
use Rattle.merging.specs.Parts.{graph_of_instance}
use Rattle.mine_graph.proofs.Sorted.{same_joined}
use Rattle.nesting.specs.Prices.{Prices}
use Rattle.report.specs.AnswerText.{answer_text}
use Rattle.commands.specs.Solve.{OptionalReading, no_reader, one_reader, gone, Files, FixedInstance, Reading, Gave, GaveFixed, GaveInOrder, GaveMine, GaveFixedMine, IsPitText, fixed_in, mine_of}
use Rattle.commands.specs.Check.{AnswersText, Checks, status_of_answer}
use Rattle.commands.specs.Deposit.{GaveTable, GaveDeposit, deposit_of_table, rows}
use Rattle.commands.specs.ShellsRun.{IsShellsText}
use Rattle.commands.specs.Uniqueness.{ChoseAlike, GaveAlike, ReadAlike, SolvesOnce, NestsOnce, AnswerIsOne, ChecksOnce, PassesCheck}

-- a reader gave one text
pub given_once : (r : Reading) (a b : List ℕ) → Gave r a → Gave r b → a ≡ b
given_once r a b x y = append_cancel_left r.before.bytes a b (sym x.bytes ∙ y.bytes)

-- ---- what a text spells

pub model_once : (text : List ℕ) (m n : Upit) → SpellsUpit text m → SpellsUpit text n → m ≡ n
model_once text m n s t = same_value m n (sym (models.reads (count_of_lines text) (rows_of text) m s) ∙ models.reads (count_of_lines text) (rows_of text) n t)

pub pairs_once : (n : ℕ) (text : List ℕ) (ps qs : List (ℕ × ℕ)) → SpellsPrec n text ps → SpellsPrec n text qs → ps ≡ qs
pairs_once n text ps qs s t = same_value ps qs (sym (precedences.reads n 0 0 (rows_of text) ps s) ∙ precedences.reads n 0 0 (rows_of text) qs t)

pub table_once : (text : List ℕ) (s t : Table) → SpellsTable text s → SpellsTable text t → s ≡ t
table_once text s t a b = same_value s t (sym (tables.reads (rows_of text) s a) ∙ tables.reads (rows_of text) t b)

certificate_once : (graph : Graph) (lists : FixedLists) (text : List ℕ) (c d : PitAndFlow) → AreRising graph.pairs → SpellsCertificate graph lists text c → SpellsCertificate graph lists text d → c ≡ d
certificate_once graph lists text c d rise s t =
    same_value c d (sym (certificates.reads graph lists (count_of_lines text) (rows_of text) c rise s) ∙ certificates.reads graph lists (count_of_lines text) (rows_of text) d rise t)

-- the same pairs for as many blocks
pairs_given : (n k : ℕ) (t u : List ℕ) (ps qs : List (ℕ × ℕ)) → k ≡ n → t ≡ u → SpellsPrec n t ps → SpellsPrec k u qs → ps ≡ qs
pairs_given n k t u ps qs count same s v = pairs_once n u ps qs (subst (λ x. SpellsPrec n x ps) same s) (subst (λ i. SpellsPrec i u qs) count v)

-- ---- the mine that two readers gave

module _ (model prec other_model other_prec : Reading) (same : GaveAlike model other_model) (same_prec : GaveAlike prec other_prec) where
  pub one_model : (u v : Upit) (ps qs : List (ℕ × ℕ)) → GaveMine model prec u ps → GaveMine other_model other_prec v qs → u ≡ v
  one_model u v ps qs one other =
      let text = same one.model_text other.model_text one.model_given other.model_given in
      model_once other.model_text u v (subst (λ t. SpellsUpit t u) text one.model_spelled) other.model_spelled

  pub one_precedence : (u v : Upit) (ps qs : List (ℕ × ℕ)) → GaveMine model prec u ps → GaveMine other_model other_prec v qs → ps ≡ qs
  one_precedence u v ps qs one other =
      let n : v.n ≡ u.n = ap (λ (m : Upit). m.n) (sym (one_model u v ps qs one other)) in
      let text = same_prec one.prec_text other.prec_text one.prec_given other.prec_given in
      pairs_given u.n v.n one.prec_text other.prec_text ps qs n text one.prec_spelled other.prec_spelled

lists_once : (n : ℕ) (text : List ℕ) (l k : FixedLists) → SpellsFixed n text l → SpellsFixed n text k → l ≡ k
lists_once n text l k s t = same_value l k (sym (fixed.reads n 0 (rows_of text) l s) ∙ fixed.reads n 0 (rows_of text) k t)

-- the same fixed blocks for as many blocks
pub one_lists : (c d : OptionalReading) (n m : ℕ) (l k : FixedLists) → ChoseAlike c d → n ≡ m → GaveFixed c n l → GaveFixed d m k → l ≡ k
one_lists no_reader no_reader n m l k alike count one other = one ∙ sym other
one_lists (one_reader r) (one_reader s) n m l k alike count one other =
    let text = alike one.0 other.0 one.1 other.1 in
    lists_once m other.0 l k (subst (λ i. SpellsFixed i other.0 l) count (subst (λ t. SpellsFixed n t l) text one.2)) other.2
one_lists no_reader (one_reader s) n m l k alike count one other = absurd alike
one_lists no_reader gone n m l k alike count one other = absurd alike
one_lists (one_reader r) no_reader n m l k alike count one other = absurd alike
one_lists (one_reader r) gone n m l k alike count one other = absurd alike
one_lists gone d n m l k alike count one other = absurd alike

same_mine : (m n : Instance) → m.blocks ≡ n.blocks → m.values ≡ n.values → m.pairs ≡ n.pairs → m ≡ n
same_mine m n b v p = ap (λ k. instance_of k m.values m.pairs) b ∙ ap (λ vs. instance_of n.blocks vs m.pairs) v ∙ ap (instance_of n.blocks n.values) p

same_task : (m n : FixedInstance) → m.mine ≡ n.mine → m.lists ≡ n.lists → m ≡ n
same_task m n mine lists = ap (λ x. record { mine = x; lists = m.lists }) mine ∙ ap (λ l. record { mine = n.mine; lists = l }) lists

-- the mine with its fixed blocks and its pairs in order is one
pub mine_in_order : (files other : Files) → ReadAlike files other → (m n : FixedInstance) → GaveFixedMine files m → GaveFixedMine other n → m ≡ n
mine_in_order files other same m n x y =
    let u = one_model files.model files.prec other.model other.prec same.model same.prec x.upit y.upit x.pairs y.pairs x.given y.given in
    let p = one_precedence files.model files.prec other.model other.prec same.model same.prec x.upit y.upit x.pairs y.pairs x.given y.given in
    let l = one_lists files.fixed other.fixed x.upit.n y.upit.n m.lists n.lists same.fixed (ap (λ (w : Upit). w.n) u) x.fixed_given y.fixed_given in
    let pairs : AreSamePairs m.mine.pairs n.mine.pairs = same_joined m.mine.pairs x.pairs n.mine.pairs (turned x.pairs m.mine.pairs x.same) (subst (λ ps. AreSamePairs ps n.mine.pairs) (sym p) y.same) in
    let mine = same_mine m.mine n.mine (x.blocks ∙ ap (λ (w : Upit). w.n) u ∙ sym y.blocks) (x.values ∙ ap (λ (w : Upit). w.values) u ∙ sym y.values)
    (pairs_have_one_order m.mine.pairs n.mine.pairs pairs x.instance.graph.rising y.instance.graph.rising) in
    same_task m n mine l

-- ---- `solve`

pub one_text : (direction : Direction) (fixed_mine : FixedInstance) (s t : List ℕ) → IsPitText direction fixed_mine s → IsPitText direction fixed_mine t → s ≡ t
one_text direction fixed_mine s t a b =
    let mine = fixed_mine.mine in
    let same = pit_is_one direction mine (fixed_in fixed_mine) a.pit b.pit a.is_pit b.is_pit in
    a.is_text ∙ ap (λ xs. pit_text mine.blocks xs (worth mine a.pit)) same.listed ∙ ap (pit_text mine.blocks (members mine.blocks b.pit)) same.worths ∙ sym b.is_text

one_task : (files other : Files) → ReadAlike files other → (u v : Upit) (ps qs : List (ℕ × ℕ)) (l k : FixedLists) → GaveMine files.model files.prec u ps → GaveMine other.model other.prec v qs
    → GaveFixed files.fixed u.n l → GaveFixed other.fixed v.n k → mine_of u ps l ≡ mine_of v qs k
one_task files other same u v ps qs l k one two one_fixed two_fixed =
    let m = one_model files.model files.prec other.model other.prec same.model same.prec u v ps qs one two in
    let p = one_precedence files.model files.prec other.model other.prec same.model same.prec u v ps qs one two in
    let f = one_lists files.fixed other.fixed u.n v.n l k same.fixed (ap (λ (w : Upit). w.n) m) one_fixed two_fixed in
    ap (λ w. mine_of w ps l) m ∙ ap (λ rs. mine_of v rs l) p ∙ ap (mine_of v qs) f

pub solves_once : (files other : Files) → SolvesOnce files other
solves_once files other direction before after other_before other_after status other_status same done two =
    let a = done.solves in
    let b = two.solves in
    let fixed_mine = one_task files other same a.upit b.upit a.pairs b.pairs a.lists b.lists a.given b.given a.fixed_given b.fixed_given in
    let text = one_text direction (mine_of b.upit b.pairs b.lists) done.text two.text (subst (λ t. IsPitText direction t done.text) fixed_mine a.solved) b.solved in
    record { text = two.text; taken = done.wrote.0 ∙ ap (λ t. before.bytes ++ t) text; taken_too = two.wrote.0 }

-- ---- `shells`

one_column : (t : Table) (k : ℕ) (vs ws : List ℤ) → IsColumn t k vs → IsColumn t k ws → vs ≡ ws
one_column t k vs ws a b = ext_get_or (pos 0) vs ws (a.count ∙ sym b.count)
    (λ u l. let row : u < length t.places = subst (λ n. u < n) a.count l in a.each u row ∙ sym (b.each u row))

prices_of : List ℤ → List ℤ → Prices
prices_of revenues costs = record { revenues = revenues; costs = costs }

module _ (blocks prec other_blocks other_prec : Reading) (same : GaveAlike blocks other_blocks) (same_prec : GaveAlike prec other_prec) where
  pub one_table : (s t : Table) (ps qs : List (ℕ × ℕ)) → GaveTable blocks prec s ps → GaveTable other_blocks other_prec t qs → s ≡ t
  one_table s t ps qs one other =
      let text = same one.blocks_text other.blocks_text one.blocks_given other.blocks_given in
      table_once other.blocks_text s t (subst (λ x. SpellsTable x s) text one.blocks_spelled) other.blocks_spelled

  pub one_pairs : (s t : Table) (ps qs : List (ℕ × ℕ)) → GaveTable blocks prec s ps → GaveTable other_blocks other_prec t qs → ps ≡ qs
  one_pairs s t ps qs one other =
      let count : rows t ≡ rows s = ap rows (sym (one_table s t ps qs one other)) in
      let text = same_prec one.prec_text other.prec_text one.prec_given other.prec_given in
      pairs_given (rows s) (rows t) one.prec_text other.prec_text ps qs count text one.prec_spelled other.prec_spelled

  one_deposit : (revenue cost : ℕ) (d e : Deposit) → GaveDeposit blocks prec revenue cost d → GaveDeposit other_blocks other_prec revenue cost e → d ≡ e
  unfolding prices_of
  one_deposit revenue cost d e one other =
      let table = one_table one.table other.table one.pairs other.pairs one.given other.given in
      let pairs = one_pairs one.table other.table one.pairs other.pairs one.given other.given in
      let revenues = one_column other.table revenue one.prices.revenues other.prices.revenues (subst (λ t. IsColumn t revenue one.prices.revenues) table one.columns.revenues_are) other.columns.revenues_are in
      let costs = one_column other.table cost one.prices.costs other.prices.costs (subst (λ t. IsColumn t cost one.prices.costs) table one.columns.costs_are) other.columns.costs_are in
      let prices : one.prices ≡ other.prices = ap (λ r. prices_of r one.prices.costs) revenues ∙ ap (prices_of other.prices.revenues) costs in
      one.deposit_is ∙ ap (λ t. deposit_of_table t one.prices one.pairs) table ∙ ap (λ p. deposit_of_table other.table p one.pairs) prices
      ∙ ap (deposit_of_table other.table other.prices) pairs ∙ sym other.deposit_is

one_shells_text : (direction : Direction) (deposit : Deposit) (factors s t : List ℕ) → IsShellsText direction deposit factors s → IsShellsText direction deposit factors t → s ≡ t
one_shells_text direction deposit factors s t a b = a.is_text ∙ (shells_are_one direction deposit factors a.shells b.shells a.are b.are).1 ∙ sym b.is_text

pub nests_once : (blocks prec other_blocks other_prec : Reading) → NestsOnce blocks prec other_blocks other_prec
nests_once blocks prec other_blocks other_prec direction revenue cost factors before after other_before other_after status other_status same same_prec done other =
    let a = done.gives in
    let b = other.gives in
    let deposit = one_deposit blocks prec other_blocks other_prec same same_prec revenue cost a.deposit b.deposit a.given b.given in
    let text = one_shells_text direction b.deposit factors done.text other.text (subst (λ d. IsShellsText direction d factors done.text) deposit a.solved) b.solved in
    record { text = other.text; taken = done.wrote.0 ∙ ap (λ t. before.bytes ++ t) text; taken_too = other.wrote.0 }

-- ---- `check`

pub answer_is_one : AnswerIsOne
answer_is_one fixed_mine text answer other graph a b =
    let same = certificate_once (graph_of_instance fixed_mine.mine) fixed_mine.lists text a.shown b.shown graph.rising a.spelled b.spelled in
    same_truth answer other
    (λ yes. b.exact.1 (subst (λ (c : PitAndFlow). IsFixedCertificate fixed_mine.mine (fixed_in fixed_mine) c.pit c.flow) same (a.exact.0 yes)))
    (λ yes. a.exact.1 (subst (λ (c : PitAndFlow). IsFixedCertificate fixed_mine.mine (fixed_in fixed_mine) c.pit c.flow) (sym same) (b.exact.0 yes)))

module _ (files other : Files) (same : ReadAlike files other) where
  -- of one text there is one answer
  text_answers : (m n : FixedInstance) (s t : List ℕ) (answer second : Bool) → GaveInOrder files m → GaveInOrder other n → s ≡ t
      → AnswersText m s answer → AnswersText n t second → answer ≡ second
  text_answers m n s t answer second one two text a b =
      let fixed_mine = mine_in_order files other same m n one.holds.gave two.holds.gave in
      answer_is_one n t answer second two.ordered (subst (λ x. AnswersText x t answer) fixed_mine (subst (λ x. AnswersText m x answer) text a)) b

  one_answer : (certificate other_certificate : Reading) (answer second : Bool) → GaveAlike certificate other_certificate
      → Checks files certificate answer → Checks other other_certificate second → answer ≡ second
  one_answer certificate other_certificate answer second same_text a b =
      let x = a.answered in
      let y = b.answered in
      let text = same_text x.text y.text x.given y.given in
      text_answers a.fixed_mine b.fixed_mine x.text y.text answer second a.given b.given text x.answers y.answers

pub checks_once : (files other : Files) (certificate other_certificate : Reading) → ChecksOnce files other certificate other_certificate
checks_once files other certificate other_certificate before after other_before other_after status other_status same same_text done two =
    let answer = one_answer files other same certificate other_certificate done.answer two.answer same_text done.checks two.checks in (
      record { text = answer_text two.answer; taken = done.wrote.0 ∙ ap (λ b. before.bytes ++ answer_text b) answer; taken_too = two.wrote.0 },
      done.reported ∙ ap status_of_answer answer ∙ sym two.reported,
    )

pub passes_check : (files other : Files) (certificate : Reading) → PassesCheck files other certificate
passes_check files other certificate before after other_before other_after status same taken certified checked =
    let x = certified.answered in
    let y = checked.checks.answered in
    let text : certified.text ≡ y.text =
    append_cancel_left before.bytes certified.text taken.text (sym certified.wrote.0 ∙ taken.taken) ∙ given_once certificate taken.text y.text taken.given y.given in
    let answer : checked.answer ≡ true =
    sym (text_answers files other same x.fixed_mine checked.checks.fixed_mine certified.text y.text true checked.answer x.given checked.checks.given text x.yes y.answers) in
    (checked.reported ∙ ap status_of_answer answer, checked.wrote.0 ∙ ap (λ b. other_before.bytes ++ answer_text b) answer)
