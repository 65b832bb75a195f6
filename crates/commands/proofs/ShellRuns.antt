-- The shells of the deposit that was read give the text of the shells of the deposit that the files spell: pairs stand there
-- in another order, and that order does not matter.
use Rattle.std.proofs.Common.{◌≡◌, ℕ, zero, suc, ◌+◌, arith, refl, sym, ap, subst, ◌∙◌, List, get_or, not, Bool, true}
use Rattle.std.specs.Prelude.{Ok, Err, Some, None}
use Rattle.std.specs.List.{range_with_len, All}
use Rattle.std.specs.List.Sorted.{IsStrictlyIncreasing}
use Rattle.pit_model.proofs.Members.{members_rise}
use Rattle.minelib_reader.specs.Device.{Progress, Writes}
use Rattle.faults.specs.Refused.{write_failed}
use Rattle.faults.specs.declared.fault.Fault.{Fault}
use Rattle.faults.specs.declared.refusal.Refusal.{Refusal}
use Rattle.faults.specs.declared.refusal.Refusal.TheVariants.{NoMemory, NoSeat, Exhausted, WriteFailed}
use Rattle.pit_model.specs.declared.shell.Shell.{Shell}
use Rattle.pit_model.specs.declared.direction.Direction.{Direction}
use Rattle.pit_model.specs.Pit.{IsPit, no_blocks_fixed}
use Rattle.pit_model.specs.Graph.{Graph, AreSamePairs}
use Rattle.pit_model.specs.Mine.{Instance}
use Rattle.pit_model.specs.Part.{IsPart}
use Rattle.pit_model.specs.Deposit.{Deposit, mine_at, values_at}
use Rattle.pit_model.specs.Shells.{AreShells, IsShellBefore, IsRest, factor_of}
use Rattle.pit_model.specs.ShellText.{shells_text}
use Rattle.pit_model.proofs.SamePairs.{turned, pit_knows_no_order}
use Rattle.solver.specs.declared.mode.Mode.{Mode}
use Rattle.solver.specs.declared.mode.Mode.TheVariants.{Single, Parts, Shared}
use Rattle.nesting.specs.Prices.{Prices, deposit_of}
use Rattle.shells.specs.ByMode.{EachEndsWithin, RefusesShells}
use Rattle.commands.specs.Solve.{Reading}
use Rattle.commands.specs.Deposit.{deposit_of_table, rows, GaveDeposit, HoldsDeposit, RefusesDeposit}
use Rattle.commands.specs.ShellsRun.{GivesShells, HoldsOfDeposit, IsShellsCut, IsShellsDone, RefusesShellsRun}
use Rattle.commands.specs.declared.status.Status.TheVariants.{Done}

abbrev graph_with : ℕ → List (ℕ × ℕ) → Graph
graph_with n pairs = record { blocks = n; pairs = pairs }

-- the same pairs, in another order
module _ (direction : Direction) (prices : Prices) (n : ℕ) (ps qs : List (ℕ × ℕ)) (same : AreSamePairs ps qs) where
  pit_moves : (factor : ℕ) (set : ℕ → Bool) → IsPit direction (mine_at (deposit_of prices (graph_with n ps)) factor) no_blocks_fixed set → IsPit direction (mine_at (deposit_of prices (graph_with n qs)) factor) no_blocks_fixed set
  pit_moves factor set pit = pit_knows_no_order direction n (values_at (deposit_of prices (graph_with n ps)) factor (range_with_len 0 n)) ps qs no_blocks_fixed set same pit

  pub shells_move : (factors : List ℕ) (shells : List Shell) → AreShells direction (deposit_of prices (graph_with n ps)) factors shells → AreShells direction (deposit_of prices (graph_with n qs)) factors shells
  shells_move factors shells are = record {
    factors_are = are.factors_are;
    each = λ j d l. let s = are.each j d l in record { set = s.set; listed = s.listed; is_pit = pit_moves (get_or shells j d).factor s.set s.is_pit; worth_is = s.worth_is };
    nested = are.nested;
  }

  before_moves : (factors : List ℕ) (k : ℕ) (before : ℕ → Bool) → IsShellBefore direction (deposit_of prices (graph_with n ps)) factors k before → IsShellBefore direction (deposit_of prices (graph_with n qs)) factors k before
  before_moves factors zero before is = is
  before_moves factors (suc k) before is = pit_moves (factor_of factors k) before is

  part_moves : (set : ℕ → Bool) (blocks : List ℕ) (part : Graph) → IsPart (graph_with n ps) set blocks part → IsPart (graph_with n qs) set blocks part
  part_moves set blocks part is = record {
    blocks_are = is.blocks_are;
    count = is.count;
    inside = λ k l.
        let there = is.inside k l in
        let at = same.forth there.0 there.1 in
        (at.0, at.1, (there.2.0 ∙ ap (λ (q : ℕ × ℕ). q.0) (sym at.2), there.2.1 ∙ ap (λ (q : ℕ × ℕ). q.1) (sym at.2)));
    all = λ l below out out2.
        let at = same.back l below in
        let there = is.all at.0 at.1 (subst (λ (q : ℕ × ℕ). set q.0 ≡ true) (sym at.2) out) (subst (λ (q : ℕ × ℕ). set q.1 ≡ true) (sym at.2) out2) in
        (there.0, there.1, (there.2.0 ∙ ap (λ (q : ℕ × ℕ). q.0) at.2, there.2.1 ∙ ap (λ (q : ℕ × ℕ). q.1) at.2));
  }

  rest_moves : (factors : List ℕ) (k : ℕ) (rest : Instance) → IsRest direction (deposit_of prices (graph_with n ps)) factors k rest → IsRest direction (deposit_of prices (graph_with n qs)) factors k rest
  rest_moves factors k rest is = record {
    before = is.before;
    is_before = before_moves factors k is.before is.is_before;
    blocks = is.blocks;
    part = is.part;
    outside = record { is_part = part_moves (λ u. not (is.before u)) is.blocks is.part is.outside.is_part; is_graph = is.outside.is_graph };
    rest_is = is.rest_is;
  }

  pub within_moves : (mode : Mode) (factors : List ℕ) → EachEndsWithin mode direction (deposit_of prices (graph_with n ps)) factors → EachEndsWithin mode direction (deposit_of prices (graph_with n qs)) factors
  within_moves (Single (Some budget)) factors each k l = let h = each k l in (h.0, rest_moves factors k h.0 h.1, h.2)
  within_moves (Single None) factors each k l = tt
  within_moves Parts factors each k l = tt
  within_moves (Shared workers budget chunk) factors each k l = let h = each k l in (h.0, rest_moves factors k h.0 h.1, h.2)

  pub refused_moves : (mode : Mode) (factors : List ℕ) (r : Refusal) (e : Fault) → RefusesShells mode direction (deposit_of prices (graph_with n ps)) factors r e → RefusesShells mode direction (deposit_of prices (graph_with n qs)) factors r e
  refused_moves mode factors NoMemory e h = h
  refused_moves mode factors _ e h = (h.0, h.1, (h.2.0, rest_moves factors h.0 h.2.0 h.2.1, h.2.2))

-- the deposit that was read is the one that the files spell, with its pairs in order
module _ (direction : Direction) (blocks prec : Reading) (revenue cost : ℕ) (prices : Prices) (graph : Graph) (holds : HoldsDeposit blocks prec revenue cost prices graph) where
  spelled : Deposit
  spelled = deposit_of_table holds.table prices holds.pairs

  gave : GaveDeposit blocks prec revenue cost (deposit_of_table holds.table prices holds.pairs)
  gave = record { table = holds.table; pairs = holds.pairs; prices = prices; given = holds.given; acyclic = holds.acyclic; columns = holds.columns; deposit_is = refl }

  counted : (P : ℕ → Type 0) → P graph.blocks → P (rows holds.table)
  counted P h = subst P holds.count h

  gives : (factors : List ℕ) (shells : List Shell) (m : ℕ) → m ≡ graph.blocks → AreShells direction (deposit_of prices graph) factors shells → GivesShells direction blocks prec revenue cost factors (shells_text m shells)
  gives factors shells m count are = record {
    deposit = deposit_of_table holds.table prices holds.pairs;
    given = gave;
    solved = record {
      shells = shells;
      are = shells_move direction prices (rows holds.table) graph.pairs holds.pairs (turned holds.pairs graph.pairs holds.same) factors shells
          (subst (λ n. AreShells direction (deposit_of prices (graph_with n graph.pairs)) factors shells) holds.count are);
      is_text = ap (λ n. shells_text n shells) (count ∙ holds.count);
    };
  }

  pub shells_done : (factors : List ℕ) (shells : List Shell) (m : ℕ) (before after : Progress) → m ≡ graph.blocks → AreShells direction (deposit_of prices graph) factors shells
      → Writes {E = Fault} before after (shells_text m shells) (Ok tt) → IsShellsDone direction blocks prec revenue cost factors before after Done
  shells_done factors shells m before after count are w = record {
    done = refl;
    text = shells_text m shells;
    gives = gives factors shells m count are;
    wrote = w;
  }

  pub shells_within : (mode : Mode) (factors : List ℕ) → EachEndsWithin mode direction (deposit_of prices graph) factors → HoldsOfDeposit blocks prec revenue cost (λ deposit. EachEndsWithin mode direction deposit factors)
  shells_within mode factors each = (
    deposit_of_table holds.table prices holds.pairs,
    gave,
    within_moves direction prices (rows holds.table) graph.pairs holds.pairs (turned holds.pairs graph.pairs holds.same) mode factors
        (subst (λ n. EachEndsWithin mode direction (deposit_of prices (graph_with n graph.pairs)) factors) holds.count each),
  )

  pub shells_cut : (mode : Mode) (factors : List ℕ) (shells : List Shell) (m : ℕ) (before after : Progress) (e : Fault) → m ≡ graph.blocks → AreShells direction (deposit_of prices graph) factors shells
      → EachEndsWithin mode direction (deposit_of prices graph) factors → e ≡ write_failed → Writes {E = Fault} before after (shells_text m shells) (Err e)
      → RefusesShellsRun mode direction e.refusal e blocks prec revenue cost factors before after
  shells_cut mode factors shells m before after e count are within failed w =
      let cut : IsShellsCut direction blocks prec revenue cost factors before after = record {
        text = shells_text m shells;
        gives = gives factors shells m count are;
        wrote = w;
      } in
      subst (λ f. RefusesShellsRun mode direction f.refusal f blocks prec revenue cost factors before after) (sym failed) (refl, shells_within mode factors within, cut)

  moved : (mode : Mode) (factors : List ℕ) (r : Refusal) (e : Fault) → RefusesShells mode direction (deposit_of prices graph) factors r e → RefusesShells mode direction (deposit_of_table holds.table prices holds.pairs) factors r e
  moved mode factors r e h =
      refused_moves direction prices (rows holds.table) graph.pairs holds.pairs (turned holds.pairs graph.pairs holds.same) mode factors r e
      (subst (λ n. RefusesShells mode direction (deposit_of prices (graph_with n graph.pairs)) factors r e) holds.count h)

  pub shells_refused : (mode : Mode) (factors : List ℕ) (r : Refusal) (e : Fault) (out : Progress) → RefusesShells mode direction (deposit_of prices graph) factors r e → RefusesShellsRun mode direction r e blocks prec revenue cost factors out out
  shells_refused mode factors NoMemory e out h = ((h, holds.given.blocks_given.failures, holds.given.prec_given.failures), refl)
  shells_refused mode factors NoSeat e out h = ((deposit_of_table holds.table prices holds.pairs, gave, moved mode factors NoSeat e h), refl)
  shells_refused mode factors (Exhausted count) e out h = ((deposit_of_table holds.table prices holds.pairs, gave, moved mode factors (Exhausted count) e h), refl)
  shells_refused mode factors _ e out h = absurd h.2.2

pub deposit_refused : (mode : Mode) (direction : Direction) (r : Refusal) (e : Fault) (blocks prec : Reading) (revenue cost : ℕ) (factors : List ℕ) (out : Progress) → RefusesDeposit r e blocks prec revenue cost → RefusesShellsRun mode direction r e blocks prec revenue cost factors out out
deposit_refused mode direction WriteFailed e blocks prec revenue cost factors out h = absurd h
deposit_refused mode direction NoSeat e blocks prec revenue cost factors out h = absurd h
deposit_refused mode direction (Exhausted count) e blocks prec revenue cost factors out h = absurd h
deposit_refused mode direction _ e blocks prec revenue cost factors out h = (h, refl)

-- the blocks of shells rise
pub shells_rise : (direction : Direction) (deposit : Deposit) (factors : List ℕ) (shells : List Shell) → AreShells direction deposit factors shells → All (λ shell. IsStrictlyIncreasing shell.pit.items) shells
shells_rise direction deposit factors shells are i d l =
    let s = are.each i d l in
    subst (λ (xs : List ℕ). IsStrictlyIncreasing xs) (sym s.listed) (λ k m. members_rise deposit.blocks s.set k (k + 1) (omega arith) m)
